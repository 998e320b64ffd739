use Rattle.std.proofs.Common.{ap, ◌∙◌, sym, refl, pos}
use Rattle.osm_base.specs.declared.content.Content.TheVariants.{Node}
use Rattle.osm_base.proofs.PlaceLaws.{coord_as}
use Rattle.server_world.specs.Bases.{empty_content}
use Rattle.server_world.proofs.bases.empty_content.Goals as goal

pub returns-in-Node : goal.returns-in-Node
returns-in-Node c =
    (λ i. Node (c.new-tags.ensures i) (coord_as c.origin.result (record { lon = pos 0; lat = pos 0; on_map = refl }) (c.origin.ensures.lon, c.origin.ensures.lat) i))
    ∙ ap empty_content (sym c.in-Node.is)
