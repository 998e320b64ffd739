use Rattle.std.proofs.Common.{◌≡◌}
use Rattle.std.proofs.lemmas.Bool.Decides.{same_from_decides}
use Rattle.osm_base.specs.Same.{same_tags}
use Rattle.osm_base.proofs.SameLaws.{same_tags_decides}
use Rattle.osm_base.proofs.tags.Tags.same.Goals as goal

pub returns-clause-value : goal.returns-clause-value
returns-clause-value c =
    let a : c.items_of.result.now ≡ c.args.self.now = cc in
    let b : c.items_of-2.result.now ≡ c.args.other.now = cc in
    same_from_decides c.same_items.result (same_tags c.args.self.now c.args.other.now) (rw (a, b) at c.same_items.ensures) (same_tags_decides c.args.self.now c.args.other.now)
