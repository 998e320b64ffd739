use Rattle.std.proofs.Common.{subst, List, sym}
use Rattle.std.specs.Prelude.{T}
use Rattle.osm_base.specs.Boxed.{items_of}
use Rattle.osm_base.specs.Tags.{Pair, are_tags}
use Rattle.osm_base.proofs.TagLaws.{are_tags_without}
use Rattle.osm_base.proofs.tags.Tags.take.Goals as goal

pub invariant_of-self : goal.invariant_of-self
invariant_of-self c = subst (λ (tags : List Pair). T (are_tags tags)) (sym c.take_boxed.ensures.tags) (are_tags_without c.args.key.now (items_of c.self.inside.items) c.self.invariant)
