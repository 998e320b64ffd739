use Rattle.std.proofs.Common.{ap, ◌∙◌}
use Rattle.std.specs.List.{dedup}
use Rattle.std.specs.Ordering.{int_eq}
use Rattle.std.proofs.lemmas.List.Filters.{dedup_is}
use Rattle.map_checks.proofs.repeats.squeezed.Goals as goal

pub returns : goal.returns
returns c = dedup_is int_eq _ _ c.dedup.ensures.filtered ∙ ap (dedup int_eq) c.in_ok-left.ensures.items
