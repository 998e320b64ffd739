use Rattle.std.proofs.Common.{◌∙◌}
use Rattle.dataset.proofs.Results.{and_ok}
use Rattle.dataset.proofs.pairs.index_of.Goals as goal

pub add_objects-added-requires : goal.add_objects-added-requires
add_objects-added-requires c = record { none = c.new-index.ensures; keys = c.as_slice.ensures ∙ c.in_ok-keys.ensures }

pub returns : goal.returns
returns c = and_ok _ c.add_objects-added.result c.add_objects-added.new.index c.and.result c.and.ensures (λ all. all) c.add_objects-added.ensures
