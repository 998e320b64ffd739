use Rattle.std.proofs.Common.{◌∙◌}
use Rattle.dataset.proofs.told_index.lists_of.Goals as goal

pub lists_by-lists-requires : goal.lists_by-lists-requires
lists_by-lists-requires c = c.as_slice.ensures ∙ c.in_ok-keys.ensures

pub returns : goal.returns
returns c = c.lists_by-lists.ensures
