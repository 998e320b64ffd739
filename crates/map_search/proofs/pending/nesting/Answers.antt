use Rattle.std.proofs.Common.{sym, ◌∙◌}
use Rattle.map_search.proofs.Waiting.{nesting_reversed}
use Rattle.map_search.proofs.pending.nesting.Goals as goal

pub returns : goal.returns
returns c = c.count_openings.ensures ∙ sym (nesting_reversed c.args.stack.now)
