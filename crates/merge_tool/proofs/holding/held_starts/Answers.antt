use Rattle.std.proofs.Common.{sym, ◌∙◌}
use Rattle.std.proofs.lemmas.Bool.{eqb-true}
use Rattle.merge_tool.proofs.Appends.{none_start}
use Rattle.merge_tool.proofs.holding.held_starts.Goals as goal

pub returns-then-is_empty : goal.returns-then-is_empty
returns-then-is_empty c = none_start c.args.ds.now c.args.told.now.told c.args.candidates.now c.args.names.now c.args.late.now _ c.new-starts.ensures.items (eqb-true _ _ (sym c.is_empty.ensures ∙ c.if-is_empty.true))
