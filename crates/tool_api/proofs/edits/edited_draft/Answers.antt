use Rattle.std.proofs.Common.{Result, Ok, Err}
use Rattle.std.specs.Prelude.{OnOk, IfOk}
use Rattle.std.specs.Result.{result_and}
use Rattle.tool_api.specs.Changes.{edit}
use Rattle.tool_api.proofs.Looks.{from_none}
use Rattle.tool_api.proofs.edits.edited_draft.Goals as goal

and_ok : {T U E P : Type 0} (Q : U → Type 0) (r : Result T E) (u : U) → (P → Q u) → OnOk r P → IfOk (result_and r (Ok u)) Q
and_ok Q (Ok x) u more h = more h
and_ok Q (Err e) u more h = tt

pub returns : goal.returns
returns g c =
    rw c.and.ensures (and_ok _ c.edit_all.result c.edit_all.new.draft
    (λ is. from_none c.args.ds.now (edit c.args.ds.now (g.E.EditContent.edited c.args.rule.now)) c.args.keys.now _ _ c.new-draft.ensures is) c.edit_all.ensures)
