use Rattle.std.proofs.lemmas.Result.{on_ok_weaker}
use Rattle.tool_api.proofs.Added.{added_new}
use Rattle.tool_api.proofs.additions.add_new.Goals as goal

pub returns-clause-added : goal.returns-clause-added
returns-clause-added c = on_ok_weaker c.put.result (λ put. added_new c.args.draft.now _ _ _ _ _ c.args.content c.next-number.ensures c.kind.ensures c.new_key-key.ensures c.set_next.ensures put) c.put.ensures.ok
