use Rattle.std.proofs.Common.{◌∙◌}
use Rattle.std.proofs.lemmas.Result.{err_from_is_err_and}
use Rattle.ref_index.proofs.BagView.{counted, counted_in, same_bag}
use Rattle.ref_index.proofs.index.RefIndex.add.Goals as goal

pub returns-in_err-add-clause-err : goal.returns-in_err-add-clause-err
returns-in_err-add-clause-err c =
    let p = err_from_is_err_and c.from_residual.result c.from_residual.ensures.1 in
    rw p.1 (same_bag c.self.inside.repeats.entries c.self.inside.lists.entries c.add.new.repeats.entries c.add.new.lists.entries c.self.invariant c.add.ensures.repeats c.in_err-add.ensures.err ∙ c.self.view_is)

pub returns-clause-ok : goal.returns-clause-ok
returns-clause-ok c = λ q.
    let old = counted_in c.args.self.now c.self.inside.repeats.entries c.self.inside.lists.entries q c.self.view_is in
    let new = counted c.add.new.repeats.entries c.add.new.lists.entries q in
    let more = c.in_ok-add.ensures.ok q in
    new ∙ cc
