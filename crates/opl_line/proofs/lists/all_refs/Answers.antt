use Rattle.std.proofs.Common.{◌≡◌, [], Ok}
use Rattle.opl_line.specs.Reads.{folded}
use Rattle.opl_line.specs.Cut.{split}
use Rattle.opl_line.specs.Field.{is, ref_into}
use Rattle.opl_line.proofs.Fronts.{behind_shorter}
use Rattle.opl_line.proofs.Ways.{passed, none_behind, some_behind, fold_broken, fold_last, fold_more}
use Rattle.opl_line.proofs.lists.all_refs.Goals as goal

pub returns-in_err-ref_into : goal.returns-in_err-ref_into
returns-in_err-ref_into c =
    passed (λ refs. refs) c.from_residual-in_err-ref_into.result c.in_err-ref_into.field-0.0 _ c.from_residual-in_err-ref_into.ensures.1
    (fold_broken ref_into (is 44) _ c.loop-refs.rest.now _ c.loop-refs.invariant _ c.in_err-ref_into.ensures.taken)

pub returns-in-None : goal.returns-in-None
returns-in-None c =
    let read : folded ref_into [] (split (is 44) c.args.text.now) ≡ Ok c.ref_into.new.refs =
    fold_last ref_into (is 44) _ c.loop-refs.rest.now _ c.loop-refs.invariant _ c.in_ok-ref_into.ensures.taken (none_behind _ _ _ c.in_ok-ref_into.ensures.rest c.in-None.is) in
    cc

pub loop-refs-smaller : goal.loop-refs-smaller
loop-refs-smaller c = behind_shorter (is 44) _ _ (some_behind _ _ _ c.in_ok-ref_into.ensures.rest _ c.in-Some.is)

pub loop-refs-preserved : goal.loop-refs-preserved
loop-refs-preserved c =
    let read : folded ref_into c.ref_into.new.refs (split (is 44) c.in-Some.next.now) ≡ folded ref_into [] (split (is 44) c.args.text.now) =
    fold_more ref_into (is 44) _ c.loop-refs.rest.now _ c.loop-refs.invariant _ _ c.in_ok-ref_into.ensures.taken (some_behind _ _ _ c.in_ok-ref_into.ensures.rest _ c.in-Some.is) in
    cc
