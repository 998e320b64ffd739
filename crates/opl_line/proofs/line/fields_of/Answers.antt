use Rattle.opl_line.specs.Line.{is_blank}
use Rattle.opl_line.specs.Field.{field_into}
use Rattle.opl_line.proofs.Fronts.{behind_shorter}
use Rattle.opl_line.proofs.Ways.{passed, none_behind, some_behind, fold_broken, fold_last, fold_more}
use Rattle.opl_line.proofs.line.fields_of.Goals as goal

pub returns-in_err-field_into : goal.returns-in_err-field_into
returns-in_err-field_into c =
    passed (λ _. c.field_into.new.fields) c.from_residual.result c.in_err-field_into.field-0.0 _ c.from_residual.ensures.1
    (fold_broken (field_into c.args.mode c.args.kind) is_blank _ c.loop-next.rest.now _ c.loop-next.invariant _ c.in_err-field_into.ensures.taken)

pub returns-in-None : goal.returns-in-None
returns-in-None c =
    fold_last (field_into c.args.mode c.args.kind) is_blank _ c.loop-next.rest.now _ c.loop-next.invariant _ c.in_ok-field_into.ensures.taken (none_behind _ _ _ c.in_ok-field_into.ensures.rest c.in-None.is)

pub loop-next-smaller : goal.loop-next-smaller
loop-next-smaller c = behind_shorter is_blank _ _ (some_behind _ _ _ c.in_ok-field_into.ensures.rest _ c.in-Some.is)

pub loop-next-preserved : goal.loop-next-preserved
loop-next-preserved c =
    fold_more (field_into c.args.mode c.args.kind) is_blank _ c.loop-next.rest.now _ c.loop-next.invariant _ _ c.in_ok-field_into.ensures.taken (some_behind _ _ _ c.in_ok-field_into.ensures.rest _ c.in-Some.is)
