use Rattle.std.proofs.Common.{◌∙◌, sym, add-one, arith}
use Rattle.std.proofs.lemmas.Grind.{common_steps}
use Rattle.opl_line.proofs.Cutting.{cut_at, uncut, before_at, after_at, uncut_before, uncut_after}
use Rattle.opl_line.proofs.pieces.cut.Goals as goal

pub returns-then-is_mark-clause-pieces : goal.returns-then-is_mark-clause-pieces
returns-then-is_mark-clause-pieces c = (
  rw (c.split_at.ensures.front, c.split_at-then-is_mark.ensures.back, add-one)
      (cut_at _ c.args.bytes.now c.loop-i.i (omega arith) (sym c.is_mark.ensures ∙ c.if-is_mark.true) c.loop-i.invariant),
  rw c.split_at-then-is_mark.ensures.back (grind (arith, common_steps)),
)

pub returns-then-is_mark-clause-before : goal.returns-then-is_mark-clause-before
returns-then-is_mark-clause-before c =
    rw c.split_at.ensures.front (before_at _ c.args.bytes.now c.loop-i.i (omega arith) (sym c.is_mark.ensures ∙ c.if-is_mark.true) c.loop-i.invariant)

pub returns-then-is_mark-clause-after : goal.returns-then-is_mark-clause-after
returns-then-is_mark-clause-after c =
    rw (c.split_at-then-is_mark.ensures.back, add-one) (after_at _ c.args.bytes.now c.loop-i.i (omega arith) (sym c.is_mark.ensures ∙ c.if-is_mark.true) c.loop-i.invariant)

pub returns-clause-pieces : goal.returns-clause-pieces
returns-clause-pieces c = uncut _ c.args.bytes.now (λ k below. c.loop-i.invariant k (omega arith))

pub returns-clause-before : goal.returns-clause-before
returns-clause-before c = uncut_before _ c.args.bytes.now (λ k below. c.loop-i.invariant k (omega arith))

pub returns-clause-after : goal.returns-clause-after
returns-clause-after c = uncut_after _ c.args.bytes.now (λ k below. c.loop-i.invariant k (omega arith))
