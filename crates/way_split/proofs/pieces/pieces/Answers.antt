use Rattle.std.proofs.Common.{arith, ◌<◌, ◌≡◌, ◌∙◌, length, to_z, of_z, w64}
use Rattle.std.proofs.lemmas.Int.{to_z-of_z}
use Rattle.way_split.proofs.Cuts.{next_piece}
use Rattle.way_split.proofs.pieces.pieces.Goals as goal

pub loop-i-preserved : goal.loop-i-preserved
loop-i-preserved c =
    next_piece _ c.args.refs.now c.loop-i.i _ _ _ _ _ _ _ (let h : c.loop-i.i < length c.args.refs.now = omega arith in h) (let r : to_z w64 (of_z w64 c.ref_at.result) ≡ c.ref_at.result = grind (arith, to_z-of_z) in r ∙ c.ref_at.ensures) c.cut_at-cut.ensures c.in_ok-piece-2.ensures.out c.in_ok-piece-2.ensures.piece c.loop-i.invariant
