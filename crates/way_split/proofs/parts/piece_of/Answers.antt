use Rattle.std.proofs.Common.{◌≡◌, ◌∙◌, arith, w64, to_z, of_z}
use Rattle.std.proofs.lemmas.Int.{to_z-of_z}
use Rattle.std.specs.Option.{option_copied}
use Rattle.way_split.proofs.Cuts.{piece_got}
use Rattle.way_split.proofs.parts.piece_of.Goals as goal

pub returns : goal.returns
returns c =
    let a : to_z w64 (of_z w64 c.or_zero.result) ≡ c.or_zero.result = grind (arith, to_z-of_z) in
    let b : to_z w64 (of_z w64 c.or_zero-2.result) ≡ c.or_zero-2.result = grind (arith, to_z-of_z) in
    piece_got c.args.way c.args.part.now c.as_slice-ids.result.now (option_copied c.first.result) (option_copied c.last.result) _ _ _
    c.as_slice-ids.ensures c.first.ensures.value c.last.ensures.value (a ∙ c.or_zero.ensures) (b ∙ c.or_zero-2.ensures) c.same_key.ensures.test
