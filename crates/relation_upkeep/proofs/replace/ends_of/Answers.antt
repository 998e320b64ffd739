use Rattle.std.proofs.Common.{◌≡◌, ◌∙◌, ◌∷◌, [], arith, w64, to_z, of_z}
use Rattle.std.proofs.lemmas.Int.{to_z-of_z}
use Rattle.relation_upkeep.proofs.Replaces.{ends_got}
use Rattle.relation_upkeep.proofs.replace.ends_of.Goals as goal

pub returns-in-Some-Some : goal.returns-in-Some-Some
returns-in-Some-Some c =
    let a : to_z w64 (of_z w64 c.in-Some-Some.first.now) ≡ c.in-Some-Some.first.now = grind (arith, to_z-of_z) in
    let b : to_z w64 (of_z w64 c.in-Some-Some.last.now) ≡ c.in-Some-Some.last.now = grind (arith, to_z-of_z) in
    (λ i. a i ∷ b i ∷ []) ∙ ends_got c.args.ids.now c.in-Some-Some.first.now c.in-Some-Some.last.now c.in-Some-Some.ensures.value c.in-Some-Some.ensures'.value
