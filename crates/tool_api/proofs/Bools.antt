-- Tests joined by `and` and `or`.
use Rattle.std.proofs.Common.{◌≡◌, ◌&&◌, ◌||◌, Bool, true, false, refl, sym}

pub or_false : (a b : Bool) → b ≡ false → a ≡ (a || b)
or_false true b e = refl
or_false false b e = sym e

pub left_alone : (a : Bool) → (a || false) ≡ true → a ≡ true
left_alone true e = refl
left_alone false e = cc

pub false_between : (a c : Bool) → false ≡ ((a && false) && c)
false_between true c = refl
false_between false c = refl
