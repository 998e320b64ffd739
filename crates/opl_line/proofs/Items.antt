-- Items of a list at the front of bytes.
use Rattle.std.proofs.Common.{◌≡◌, ℕ, ℤ, true, false, List, [], ◌∷◌, length, get_or, take, drop, Some, ◌≤◌, ◌-◌, refl, arith}
use Rattle.std.specs.Char.{is_ascii_digit}
use Rattle.std.proofs.Math.Seq.{take-length}
use Rattle.std.proofs.lemmas.Bool.Decides.{nat_tests}
use Rattle.osm_base.specs.Number.{id_text}
use Rattle.opl_line.specs.Cut.{before, after}
use Rattle.opl_line.specs.Field.{is, ref_text}
use Rattle.opl_line.proofs.Digits.{id_unbroken}
use Rattle.opl_line.proofs.Unbroken.{before_all, after_none}

-- the first byte and those behind it
pub first_behind : (bytes : List ℕ) → 1 ≤ length bytes → bytes ≡ get_or bytes 0 0 ∷ take (length bytes - 1) (drop 1 bytes)
first_behind [] some = absurd (omega arith)
first_behind (b ∷ bytes) some =
    let at : length (b ∷ bytes) - 1 ≡ length bytes = omega arith in
    rw (at, take-length bytes) refl

no_place : (b : ℕ) → is_ascii_digit b ≡ true → is 120 b ≡ false
no_place b digit = grind (arith, nat_tests, digit)

-- `n` and an id with nothing behind it are a reference
ref_is : (text : List ℕ) (id : ℤ) → id_text text ≡ Some id → ref_text (110 ∷ text) ≡ Some id
unfolding ref_text
ref_is text id e = let h = id_unbroken (is 120) text id no_place refl e in rw (before_all (is 120) text h, after_none (is 120) text h, e) refl

pub ref_before : (bytes : List ℕ) (id : ℤ) → 1 ≤ length bytes → get_or bytes 0 0 ≡ 110 → id_text (before (is 44) (take (length bytes - 1) (drop 1 bytes))) ≡ Some id → ref_text (before (is 44) bytes) ≡ Some id
ref_before [] id some first e = absurd (omega arith)
ref_before (b ∷ text) id some first e =
    let at : length (b ∷ text) - 1 ≡ length text = omega arith in
    let id_is : id_text (before (is 44) text) ≡ Some id = rw (at, take-length text) at e in
    rw first (ref_is (before (is 44) text) id id_is)

pub ref_after : (bytes : List ℕ) → 1 ≤ length bytes → get_or bytes 0 0 ≡ 110 → after (is 44) bytes ≡ after (is 44) (take (length bytes - 1) (drop 1 bytes))
ref_after [] some first = absurd (omega arith)
ref_after (b ∷ text) some first =
    let at : length (b ∷ text) - 1 ≡ length text = omega arith in
    let is_n : b ≡ 110 = first in
    rw (at, take-length text, is_n) refl
