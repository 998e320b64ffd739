-- Numbers that were read have no separators.
use Rattle.std.proofs.Common.{◌≡◌, ℕ, ℤ, pos, true, false, cond, List, [], ◌∷◌, length, Option, Some, None, refl, arith}
use Rattle.std.specs.Prelude.{◌&&◌, ◌==◌, Bool, nat_le}
use Rattle.std.specs.List.{list_all}
use Rattle.std.specs.Option.{option_map, option_and_then as and_then}
use Rattle.std.specs.Char.{is_ascii_digit}
use Rattle.std.proofs.lemmas.Bool.{and_parts}
use Rattle.std.proofs.lemmas.Bool.Decides.{nat_tests}
use Rattle.osm_base.specs.Number.{number_text, number_test, id_size, id_test, id_text, minus}
use Rattle.osm_base.proofs.Tests.{only_passed}
use Rattle.opl_line.proofs.Fronts.{SparesNumbers}
use Rattle.opl_line.proofs.Unbroken.{Unbroken, unbroken_from}

pub number_unbroken : (ends : ℕ → Bool) (most : ℕ) (text : List ℕ) (n : ℕ) → SparesNumbers ends → number_text most text ≡ Some n → Unbroken ends text
unfolding number_text
number_unbroken ends most text n spares e =
    let p = and_parts (nat_le 1 (length text) && nat_le (length text) most) (list_all is_ascii_digit text) (only_passed (number_test most text) _ n e).0 in
    unbroken_from is_ascii_digit ends text spares p.1

size_case : (ends : ℕ → Bool) (text : List ℕ) (o : Option ℕ) (n : ℕ) → SparesNumbers ends → number_text 19 text ≡ o → and_then (λ n. cond (id_test n) (Some n) None) o ≡ Some n → Unbroken ends text
size_case ends text None n spares is e = absurd cc
size_case ends text (Some m) n spares is e = number_unbroken ends 19 text m spares is

id_case : {A : Type 0} (ends : ℕ → Bool) (text : List ℕ) (f : ℕ → A) (o : Option ℕ) (x : A) → SparesNumbers ends → id_size text ≡ o → option_map f o ≡ Some x → Unbroken ends text
id_case ends text f None x spares is e = absurd cc
id_case ends text f (Some n) x spares is e = size_case ends text (number_text 19 text) n spares refl is

sign_case : (ends : ℕ → Bool) (b : ℕ) (text : List ℕ) (id : ℤ) (t : Bool) → SparesNumbers ends → ends 45 ≡ false → (b == 45) ≡ t →
    cond t (option_map minus (id_size text)) (option_map pos (id_size (b ∷ text))) ≡ Some id → Unbroken ends (b ∷ text)
sign_case ends b text id true spares minus_is sign e =
    let is : b ≡ 45 = grind (arith, nat_tests, sign) in
    (rw is minus_is, id_case ends text minus (id_size text) id spares refl e)
sign_case ends b text id false spares minus_is sign e = id_case ends (b ∷ text) pos (id_size (b ∷ text)) id spares refl e

pub id_unbroken : (ends : ℕ → Bool) (text : List ℕ) (id : ℤ) → SparesNumbers ends → ends 45 ≡ false → id_text text ≡ Some id → Unbroken ends text
unfolding id_text
id_unbroken ends [] id spares minus_is e = tt
id_unbroken ends (b ∷ text) id spares minus_is e = sign_case ends b text id (b == 45) spares minus_is refl e
