-- Coordinates at the front of bytes.
use Rattle.std.proofs.Common.{◌≡◌, ℕ, ◌≤◌, ◌+◌, ◌-◌, ◌*◌, ◌^◌, true, false, cond, List, [], ◌∷◌, ◌++◌, length, get_or, take, drop, Option, Some, None, refl, ap, ◌∙◌, arith}
use Rattle.std.specs.Prelude.{◌&&◌, Bool, ℤ, nat_le, nat_lt, unsigned_abs}
use Rattle.std.specs.List.{list_all}
use Rattle.std.specs.Option.{option_map}
use Rattle.std.specs.Char.{is_ascii_digit}
use Rattle.std.specs.Str.Parse.{digits_value}
use Rattle.std.proofs.Math.Seq.{take-length}
use Rattle.std.proofs.lemmas.Bool.{and_parts}
use Rattle.std.proofs.lemmas.Bool.Decides.{nat_tests}
use Rattle.osm_base.specs.Number.{number_text}
use Rattle.osm_base.specs.Coord.{part_text, whole_text, pointed_text, size_text, coord_text}
use Rattle.osm_base.proofs.CoordLaw.{no_point, pointed_size as digits_pointed}
use Rattle.opl_line.specs.Cut.{before, after}
use Rattle.opl_line.specs.Field.{place_text}
use Rattle.opl_line.specs.Line.{is_blank}
use Rattle.opl_line.specs.Front.{front_digits, behind_digits, ended}
use Rattle.opl_line.proofs.Fronts.{SparesNumbers, front_are_digits, front_number, whole_piece}

-- ---- a point behind digits

digits_whole : (xs : List ℕ) → list_all is_ascii_digit xs ≡ true → size_text xs ≡ whole_text xs
unfolding size_text
digits_whole xs h = rw (no_point xs h) refl

-- ---- at the front

-- the digits at the front belong to the first piece
pub record Divides (ends : ℕ → Bool) (most : ℕ) (bytes : List ℕ) : Type 0 where
  pub front : before ends bytes ≡ front_digits most bytes ++ before ends (behind_digits most bytes)
  pub behind : after ends bytes ≡ after ends (behind_digits most bytes)

divides_case : (ends : ℕ → Bool) (most b : ℕ) (bytes : List ℕ) (t : Bool) → SparesNumbers ends → (nat_lt 0 most && is_ascii_digit b) ≡ t → Divides ends (most - 1) bytes →
    (before ends (b ∷ bytes) ≡ cond t (b ∷ front_digits (most - 1) bytes) [] ++ before ends (cond t (behind_digits (most - 1) bytes) (b ∷ bytes))) × (after ends (b ∷ bytes) ≡ after ends (cond t (behind_digits (most - 1) bytes) (b ∷ bytes)))
divides_case ends most b bytes true spares is d =
    let p = and_parts (nat_lt 0 most) (is_ascii_digit b) is in
    (rw (spares b p.1) (ap (λ xs. b ∷ xs) d.front), rw (spares b p.1) d.behind)
divides_case ends most b bytes false spares is d = (refl, refl)

pub divides : (ends : ℕ → Bool) (most : ℕ) (bytes : List ℕ) → SparesNumbers ends → Divides ends most bytes
divides ends most [] spares = record { front = refl; behind = refl }
divides ends most (b ∷ bytes) spares =
    let p = divides_case ends most b bytes (nat_lt 0 most && is_ascii_digit b) spares refl (divides ends (most - 1) bytes spares) in
    record { front = p.0; behind = p.1 }

front_digits_are : (most : ℕ) (bytes : List ℕ) → list_all is_ascii_digit (front_digits most bytes) ≡ true
front_digits_are most bytes = (and_parts (nat_le (length (front_digits most bytes)) most) (list_all is_ascii_digit (front_digits most bytes)) (front_are_digits most bytes)).1

some_test : (xs : List ℕ) → 1 ≤ length xs → nat_le 1 (length xs) ≡ true
some_test xs h = grind (arith, nat_tests)

whole_front : (bytes : List ℕ) → 1 ≤ length (front_digits 3 bytes) → whole_text (front_digits 3 bytes) ≡ Some (digits_value 10 (front_digits 3 bytes) * 10000000)
unfolding whole_text number_text
whole_front bytes some = rw (front_number 3 bytes, some_test _ some) refl

pub point_is : (behind : List ℕ) → 1 ≤ length behind → get_or behind 0 0 ≡ 46 → behind ≡ 46 ∷ take (length behind - 1) (drop 1 behind)
point_is [] some e = absurd (omega arith)
point_is (b ∷ behind) some e =
    let at : length (b ∷ behind) - 1 ≡ length behind = omega arith in
    rw (at, take-length behind) (ap (λ c. c ∷ behind) e)

-- digits that end there are the whole size
pub whole_size : (ends : ℕ → Bool) (bytes : List ℕ) (rest : Option (List ℕ)) → SparesNumbers ends → ended ends (behind_digits 3 bytes) ≡ Some rest → 1 ≤ length (front_digits 3 bytes) →
    size_text (before ends bytes) ≡ Some (digits_value 10 (front_digits 3 bytes) * 10000000)
whole_size ends bytes rest spares e some =
    rw ((whole_piece ends 3 bytes rest spares e).before_is, digits_whole (front_digits 3 bytes) (front_digits_are 3 bytes)) (whole_front bytes some)

pointed_whole : (xs ys : List ℕ) (n : ℕ) → whole_text xs ≡ Some n → pointed_text xs ys ≡ option_map (λ part. n + part) (part_text ys)
unfolding pointed_text
pointed_whole xs ys n e = rw e refl

-- with a point behind them, what is behind the point is added
pub pointed_size : (ends : ℕ → Bool) (bytes part : List ℕ) → SparesNumbers ends → ends 46 ≡ false → behind_digits 3 bytes ≡ 46 ∷ part → 1 ≤ length (front_digits 3 bytes) →
    size_text (before ends bytes) ≡ option_map (λ part. digits_value 10 (front_digits 3 bytes) * 10000000 + part) (part_text (before ends part))
pointed_size ends bytes part spares point e some =
    rw ((divides ends 3 bytes spares).front, e, point, digits_pointed (front_digits 3 bytes) (before ends part) (front_digits_are 3 bytes))
    (pointed_whole (front_digits 3 bytes) (before ends part) _ (whole_front bytes some))

pub pointed_after : (ends : ℕ → Bool) (bytes part : List ℕ) → SparesNumbers ends → ends 46 ≡ false → behind_digits 3 bytes ≡ 46 ∷ part → after ends bytes ≡ after ends part
pointed_after ends bytes part spares point e = rw ((divides ends 3 bytes spares).behind, e, point) refl

-- the digits behind the point
pub part_piece : (ends : ℕ → Bool) (bytes : List ℕ) (rest : Option (List ℕ)) → SparesNumbers ends → ended ends (behind_digits 7 bytes) ≡ Some rest → 1 ≤ length (front_digits 7 bytes) →
    part_text (before ends bytes) ≡ Some (digits_value 10 (front_digits 7 bytes) * 10 ^ (7 - length (front_digits 7 bytes)))
unfolding part_text number_text
part_piece ends bytes rest spares e some = rw ((whole_piece ends 7 bytes rest spares e).before_is, front_number 7 bytes, some_test _ some) refl

-- ---- up to a blank

blank_spares : SparesNumbers is_blank
blank_spares b digit = grind (arith, nat_tests, digit)

pub size_whole : (bytes : List ℕ) (rest : Option (List ℕ)) → ended is_blank (behind_digits 3 bytes) ≡ Some rest → 1 ≤ length (front_digits 3 bytes) →
    size_text (before is_blank bytes) ≡ Some (digits_value 10 (front_digits 3 bytes) * 10000000)
size_whole bytes rest e some = whole_size is_blank bytes rest blank_spares e some

pub after_whole : (bytes : List ℕ) (rest : Option (List ℕ)) → ended is_blank (behind_digits 3 bytes) ≡ Some rest → after is_blank bytes ≡ rest
after_whole bytes rest e = (whole_piece is_blank 3 bytes rest blank_spares e).after_is

pub size_pointed : (bytes part : List ℕ) (n : ℕ) → behind_digits 3 bytes ≡ 46 ∷ part → 1 ≤ length (front_digits 3 bytes) → part_text (before is_blank part) ≡ Some n →
    size_text (before is_blank bytes) ≡ Some (digits_value 10 (front_digits 3 bytes) * 10000000 + n)
size_pointed bytes part n is some p = pointed_size is_blank bytes part blank_spares refl is some ∙ ap (option_map (λ part. digits_value 10 (front_digits 3 bytes) * 10000000 + part)) p

pub after_pointed : (bytes part : List ℕ) → behind_digits 3 bytes ≡ 46 ∷ part → after is_blank bytes ≡ after is_blank part
after_pointed bytes part is = pointed_after is_blank bytes part blank_spares refl is

pub part_blank : (bytes : List ℕ) (rest : Option (List ℕ)) → ended is_blank (behind_digits 7 bytes) ≡ Some rest → 1 ≤ length (front_digits 7 bytes) →
    part_text (before is_blank bytes) ≡ Some (digits_value 10 (front_digits 7 bytes) * 10 ^ (7 - length (front_digits 7 bytes)))
part_blank bytes rest e some = part_piece is_blank bytes rest blank_spares e some

pub after_part : (bytes : List ℕ) (rest : Option (List ℕ)) → ended is_blank (behind_digits 7 bytes) ≡ Some rest → after is_blank bytes ≡ rest
after_part bytes rest e = (whole_piece is_blank 7 bytes rest blank_spares e).after_is

-- a coordinate is a place, where it is in range
pub place_is : (limit : ℕ) (text : List ℕ) (value : ℤ) → coord_text text ≡ Some value → place_text limit text ≡ cond (nat_le (unsigned_abs value) limit) (Some (Some value)) None
unfolding place_text coord_text size_text whole_text number_text
place_is limit [] value e = absurd cc
place_is limit (b ∷ text) value e = rw e refl
