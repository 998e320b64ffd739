-- Times at the front of bytes.
use Rattle.std.proofs.Common.{◌≡◌, ℕ, suc, ◌<◌, ◌≤◌, true, false, List, [], ◌∷◌, ◌++◌, length, get_or, take, drop, Option, Some, None, refl, subst, ap, arith}
use Rattle.std.specs.Prelude.{◌&&◌, ◌==◌, Bool, slice_range, slice_index}
use Rattle.std.specs.Option.{option_map}
use Rattle.std.specs.Char.{is_ascii_digit}
use Rattle.std.proofs.Math.Seq.{drop-cons}
use Rattle.std.proofs.lemmas.List.{take-append-drop}
use Rattle.std.proofs.lemmas.List.Folds.{drop_split}
use Rattle.std.proofs.lemmas.Grind.{common_steps}
use Rattle.std.proofs.lemmas.Bool.Decides.{nat_tests}
use Rattle.osm_base.specs.Number.{number_text}
use Rattle.osm_base.specs.declared.meta.Stamp.{Stamp}
use Rattle.osm_base.proofs.Tests.{only_passed}
use Rattle.opl_text.specs.Time.{has_marks, parts_of, stamp_text, time_text, ◌>>=◌}
use Rattle.opl_line.specs.Cut.{before, after}
use Rattle.opl_line.specs.Front.{ended}
use Rattle.opl_line.specs.Line.{is_blank}
use Rattle.opl_line.proofs.Digits.{number_unbroken}
use Rattle.opl_line.proofs.Unbroken.{Unbroken, unbroken_append}
use Rattle.opl_line.proofs.Fronts.{ended_at}

-- ---- a piece that stands whole at the front

piece_over : (ends : ℕ → Bool) (piece bytes : List ℕ) (rest : Option (List ℕ)) → Unbroken ends piece → ended ends bytes ≡ Some rest → (before ends (piece ++ bytes) ≡ piece) × (after ends (piece ++ bytes) ≡ rest)
piece_over ends [] [] rest h e = (refl, cc)
piece_over ends [] (b ∷ bytes) rest h e = ended_at ends b bytes rest (ends b) e
piece_over ends (p ∷ piece) bytes rest h e =
    let q = piece_over ends piece bytes rest h.1 e in
    (rw h.0 (ap (λ xs. p ∷ xs) q.0), rw h.0 q.1)

-- ---- no byte of a time is a blank

bind_some : {A B : Type 0} (o : Option A) (f : A → Option B) (y : B) → (o >>= f) ≡ Some y → (x : A) × (o ≡ Some x) × (f x ≡ Some y)
bind_some None f y e = absurd cc
bind_some (Some x) f y e = (x, refl, e)

map_some : (o : Option Stamp) (s : Stamp) → option_map (λ s. Some s) o ≡ Some (Some s) → o ≡ Some s
map_some None s e = absurd cc
map_some (Some t) s e = cc

digit_no_blank : (b : ℕ) → is_ascii_digit b ≡ true → is_blank b ≡ false
digit_no_blank b digit = grind (arith, nat_tests, digit)

-- a part from a place on, and a mark at a place
part_unbroken : (text : List ℕ) (most i j n : ℕ) → i ≤ j → number_text most (slice_range text i j) ≡ Some n → Unbroken is_blank (drop j text) → Unbroken is_blank (drop i text)
part_unbroken text most i j n le e h = rw (drop_split text i j le) (unbroken_append is_blank (slice_range text i j) (drop j text) (number_unbroken is_blank most (slice_range text i j) n digit_no_blank e) h)

mark_unbroken : (text : List ℕ) (i mark : ℕ) → i < length text → (get_or text i 0 == mark) ≡ true → is_blank mark ≡ false → Unbroken is_blank (drop (suc i) text) → Unbroken is_blank (drop i text)
mark_unbroken text i mark below e spared h =
    let is : get_or text i 0 ≡ mark = grind (arith, nat_tests, e) in
    rw (drop-cons text i 0 below, is) (spared, h)

drop_all : (text : List ℕ) (n : ℕ) → length text ≤ n → drop n text ≡ []
drop_all text n h = grind (arith, common_steps)

seven : (a b c d e f g : Bool) → (a && b && c && d && e && f && g) ≡ true → (a ≡ true) × (b ≡ true) × (c ≡ true) × (d ≡ true) × (e ≡ true) × (f ≡ true) × (g ≡ true)
seven true true true true true true true h = (refl, refl, refl, refl, refl, refl, refl)
seven true true true true true true false h = absurd cc
seven true true true true true false g h = absurd cc
seven true true true true false f g h = absurd cc
seven true true true false e f g h = absurd cc
seven true true false d e f g h = absurd cc
seven true false c d e f g h = absurd cc
seven false b c d e f g h = absurd cc

pub stamp_unbroken : (text : List ℕ) (s : Stamp) → stamp_text text ≡ Some s → Unbroken is_blank text
unfolding stamp_text has_marks parts_of
stamp_unbroken text s e =
    let passed = only_passed (has_marks text) _ s e in
    let m = seven (length text == 20) (slice_index text 4 == 45) (slice_index text 7 == 45) (slice_index text 10 == 84) (slice_index text 13 == 58) (slice_index text 16 == 58) (slice_index text 19 == 90) passed.0 in
    let long : length text ≡ 20 = grind (arith, nat_tests, m.0) in
    let parts = bind_some (parts_of text) _ s passed.1 in
    let year = bind_some (number_text 4 (slice_range text 0 4)) _ parts.0 parts.1 in
    let month = bind_some (number_text 2 (slice_range text 5 7)) _ parts.0 year.2 in
    let day = bind_some (number_text 2 (slice_range text 8 10)) _ parts.0 month.2 in
    let hour = bind_some (number_text 2 (slice_range text 11 13)) _ parts.0 day.2 in
    let minute = bind_some (number_text 2 (slice_range text 14 16)) _ parts.0 hour.2 in
    let second = bind_some (number_text 2 (slice_range text 17 19)) _ parts.0 minute.2 in
    let u20 : Unbroken is_blank (drop 20 text) = rw (drop_all text 20 (omega (arith, long))) tt in
    let u17 = part_unbroken text 2 17 19 second.0 (omega arith) second.1 (mark_unbroken text 19 90 (omega (arith, long)) m.6 refl u20) in
    let u14 = part_unbroken text 2 14 16 minute.0 (omega arith) minute.1 (mark_unbroken text 16 58 (omega (arith, long)) m.5 refl u17) in
    let u11 = part_unbroken text 2 11 13 hour.0 (omega arith) hour.1 (mark_unbroken text 13 58 (omega (arith, long)) m.4 refl u14) in
    let u8 = part_unbroken text 2 8 10 day.0 (omega arith) day.1 (mark_unbroken text 10 84 (omega (arith, long)) m.3 refl u11) in
    let u5 = part_unbroken text 2 5 7 month.0 (omega arith) month.1 (mark_unbroken text 7 45 (omega (arith, long)) m.2 refl u8) in
    part_unbroken text 4 0 4 year.0 (omega arith) year.1 (mark_unbroken text 4 45 (omega (arith, long)) m.1 refl u5)

time_unbroken : (text : List ℕ) (s : Stamp) → time_text text ≡ Some (Some s) → Unbroken is_blank text
unfolding time_text
time_unbroken [] s e = tt
time_unbroken (b ∷ text) s e = stamp_unbroken (b ∷ text) s (map_some (stamp_text (b ∷ text)) s e)

-- ---- up to a blank

time_piece : (bytes : List ℕ) (s : Stamp) (rest : Option (List ℕ)) → time_text (take 20 bytes) ≡ Some (Some s) → ended is_blank (drop 20 bytes) ≡ Some rest → (before is_blank bytes ≡ take 20 bytes) × (after is_blank bytes ≡ rest)
time_piece bytes s rest e last =
    let p = piece_over is_blank (take 20 bytes) (drop 20 bytes) rest (time_unbroken (take 20 bytes) s e) last in
    subst (λ xs. (before is_blank xs ≡ take 20 bytes) × (after is_blank xs ≡ rest)) (take-append-drop 20 bytes) p

-- twenty bytes that are a time are one up to the blank behind them
pub time_before : (bytes : List ℕ) (s : Stamp) (rest : Option (List ℕ)) → time_text (take 20 bytes) ≡ Some (Some s) → ended is_blank (drop 20 bytes) ≡ Some rest → time_text (before is_blank bytes) ≡ Some (Some s)
time_before bytes s rest e last = rw (time_piece bytes s rest e last).0 e

pub time_after : (bytes : List ℕ) (s : Stamp) (rest : Option (List ℕ)) → time_text (take 20 bytes) ≡ Some (Some s) → ended is_blank (drop 20 bytes) ≡ Some rest → after is_blank bytes ≡ rest
time_after bytes s rest e last = (time_piece bytes s rest e last).1
