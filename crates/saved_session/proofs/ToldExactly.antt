-- The table of a text is the one that is told of its lines, and so is each fault.
use Rattle.std.proofs.Common.{◌≡◌, ◌↔◌, ℕ, ◌+◌, ◌<◌, ◌≤◌, Bool, true, false, cond, List, [], ◌∷◌, ◌++◌, length, Option, Some, None, Result, Ok, Err, refl, sym, ap, subst, ◌∙◌, arith, append_assoc, append-nil}
use Rattle.std.specs.Prelude.{nat_lt}
use Rattle.std.specs.FinMap as fin
use Rattle.std.proofs.lemmas.Bool.Decides.{nat_tests}
use Rattle.osm_base.specs.declared.key.Key.{Key}
use Rattle.osm_base.proofs.Tests.{by_bool}
use Rattle.osm_table.specs.Table.{TableValue}
use Rattle.dataset.specs.Sound.{IsSound}
use Rattle.opl_file.specs.Cut.{lines_of}
use Rattle.saved_session.specs.Reading.{Session, session_from, table_of}
use Rattle.saved_session.specs.Resumed.{if_sound, saved_table, tested, within}
use Rattle.saved_session.specs.SoundTest.{least_unsound}
use Rattle.saved_session.specs.Told.{IsFirstBad, IsTold, StandsIn, StopsAt}
use Rattle.saved_session.specs.declared.fault.SavedFault.{SavedFault}
use Rattle.saved_session.specs.declared.fault.SavedFault.TheVariants.{BadSaved, Unsound, TableFull, Memory}
use Rattle.saved_session.proofs.LeastUnsound.{least_found, least_is}
use Rattle.saved_session.proofs.SoundTested.{sound_tested, tested_sound}
use Rattle.saved_session.proofs.Standing.{Lines, heads, session_stands, standing_read, tails}
use Rattle.saved_session.proofs.Stopping.{SessionStops, session_stop}
use Rattle.saved_session.proofs.TableAgain.{session_of, table_again, within_again}

-- ---- what is read is told

room_told : (limit : ℕ) (lines : Lines) (t : TableValue) (b : Bool) → StandsIn t lines → IsSound t → nat_lt limit (fin.len t.entries) ≡ b → IsTold limit lines (cond b (Err TableFull) (Ok t))
room_told limit lines t true h sound is = (t, h, sound, more (fin.len t.entries) is)
  where
    more : (len : ℕ) → nat_lt limit len ≡ true → limit < len
    more len e = grind (arith, nat_tests, e)
room_told limit lines t false h sound is = (h, sound, within_limit (fin.len t.entries) is)
  where
    within_limit : (len : ℕ) → nat_lt limit len ≡ false → len ≤ limit
    within_limit len e = grind (arith, nat_tests, e)

sound_told : (limit : ℕ) (lines : Lines) (t : TableValue) (o : Option Key) → StandsIn t lines → least_unsound t ≡ o → IsTold limit lines (if_sound limit t o)
sound_told limit lines t (Some key) h is = (t, h, least_is t key is)
sound_told limit lines t None h is = room_told limit lines t (nat_lt limit (fin.len t.entries)) h (tested_sound t h.number is) refl

stops_told : (good left : Lines) → SessionStops good left → StopsAt good left
stops_told good [] stops = λ t h. stops 1 (session_of t) (standing_read 1 t good h)
stops_told good (line ∷ left) stops = λ (t, more, h). stops more 1 (session_of t) (standing_read 1 t (good ++ line ∷ more) (subst (StandsIn t) (append_assoc good (line ∷ []) more) h))

bad_told : (number : ℕ) (lines : Lines) → session_from 1 lines ≡ Err number → IsFirstBad number lines
bad_told number lines e =
    let q = session_stop 1 number lines e in
    let count : number ≡ 1 + length q.good = q.count in
    record {
      good = q.good;
      left = q.left;
      parts = q.parts;
      count = omega (arith, count);
      goes_on = (table_of q.session, q.more, session_stands 1 (q.good ++ q.more) q.session (q.goes 1));
      stops = stops_told q.good q.left q.stops;
    }

read_told : (limit : ℕ) (lines : Lines) (r : Result Session ℕ) → session_from 1 lines ≡ r → IsTold limit lines (tested limit r)
read_told limit lines (Err number) e = bad_told number lines e
read_told limit lines (Ok s) e = sound_told limit lines (table_of s) (least_unsound (table_of s)) (session_stands 1 lines s e) refl

-- ---- what is told is read

-- the longer of two fronts of one list goes on as the list does behind the shorter
record GoesFurther (a b c : Lines) : Type 0 where
  line : List ℕ
  left : Lines
  mid : Lines
  behind : b ≡ line ∷ left
  further : c ≡ a ++ line ∷ mid

further : (a b c d : Lines) → a ++ b ≡ c ++ d → length a < length c → GoesFurther a b c
further [] b [] d e less = absurd (omega (arith, less))
further [] b (y ∷ c) d e less = record { line = y; left = c ++ d; mid = c; behind = e; further = refl }
further (x ∷ a) b [] d e less = absurd (omega (arith, less))
further (x ∷ a) b (y ∷ c) d e less =
    let fewer : length a < length c = omega (arith, less) in
    let p = further a b c d (tails x y (a ++ b) (c ++ d) e) fewer in
    record { line = p.line; left = p.left; mid = p.mid; behind = p.behind; further = λ i. sym (heads x y (a ++ b) (c ++ d) e) i ∷ p.further i }

no_further : (m n : ℕ) (lines : Lines) (g : IsFirstBad m lines) (h : IsFirstBad n lines) → length g.good < length h.good → ⊥
no_further m n lines g h less =
    let p = further g.good g.left h.good h.left (sym g.parts ∙ h.parts) less in
    let (t, more, stands) = h.goes_on in
    let same : h.good ++ more ≡ (g.good ++ p.line ∷ []) ++ (p.mid ++ more) =
    ap (λ (ls : Lines). ls ++ more) p.further ∙ append_assoc g.good (p.line ∷ p.mid) more ∙ sym (append_assoc g.good (p.line ∷ []) (p.mid ++ more)) in
    let stops : StopsAt g.good (p.line ∷ p.left) = subst (StopsAt g.good) p.behind g.stops in
    stops (t, p.mid ++ more, subst (StandsIn t) same stands)

same_bad : (m n : ℕ) (lines : Lines) → IsFirstBad m lines → IsFirstBad n lines → m ≡ n
same_bad m n lines g h =
    by_bool (nat_lt (length g.good) (length h.good)) (λ less. absurd (no_further m n lines g h (lt_of (length g.good) (length h.good) less)))
    (λ least. by_bool (nat_lt (length h.good) (length g.good)) (λ less. absurd (no_further n m lines h g (lt_of (length h.good) (length g.good) less)))
    (λ none. let first : length h.good ≤ length g.good = le_of (length g.good) (length h.good) least in let second : length g.good ≤ length h.good = le_of (length h.good) (length g.good) none in let c = g.count in let d = h.count in omega (arith, first, second, c, d)))
  where
    lt_of : (a b : ℕ) → nat_lt a b ≡ true → a < b
    lt_of a b e = grind (arith, nat_tests, e)

    le_of : (a b : ℕ) → nat_lt a b ≡ false → b ≤ a
    le_of a b e = grind (arith, nat_tests, e)

-- no session stands in lines that have a first bad one
none_stands : (number : ℕ) (lines left : Lines) (t : TableValue) (h : IsFirstBad number lines) → h.left ≡ left → StandsIn t lines → ⊥
none_stands number lines [] t h is stands =
    let stops : StopsAt h.good [] = subst (StopsAt h.good) is h.stops in
    stops t (subst (StandsIn t) (h.parts ∙ ap (λ (ls : Lines). h.good ++ ls) is ∙ append-nil h.good) stands)
none_stands number lines (line ∷ left) t h is stands =
    let stops : StopsAt h.good (line ∷ left) = subst (StopsAt h.good) is h.stops in
    stops (t, left, subst (StandsIn t) (h.parts ∙ ap (λ (ls : Lines). h.good ++ ls) is ∙ sym (append_assoc h.good (line ∷ []) left)) stands)

bad_read : (number : ℕ) (lines : Lines) (r : Result Session ℕ) → session_from 1 lines ≡ r → IsFirstBad number lines → r ≡ Err number
bad_read number lines (Ok s) e h = absurd (none_stands number lines h.left (table_of s) h refl (session_stands 1 lines s e))
bad_read number lines (Err m) e h = ap Err (same_bad m number lines (bad_told m lines e) h)

standing_within : (limit : ℕ) (lines : Lines) (t : TableValue) → StandsIn t lines → tested limit (session_from 1 lines) ≡ within limit t
standing_within limit lines t h = ap (tested limit) (standing_read 1 t lines h) ∙ ap (within limit) (table_again t)

full : (limit : ℕ) (t : TableValue) → IsSound t → limit < fin.len t.entries → within limit t ≡ Err TableFull
full limit t sound more = ap (if_sound limit t) (sound_tested t sound) ∙ ap (λ (b : Bool). cond b (Err TableFull) (Ok t)) (is_less (fin.len t.entries) more)
  where
    is_less : (len : ℕ) → limit < len → nat_lt limit len ≡ true
    is_less len h = grind (arith, nat_tests, h)

told_read : (limit : ℕ) (lines : Lines) (answer : Result TableValue SavedFault) → IsTold limit lines answer → tested limit (session_from 1 lines) ≡ answer
told_read limit lines (Ok t) (h, sound, fits) = standing_within limit lines t h ∙ within_again limit t sound fits
told_read limit lines (Err (BadSaved number)) h = ap (tested limit) (bad_read number lines (session_from 1 lines) refl h)
told_read limit lines (Err (Unsound key)) (t, h, least) = standing_within limit lines t h ∙ ap (if_sound limit t) (least_found t key h.number least)
told_read limit lines (Err TableFull) (t, h, sound, more) = standing_within limit lines t h ∙ full limit t sound more
told_read limit lines (Err Memory) h = absurd h

pub told_exactly : (limit : ℕ) (bytes : List ℕ) (answer : Result TableValue SavedFault) → (saved_table limit bytes ≡ answer) ↔ IsTold limit (lines_of bytes) answer
unfolding saved_table
told_exactly limit bytes answer =
    (λ e. subst (IsTold limit (lines_of bytes)) e (read_told limit (lines_of bytes) (session_from 1 (lines_of bytes)) refl), λ h. told_read limit (lines_of bytes) answer h)
