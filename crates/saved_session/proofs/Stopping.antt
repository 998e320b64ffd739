-- Where the lines of a session stop: those before the first bad line can go on, and with it they can't.
use Rattle.std.proofs.Common.{◌≡◌, ℕ, ◌+◌, Bool, true, false, cond, List, [], ◌∷◌, ◌++◌, length, Option, Some, None, Result, Ok, Err, option_to_list, refl, sym, ap, subst, ◌∙◌, arith}
use Rattle.std.specs.FinMap as fin
use Rattle.std.proofs.lemmas.Option.{same_Some}
use Rattle.osm_base.specs.declared.key.Key.{Key}
use Rattle.osm_table.specs.Table.{TableValue}
use Rattle.osm_table.specs.declared.entry.Entry.{Entry}
use Rattle.opl_line.specs.Line.{freed}
use Rattle.saved_session.specs.Words.{header_of, is_header}
use Rattle.saved_session.specs.Saved.{saved_lines}
use Rattle.saved_session.specs.Reading.{Entries, Session, behind_header, entries_from, has_ended, onto, session_from, step, stepped, with_next}
use Rattle.saved_session.specs.declared.place.Place.{Place}
use Rattle.saved_session.specs.declared.place.Place.TheVariants as place
use Rattle.saved_session.specs.declared.place.Step.{Step}
use Rattle.saved_session.proofs.Ahead.{goes_on}
use Rattle.saved_session.proofs.ByKey.{Every, entries_of}
use Rattle.saved_session.proofs.EntryAgain.{Reads}
use Rattle.saved_session.proofs.Fitting.{Fits, step_fits}
use Rattle.saved_session.proofs.ReadBack.{next_read, stepped_ok}
use Rattle.saved_session.proofs.TableAgain.{from_header, session_of}
use Rattle.saved_session.proofs.Writable.{IsSavableEntry}

-- ---- entries

-- the lines give no entries from a place, whatever their number
abbrev ReadsNone : Place → List (List ℕ) → Type 0
ReadsNone here lines = (n : ℕ) (es : Entries) → entries_from n here lines ≡ Ok es → ⊥

abbrev StopsThere : Place → List (List ℕ) → List (List ℕ) → Type 0
StopsThere here good [] = ReadsNone here good
StopsThere here good (line ∷ left) = (more : List (List ℕ)) → ReadsNone here (good ++ line ∷ more)

record IsStop (n number : ℕ) (here : Place) (lines : List (List ℕ)) : Type 0 where
  good : List (List ℕ)
  left : List (List ℕ)
  parts : lines ≡ good ++ left
  count : number ≡ n + length good
  more : List (List ℕ)
  entries : Entries
  goes : Reads here (good ++ more) entries
  stops : StopsThere here good left

err_is : (m n : ℕ) → ◌≡◌ {A = Result Entries ℕ} (Err m) (Err n) → m ≡ n
err_is m n e = cc

-- without a line more the session hasn't ended
not_ended : (b : Bool) (m n : ℕ) → ◌≡◌ {A = Result Entries ℕ} (cond b (Ok []) (Err m)) (Err n) → (b ≡ false) × (m ≡ n)
not_ended true m n e = absurd cc
not_ended false m n e = (refl, err_is m n e)

never_ended : (b : Bool) (n : ℕ) (es : Entries) → b ≡ false → cond b (Ok []) (Err n) ≡ Ok es → ⊥
never_ended true n es runs e = cc
never_ended false n es runs e = cc

onto_err : (o : Option (Key × Entry)) (r : Result Entries ℕ) (number : ℕ) → onto o r ≡ Err number → r ≡ Err number
onto_err None r number e = e
onto_err (Some x) (Ok es) number e = absurd cc
onto_err (Some x) (Err n) number e = e

onto_good : (o : Option (Key × Entry)) (es : Entries) → onto o (Ok es) ≡ Ok (option_to_list o ++ es)
onto_good None es = refl
onto_good (Some x) es = refl

onto_back : (o : Option (Key × Entry)) (r : Result Entries ℕ) (es : Entries) → onto o r ≡ Ok es → (fs : Entries) × (r ≡ Ok fs)
onto_back None r es e = (es, e)
onto_back (Some x) (Ok fs) es e = (fs, refl)
onto_back (Some x) (Err n) es e = absurd cc

-- what is read behind a line
line_back : (n : ℕ) (here : Place) (line : List ℕ) (lines : List (List ℕ)) (s : Step) (es : Entries) → step here (freed line) ≡ Some s → entries_from n here (line ∷ lines) ≡ Ok es → (fs : Entries) × (entries_from (n + 1) s.place lines ≡ Ok fs)
line_back n here line lines s es is e =
    let p = stepped_ok n (step here (freed line)) (λ s. onto s.entry (entries_from (n + 1) s.place lines)) es e in
    subst (λ (s : Step). (fs : Entries) × (entries_from (n + 1) s.place lines ≡ Ok fs)) (same_Some p.0 s (sym p.1 ∙ is)) (onto_back p.0.entry (entries_from (n + 1) p.0.place lines) es p.2)

stops_behind : (here : Place) (line : List ℕ) (s : Step) (good left : List (List ℕ)) → step here (freed line) ≡ Some s → StopsThere s.place good left → StopsThere here (line ∷ good) left
stops_behind here line s good [] is stops = λ n es e. let p = line_back n here line good s es is e in stops (n + 1) p.0 p.1
stops_behind here line s good (next ∷ left) is stops = λ more n es e. let p = line_back n here line (good ++ next ∷ more) s es is e in stops more (n + 1) p.0 p.1

none_back : (n : ℕ) (here : Place) (line : List ℕ) (lines : List (List ℕ)) (es : Entries) → step here (freed line) ≡ None → entries_from n here (line ∷ lines) ≡ Ok es → ⊥
none_back n here line lines es is e =
    let p = stepped_ok n (step here (freed line)) (λ s. onto s.entry (entries_from (n + 1) s.place lines)) es e in
    let no : None ≡ Some p.0 = sym is ∙ p.1 in
    cc

stop_at : (n number : ℕ) (here : Place) (line : List ℕ) (lines : List (List ℕ)) (o : Option Step) → Fits here → step here (freed line) ≡ o →
    stepped n o (λ s. onto s.entry (entries_from (n + 1) s.place lines)) ≡ Err number → ((s : Step) → o ≡ Some s → entries_from (n + 1) s.place lines ≡ Err number → IsStop (n + 1) number s.place lines) → IsStop n number here (line ∷ lines)
stop_at n number here line lines None fits is e later =
    let on = goes_on here fits in
    let same : n ≡ number = err_is n number e in
    record {
      good = [];
      left = line ∷ lines;
      parts = refl;
      count = omega (arith, same);
      more = on.more;
      entries = on.entries;
      goes = on.reads;
      stops = λ more m es i. none_back m here line more es is i;
    }
stop_at n number here line lines (Some s) fits is e later =
    let q = later s refl (onto_err s.entry (entries_from (n + 1) s.place lines) number e) in
    let count : number ≡ (n + 1) + length q.good = q.count in
    record {
      good = line ∷ q.good;
      left = q.left;
      parts = ap (λ (ls : List (List ℕ)). line ∷ ls) q.parts;
      count = omega (arith, count);
      more = q.more;
      entries = option_to_list s.entry ++ q.entries;
      goes = λ m. rw is (ap (onto s.entry) (q.goes (m + 1)) ∙ onto_good s.entry q.entries);
      stops = stops_behind here line s q.good q.left is q.stops;
    }

stop : (n number : ℕ) (here : Place) (lines : List (List ℕ)) → Fits here → entries_from n here lines ≡ Err number → IsStop n number here lines
stop n number here [] fits e =
    let on = goes_on here fits in
    let p = not_ended (has_ended here) n number e in
    let same : n ≡ number = p.1 in
    record {
      good = [];
      left = [];
      parts = refl;
      count = omega (arith, same);
      more = on.more;
      entries = on.entries;
      goes = on.reads;
      stops = λ m es i. never_ended (has_ended here) m es p.0 i;
    }
stop n number here (line ∷ lines) fits e =
    stop_at n number here line lines (step here (freed line)) fits refl e (λ s is i. stop (n + 1) number s.place lines (step_fits here (freed line) s fits is).here i)

-- ---- the whole session

abbrev HasNoSession : List (List ℕ) → Type 0
HasNoSession lines = (n : ℕ) (s : Session) → session_from n lines ≡ Ok s → ⊥

abbrev pub SessionStops : List (List ℕ) → List (List ℕ) → Type 0
SessionStops good [] = HasNoSession good
SessionStops good (line ∷ left) = (more : List (List ℕ)) → HasNoSession (good ++ line ∷ more)

pub record IsSessionStop (n number : ℕ) (lines : List (List ℕ)) : Type 0 where
  pub good : List (List ℕ)
  pub left : List (List ℕ)
  pub parts : lines ≡ good ++ left
  pub count : number ≡ n + length good
  pub more : List (List ℕ)
  pub session : Session
  pub goes : (m : ℕ) → session_from m (good ++ more) ≡ Ok session
  pub stops : SessionStops good left

-- a session without entries
abbrev nothing : TableValue
nothing = record { entries = fin.from_entries []; next = 1 }

nothing_read : (n : ℕ) → session_from n (saved_lines nothing ++ []) ≡ Ok (session_of nothing)
nothing_read n = from_header n nothing [] refl (subst (Every IsSavableEntry) (sym (entries_of [] tt)) tt)

session_err : (m n : ℕ) → ◌≡◌ {A = Result Session ℕ} (Err m) (Err n) → m ≡ n
session_err m n e = cc

next_bad : (next : ℕ) (r : Result Entries ℕ) (number : ℕ) → with_next next r ≡ Err number → r ≡ Err number
next_bad next (Ok es) number e = absurd cc
next_bad next (Err n) number e = let same : n ≡ number = session_err n number e in ap Err same

-- a line that is no header
later_back : (b : Bool) (x y : Result Session ℕ) (s : Session) → b ≡ false → cond b x y ≡ Ok s → y ≡ Ok s
later_back true x y s is e = absurd cc
later_back false x y s is e = e

-- and one that is
here_back : (b : Bool) (x y : Result Session ℕ) (s : Session) → b ≡ true → cond b x y ≡ Ok s → x ≡ Ok s
here_back true x y s is e = e
here_back false x y s is e = absurd cc

session_back : (n : ℕ) (line : List ℕ) (lines : List (List ℕ)) (s : Session) → is_header (freed line) ≡ false → session_from n (line ∷ lines) ≡ Ok s → session_from (n + 1) lines ≡ Ok s
session_back n line lines s is e = later_back (is_header (freed line)) (behind_header n (header_of (freed line)) lines) (session_from (n + 1) lines) s is e

stops_later : (line : List ℕ) (good left : List (List ℕ)) → is_header (freed line) ≡ false → SessionStops good left → SessionStops (line ∷ good) left
stops_later line good [] is stops = λ n s e. stops (n + 1) s (session_back n line good s is e)
stops_later line good (next ∷ left) is stops = λ more n s e. stops more (n + 1) s (session_back n line (good ++ next ∷ more) s is e)

past_header : (n : ℕ) (line : List ℕ) (lines : List (List ℕ)) (o : Option ℕ) (s : Session) → is_header (freed line) ≡ true → header_of (freed line) ≡ o → session_from n (line ∷ lines) ≡ Ok s → behind_header n o lines ≡ Ok s
past_header n line lines o s is his e =
    ap (λ (o : Option ℕ). behind_header n o lines) (sym his) ∙ here_back (is_header (freed line)) (behind_header n (header_of (freed line)) lines) (session_from (n + 1) lines) s is e

no_number : (n : ℕ) (s : Session) → ◌≡◌ {A = Result Session ℕ} (Err n) (Ok s) → ⊥
no_number n s e = cc

stops_in : (line : List ℕ) (next : ℕ) (good left : List (List ℕ)) → is_header (freed line) ≡ true → header_of (freed line) ≡ Some next → StopsThere (place.Head None) good left → SessionStops (line ∷ good) left
stops_in line next good [] is his stops = λ n s e. stops (n + 1) s.entries (next_read next (entries_from (n + 1) (place.Head None) good) s (past_header n line good (Some next) s is his e)).0
stops_in line next good (after ∷ left) is his stops =
    λ more n s e. stops more (n + 1) s.entries (next_read next (entries_from (n + 1) (place.Head None) (good ++ after ∷ more)) s (past_header n line (good ++ after ∷ more) (Some next) s is his e)).0

at_header : (n number : ℕ) (line : List ℕ) (lines : List (List ℕ)) (o : Option ℕ) → is_header (freed line) ≡ true → header_of (freed line) ≡ o → behind_header n o lines ≡ Err number → IsSessionStop n number (line ∷ lines)
at_header n number line lines None is his e =
    let same : n ≡ number = session_err n number e in
    record {
      good = [];
      left = line ∷ lines;
      parts = refl;
      count = omega (arith, same);
      more = saved_lines nothing ++ [];
      session = session_of nothing;
      goes = nothing_read;
      stops = λ more m s i. no_number m s (past_header m line more None s is his i);
    }
at_header n number line lines (Some next) is his e =
    let q = stop (n + 1) number (place.Head None) lines tt (next_bad next (entries_from (n + 1) (place.Head None) lines) number e) in
    let count : number ≡ (n + 1) + length q.good = q.count in
    record {
      good = line ∷ q.good;
      left = q.left;
      parts = ap (λ (ls : List (List ℕ)). line ∷ ls) q.parts;
      count = omega (arith, count);
      more = q.more;
      session = record { next = next; entries = q.entries };
      goes = λ m. rw (is, his, q.goes (m + 1)) refl;
      stops = stops_in line next q.good q.left is his q.stops;
    }

at_line : (n number : ℕ) (line : List ℕ) (lines : List (List ℕ)) (b : Bool) → is_header (freed line) ≡ b → cond b (behind_header n (header_of (freed line)) lines) (session_from (n + 1) lines) ≡ Err number →
    (session_from (n + 1) lines ≡ Err number → IsSessionStop (n + 1) number lines) → IsSessionStop n number (line ∷ lines)
at_line n number line lines true is e later = at_header n number line lines (header_of (freed line)) is refl e
at_line n number line lines false is e later =
    let q = later e in
    let count : number ≡ (n + 1) + length q.good = q.count in
    record {
      good = line ∷ q.good;
      left = q.left;
      parts = ap (λ (ls : List (List ℕ)). line ∷ ls) q.parts;
      count = omega (arith, count);
      more = q.more;
      session = q.session;
      goes = λ m. rw is (q.goes (m + 1));
      stops = stops_later line q.good q.left is q.stops;
    }

-- Where no session was read, the lines before the number's can go on to one, and with the next line they can't.
pub session_stop : (n number : ℕ) (lines : List (List ℕ)) → session_from n lines ≡ Err number → IsSessionStop n number lines
session_stop n number [] e =
    let same : n ≡ number = session_err n number e in
    record {
      good = [];
      left = [];
      parts = refl;
      count = omega (arith, same);
      more = saved_lines nothing ++ [];
      session = session_of nothing;
      goes = nothing_read;
      stops = λ m s i. no_number m s i;
    }
session_stop n number (line ∷ lines) e = at_line n number line lines (is_header (freed line)) refl e (λ i. session_stop (n + 1) number lines i)
