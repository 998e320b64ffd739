-- The text of a table gives the table again, whatever lines stand around it.
use Rattle.std.proofs.Common.{◌≡◌, ℕ, ◌+◌, ◌==◌, ◌≤◌, true, false, not, List, [], ◌∷◌, ◌++◌, None, Ok, refl, sym, ap, ◌∙◌, append-nil, append_assoc, arith}
use Rattle.std.specs.List.{list_all}
use Rattle.std.specs.FinMap as fin
use Rattle.std.proofs.lemmas.Bool.{and_parts, not-true, le-ltb}
use Rattle.std.proofs.lemmas.Bool.Decides.{nat_tests}
use Rattle.osm_base.specs.Number.{id_test}
use Rattle.osm_base.specs.Rank.{rank_cmp}
use Rattle.osm_base.specs.RankLaws.{rank_total, rank_exact}
use Rattle.osm_table.specs.declared.entry.Entry.{Entry}
use Rattle.osm_table.specs.Table.{TableValue}
use Rattle.dataset.specs.Sound.{IsSound}
use Rattle.opl_line.specs.Line.{freed}
use Rattle.opl_line.proofs.Unbroken.{Unbroken, AllUnbroken}
use Rattle.opl_file.specs.Cut.{has_lf, lines_of}
use Rattle.opl_file.proofs.Cutting.{lines_of-line}
use Rattle.saved_session.specs.Words.{header_written, is_header}
use Rattle.saved_session.specs.Saved.{ended, saved, saved_lines}
use Rattle.saved_session.specs.Savable.{AreReadable, is_before}
use Rattle.saved_session.specs.Reading.{Entries, Session, session_from, table_of}
use Rattle.saved_session.specs.Resumed.{if_sound, saved_table, tested, within}
use Rattle.saved_session.proofs.ByKey.{Every}
use Rattle.saved_session.proofs.EntryAgain.{entries_again, freed_plain}
use Rattle.saved_session.proofs.Pieces.{saved_is}
use Rattle.saved_session.proofs.Plain.{entries_plain, header_plain, is_end}
use Rattle.saved_session.proofs.ReadBack.{is_first_behind}
use Rattle.saved_session.proofs.SoundTested.{sound_tested}
use Rattle.saved_session.proofs.WordsAgain.{header_again}
use Rattle.saved_session.proofs.Writable.{IsSavableEntry, number_id, sound_savable}

-- ---- lines ended by LF are cut again

-- no line has an LF
abbrev AreLines : List (List ℕ) → Type 0
AreLines [] = Unit {0}
AreLines (line ∷ lines) = (has_lf line ≡ false) × AreLines lines

no_lf : (line : List ℕ) → Unbroken is_end line → has_lf line ≡ false
no_lf [] h = refl
no_lf (b ∷ line) h =
    let other : (b == 10) ≡ false = grind (arith, nat_tests, h.0) in
    rw (other, no_lf line h.1) refl

plain_lines : (lines : List (List ℕ)) → AllUnbroken is_end lines → AreLines lines
plain_lines [] h = tt
plain_lines (line ∷ lines) h = (no_lf line h.0, plain_lines lines h.1)

before_lines : (lines : List (List ℕ)) → list_all is_before lines ≡ true → AreLines lines
before_lines [] h = tt
before_lines (line ∷ lines) h =
    let p = and_parts (is_before line) (list_all is_before lines) h in
    let q = and_parts (not (has_lf line)) (not (is_header (freed line))) p.0 in
    (not-true (has_lf line) q.0, before_lines lines p.1)

lines_again : (lines : List (List ℕ)) (bytes : List ℕ) → AreLines lines → lines_of (ended lines ++ bytes) ≡ lines ++ lines_of bytes
lines_again [] bytes h = refl
lines_again (line ∷ lines) bytes h =
    lines_of-line (ended (line ∷ lines) ++ bytes) line (ended lines ++ bytes) h.0 (append_assoc (line ++ 10 ∷ []) (ended lines) bytes ∙ append_assoc line (10 ∷ []) (ended lines ++ bytes))
    ∙ ap (λ (ls : List (List ℕ)). line ∷ ls) (lines_again lines bytes h.1)

-- the lines of a text around a saved one
text_again : (front : List (List ℕ)) (t : TableValue) (behind : List ℕ) → list_all is_before front ≡ true → lines_of (ended front ++ (saved t ++ behind)) ≡ front ++ (saved_lines t ++ lines_of behind)
text_again front t behind before =
    lines_again front (saved t ++ behind) (before_lines front before)
    ∙ ap (λ (ls : List (List ℕ)). front ++ ls)
    (ap (λ (text : List ℕ). lines_of (text ++ behind)) (saved_is t)
    ∙ lines_again (saved_lines t) behind (plain_lines (saved_lines t) (header_plain t.next, entries_plain (fin.entries t.entries))))

-- ---- the whole

entries_back : (m : fin.FinMap rank_cmp Entry) → fin.from_entries (fin.entries m) ≡ m
entries_back m = fin.same_map rank_total rank_exact (fin.from_entries (fin.entries m)) m (λ q. fin.get-from_entries rank_total (fin.entries m) q ∙ sym (fin.get-entries m q))

pub first_behind : (es : Entries) → is_first_behind None es ≡ true
first_behind [] = refl
first_behind (e ∷ es) = refl

abbrev pub session_of : TableValue → Session
session_of t = record { next = t.next; entries = fin.entries t.entries }

pub from_header : (n : ℕ) (t : TableValue) (behind : List (List ℕ)) → id_test t.next ≡ true → Every IsSavableEntry (fin.entries t.entries) → session_from n (saved_lines t ++ behind) ≡ Ok (session_of t)
from_header n t behind number good =
    let es = fin.entries t.entries in
    rw (freed_plain (header_written t.next) (header_plain t.next), header_again t.next number, entries_again None es behind (fin.entries_sorted t.entries) (first_behind es) good (n + 1)) refl

session_again : (n : ℕ) (front : List (List ℕ)) (t : TableValue) (behind : List (List ℕ)) → list_all is_before front ≡ true → id_test t.next ≡ true → Every IsSavableEntry (fin.entries t.entries) →
    session_from n (front ++ (saved_lines t ++ behind)) ≡ Ok (session_of t)
session_again n [] t behind before number good = from_header n t behind number good
session_again n (line ∷ front) t behind before number good =
    let p = and_parts (is_before line) (list_all is_before front) before in
    let q = and_parts (not (has_lf line)) (not (is_header (freed line))) p.0 in
    rw (not-true (is_header (freed line)) q.1) (session_again (n + 1) front t behind p.1 number good)

pub table_again : (t : TableValue) → table_of (session_of t) ≡ t
table_again t i = record { entries = entries_back t.entries i; next = t.next }

pub within_again : (limit : ℕ) (t : TableValue) → IsSound t → fin.len t.entries ≤ limit → within limit t ≡ Ok t
within_again limit t sound fits = ap (if_sound limit t) (sound_tested t sound) ∙ rw (le-ltb limit (fin.len t.entries) fits) refl

pub among_lines : (limit : ℕ) (t : TableValue) (front : List (List ℕ)) (behind : List ℕ) → IsSound t → AreReadable t → fin.len t.entries ≤ limit → list_all is_before front ≡ true → saved_table limit (ended front ++ (saved t ++ behind)) ≡ Ok t
unfolding saved_table
among_lines limit t front behind sound readable fits before =
    ap (λ (lines : List (List ℕ)). tested limit (session_from 1 lines)) (text_again front t behind before)
    ∙ ap (tested limit) (session_again 1 front t (lines_of behind) before (number_id t.next sound.number) (sound_savable t sound readable))
    ∙ ap (within limit) (table_again t) ∙ within_again limit t sound fits

pub alone : (limit : ℕ) (t : TableValue) → IsSound t → AreReadable t → fin.len t.entries ≤ limit → saved_table limit (saved t) ≡ Ok t
alone limit t sound readable fits = ap (saved_table limit) (sym (append-nil (saved t))) ∙ among_lines limit t [] [] sound readable fits refl
