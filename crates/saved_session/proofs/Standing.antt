-- A session is read from lines just where the saved session of its table stands in them.
use Rattle.std.proofs.Common.{◌≡◌, ℕ, ◌+◌, Bool, true, false, cond, not, List, [], ◌∷◌, ◌++◌, map, Option, Some, None, Ok, refl, sym, ap, subst, ◌∙◌, T}
use Rattle.std.specs.List.{list_all}
use Rattle.std.specs.FinMap as fin
use Rattle.std.specs.FinMap.Entries.{find, is_sorted}
use Rattle.std.proofs.lemmas.Bool.{and_from, and_parts, not-true}
use Rattle.std.proofs.lemmas.Option.{same_Some}
use Rattle.osm_base.specs.Number.{id_test}
use Rattle.osm_base.specs.Rank.{rank_cmp, is_key}
use Rattle.osm_base.specs.RankLaws.{rank_total}
use Rattle.osm_base.specs.declared.key.Key.{Key}
use Rattle.osm_base.proofs.RisingKeys.{one_key}
use Rattle.osm_table.specs.declared.entry.Entry.{Entry}
use Rattle.osm_table.specs.Table.{TableValue, entry_of}
use Rattle.opl_line.specs.Line.{freed}
use Rattle.opl_line.proofs.Unbroken.{AllUnbroken}
use Rattle.saved_session.specs.Words.{header_of, header_written, is_header}
use Rattle.saved_session.specs.Saved.{entries_lines, saved_lines}
use Rattle.saved_session.specs.Reading.{Entries, Session, behind_header, entries_from, onto, session_from, step, stepped, table_of}
use Rattle.saved_session.specs.Told.{StandsIn}
use Rattle.saved_session.specs.declared.place.Place.{Place}
use Rattle.saved_session.specs.declared.place.Place.TheVariants as place
use Rattle.saved_session.proofs.ByKey.{Every, entries_of, every_found}
use Rattle.saved_session.proofs.EntryAgain.{entries_again, freed_plain}
use Rattle.saved_session.proofs.Fitting.{entries_fit}
use Rattle.saved_session.proofs.HasLines.{entry_lines_are, entry_savable}
use Rattle.saved_session.proofs.Plain.{entries_plain, is_end}
use Rattle.saved_session.proofs.ReadBack.{header_read, next_read}
use Rattle.saved_session.proofs.TableAgain.{first_behind, session_of}
use Rattle.saved_session.proofs.WordsAgain.{header_again}
use Rattle.saved_session.proofs.Writable.{IsSavableEntry, number_id, number_is}

abbrev pub Lines : Type 0
Lines = List (List ℕ)

pub heads : (x y : List ℕ) (xs ys : Lines) → x ∷ xs ≡ y ∷ ys → x ≡ y
heads x y xs ys e = cc

pub tails : (x y : List ℕ) (xs ys : Lines) → x ∷ xs ≡ y ∷ ys → xs ≡ ys
tails x y xs ys e = cc

-- ---- from the lines to the session

-- lines that are the same without the CR at their ends are read alike
same_read : (n : ℕ) (here : Place) (a b behind : Lines) → map freed a ≡ map freed b → entries_from n here (a ++ behind) ≡ entries_from n here (b ++ behind)
same_read n here [] [] behind e = refl
same_read n here [] (y ∷ b) behind e = absurd cc
same_read n here (x ∷ a) [] behind e = absurd cc
same_read n here (x ∷ a) (y ∷ b) behind e =
    let first = heads (freed x) (freed y) (map freed a) (map freed b) e in
    let others = tails (freed x) (freed y) (map freed a) (map freed b) e in
    λ i. stepped n (step here (first i)) (λ s. onto s.entry (same_read (n + 1) s.place a b behind others i))

plain_freed : (lines : Lines) → AllUnbroken is_end lines → map freed lines ≡ lines
plain_freed [] h = refl
plain_freed (line ∷ lines) h = λ i. freed_plain line h.0 i ∷ plain_freed lines h.1 i

own_read : (n : ℕ) (t : TableValue) (own behind : Lines) → id_test t.next ≡ true → Every IsSavableEntry (fin.entries t.entries) → map freed own ≡ saved_lines t → session_from n (own ++ behind) ≡ Ok (session_of t)
own_read n t [] behind number good e = absurd cc
own_read n t (line ∷ lines) behind number good e =
    let es = fin.entries t.entries in
    let first : freed line ≡ header_written t.next = heads (freed line) (header_written t.next) (map freed lines) (entries_lines es) e in
    let others : map freed lines ≡ entries_lines es = tails (freed line) (header_written t.next) (map freed lines) (entries_lines es) e in
    let same = same_read (n + 1) (place.Head None) lines (entries_lines es) behind (others ∙ sym (plain_freed (entries_lines es) (entries_plain es))) in
    rw (first, header_again t.next number, same ∙ entries_again None es behind (fin.entries_sorted t.entries) (first_behind es) good (n + 1)) refl

front_read : (n : ℕ) (t : TableValue) (front own behind : Lines) → list_all (λ line. not (is_header (freed line))) front ≡ true → id_test t.next ≡ true → Every IsSavableEntry (fin.entries t.entries) → map freed own ≡ saved_lines t →
    session_from n (front ++ (own ++ behind)) ≡ Ok (session_of t)
front_read n t [] own behind before number good e = own_read n t own behind number good e
front_read n t (line ∷ front) own behind before number good e =
    let p = and_parts (not (is_header (freed line))) (list_all (λ line. not (is_header (freed line))) front) before in
    rw (not-true (is_header (freed line)) p.0) (front_read (n + 1) t front own behind p.1 number good e)

pub standing_read : (n : ℕ) (t : TableValue) (lines : Lines) → StandsIn t lines → session_from n lines ≡ Ok (session_of t)
standing_read n t lines h =
    let good = every_found IsSavableEntry (fin.entries t.entries) (fin.entries_sorted t.entries)
    (λ k e found. let there : entry_of t k ≡ Some e = fin.get-entries t.entries k ∙ found in entry_savable k e (h.entries k e there)) in
    ap (session_from n) h.parts ∙ front_read n t h.front h.own h.behind h.before (number_id t.next h.number) good h.written

-- ---- from the session to the lines

-- where the lines without their CR are two lists, so are the lines
split : (xs a b : Lines) → map freed xs ≡ a ++ b → (ys : Lines) × (zs : Lines) × (xs ≡ ys ++ zs) × (map freed ys ≡ a)
split xs [] b e = ([], xs, refl, refl)
split [] (y ∷ a) b e = absurd cc
split (x ∷ xs) (y ∷ a) b e =
    let p = split xs a b (tails (freed x) y (map freed xs) (a ++ b) e) in
    (x ∷ p.0, p.1, ap (λ (ls : Lines). x ∷ ls) p.2, λ i. heads (freed x) y (map freed xs) (a ++ b) e i ∷ p.3 i)

-- where a session stands that was read
pub record Stood (s : Session) (lines : Lines) : Type 0 where
  pub number : id_test s.next ≡ true
  pub sorted : T (is_sorted rank_cmp s.entries)
  pub good : Every IsSavableEntry s.entries
  pub front : Lines
  pub own : Lines
  pub behind : Lines
  pub parts : lines ≡ front ++ (own ++ behind)
  pub before : list_all (λ line. not (is_header (freed line))) front ≡ true
  pub written : map freed own ≡ header_written s.next ∷ entries_lines s.entries

header_good : (n : ℕ) (o : Option ℕ) (lines : Lines) (s : Session) → behind_header n o lines ≡ Ok s → Every IsSavableEntry s.entries
header_good n None lines s e = absurd cc
header_good n (Some next) lines s e = entries_fit (n + 1) (place.Head None) lines s.entries tt (next_read next (entries_from (n + 1) (place.Head None) lines) s e).0

stood_at : (n : ℕ) (line : List ℕ) (lines : Lines) (s : Session) (b : Bool) → is_header (freed line) ≡ b → cond b (behind_header n (header_of (freed line)) lines) (session_from (n + 1) lines) ≡ Ok s → (session_from (n + 1) lines ≡ Ok s → Stood s lines) → Stood s (line ∷ lines)
stood_at n line lines s true is e later =
    let r = header_read n (header_of (freed line)) (freed line) lines s refl e in
    let p = split (line ∷ lines) (header_written s.next ∷ entries_lines s.entries) r.behind r.read in
    record { number = r.number; sorted = r.sorted; good = header_good n (header_of (freed line)) lines s e; front = []; own = p.0; behind = p.1; parts = p.2; before = refl; written = p.3 }
stood_at n line lines s false is e later =
    let q = later e in
    record {
      number = q.number;
      sorted = q.sorted;
      good = q.good;
      front = line ∷ q.front;
      own = q.own;
      behind = q.behind;
      parts = ap (λ (ls : Lines). line ∷ ls) q.parts;
      before = and_from (not (is_header (freed line))) (list_all (λ line. not (is_header (freed line))) q.front) (ap not is) q.before;
      written = q.written;
    }

pub stood : (n : ℕ) (lines : Lines) (s : Session) → session_from n lines ≡ Ok s → Stood s lines
stood n [] s e = absurd cc
stood n (line ∷ lines) s e = stood_at n line lines s (is_header (freed line)) refl e (λ i. stood (n + 1) lines s i)

-- what each entry of a list meets, that meets which is found by its key
key_case : (P : Key → Entry → Type 0) (b : Bool) (k : Key) (f : Entry) (e : Key × Entry) (es : Entries) → is_key k e.0 ≡ b → P e.0 e.1 → (find rank_cmp k es ≡ Some f → P k f) → cond b (Some e.1) (find rank_cmp k es) ≡ Some f → P k f
key_case P true k f e es is h later found = subst (λ (g : Entry). P k g) (same_Some e.1 f found) (subst (λ (q : Key). P q e.1) (sym (one_key k e.0 is)) h)
key_case P false k f e es is h later found = later found

every_at : (P : Key → Entry → Type 0) (es : Entries) (k : Key) (f : Entry) → Every P es → find rank_cmp k es ≡ Some f → P k f
every_at P [] k f h found = absurd cc
every_at P (e ∷ es) k f h found = key_case P (is_key k e.0) k f e es refl h.0 (λ later. every_at P es k f h.1 later) found

pub session_stands : (n : ℕ) (lines : Lines) (s : Session) → session_from n lines ≡ Ok s → StandsIn (table_of s) lines
session_stands n lines s e =
    let h = stood n lines s e in
    record {
      number = number_is s.next h.number;
      entries = λ k f there. entry_lines_are k f (every_at IsSavableEntry s.entries k f h.good (sym (fin.get-from_entries rank_total s.entries k) ∙ there));
      front = h.front;
      own = h.own;
      behind = h.behind;
      parts = h.parts;
      before = h.before;
      written = h.written ∙ ap (λ (es : Entries). header_written s.next ∷ entries_lines es) (sym (entries_of s.entries h.sorted));
    }
