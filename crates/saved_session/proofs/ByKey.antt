-- Entries by rank: what is found by its key, and each of them.
use Rattle.std.proofs.Common.{◌≡◌, suc, Bool, true, false, cond, T, [], ◌∷◌, map, length, Some, None, is_some, refl, sym, ap, ◌∙◌}
use Rattle.std.specs.FinMap as fin
use Rattle.std.specs.FinMap.Entries.{find, is_sorted, below_all}
use Rattle.osm_base.specs.Rank.{rank_cmp, is_key}
use Rattle.osm_base.specs.RankLaws.{rank_total, rank_exact}
use Rattle.osm_base.proofs.RisingKeys.{key_itself, one_key}
use Rattle.osm_base.specs.declared.key.Key.{Key}
use Rattle.osm_base.proofs.Tests.{first_T, second_T}
use Rattle.osm_table.specs.declared.entry.Entry.{Entry}
use Rattle.osm_table.specs.Table.{keys_by_rank}
use Rattle.dataset.proofs.Looked.{below_none}
use Rattle.saved_session.specs.Reading.{Entries, Session, table_of}

-- each entry of a list meets a condition
abbrev pub Every : (Key → Entry → Type 0) → Entries → Type 0
Every P [] = Unit {0}
Every P (e ∷ es) = P e.0 e.1 × Every P es

first_found : (e : Key × Entry) (es : Entries) → find rank_cmp e.0 (e ∷ es) ≡ Some e.1
first_found e es = ap (λ b. cond b (Some e.1) (find rank_cmp e.0 es)) (key_itself e.0)

later_by : (b : Bool) (k : Key) (f : Entry) (e : Key × Entry) (es : Entries) → is_key k e.0 ≡ b → T (below_all rank_cmp e.0 es) → find rank_cmp k es ≡ Some f → cond b (Some e.1) (find rank_cmp k es) ≡ Some f
later_by true k f e es t below found =
    let none : find rank_cmp k es ≡ None = ap (λ (q : Key). find rank_cmp q es) (one_key k e.0 t) ∙ below_none e.0 es below in
    let no : true ≡ false = ap is_some (sym found ∙ none) in
    cc
later_by false k f e es t below found = found

later_found : (k : Key) (f : Entry) (e : Key × Entry) (es : Entries) → T (below_all rank_cmp e.0 es) → find rank_cmp k es ≡ Some f → find rank_cmp k (e ∷ es) ≡ Some f
later_found k f e es below found = later_by (is_key k e.0) k f e es refl below found

-- what is found by its key in a list by rank stands in it
pub every_found : (P : Key → Entry → Type 0) (es : Entries) → T (is_sorted rank_cmp es) → ((k : Key) (e : Entry) → find rank_cmp k es ≡ Some e → P k e) → Every P es
every_found P [] sorted each = tt
every_found P (e ∷ es) sorted each =
    let below = first_T (below_all rank_cmp e.0 es) (is_sorted rank_cmp es) sorted in
    (each e.0 e.1 (first_found e es), every_found P es (second_T (below_all rank_cmp e.0 es) (is_sorted rank_cmp es) sorted) (λ k f found. each k f (later_found k f e es below found)))

-- entries by rank are those of their table
pub entries_of : (es : Entries) → T (is_sorted rank_cmp es) → fin.entries (fin.from_entries {R = rank_cmp} es) ≡ es
entries_of es sorted =
    ap (λ (m : fin.FinMap rank_cmp Entry). fin.entries m) (fin.same_map rank_total rank_exact (fin.from_entries es) (fin.from_sorted es) (λ q. fin.get-from_entries rank_total es q ∙ sym (fin.get-from_sorted rank_cmp es q sorted)))
    ∙ fin.entries-from_sorted rank_cmp es sorted

-- and so are their keys
pub keys_of_table : (s : Session) → T (is_sorted rank_cmp s.entries) → keys_by_rank (table_of s) ≡ map (λ e. e.0) s.entries
keys_of_table s sorted = ap (λ (es : Entries). map (λ e. e.0) es) (entries_of s.entries sorted)

pub keys_len : (es : Entries) → length (map (λ (e : Key × Entry). e.0) es) ≡ length es
keys_len [] = refl
keys_len (e ∷ es) = ap (λ n. suc n) (keys_len es)

-- and their count
pub table_len : (s : Session) → T (is_sorted rank_cmp s.entries) → fin.len (table_of s).entries ≡ length (map (λ (e : Key × Entry). e.0) s.entries)
table_len s sorted = fin.len-entries (table_of s).entries ∙ ap (λ (es : Entries). length es) (entries_of s.entries sorted) ∙ sym (keys_len s.entries)
