-- The table of which no more is known than what is told.
use Rattle.std.proofs.Common.{◌≡◌, ◌∙◌, ℕ, Bool, true, false, cond, is_some, List, [], ◌∷◌, map, length, Option, Some, None, refl, sym, ap}
use Rattle.std.specs.FinMap as fin
use Rattle.std.specs.FinMap.Entries.{find}
use Rattle.std.specs.Option.{option_map}
use Rattle.std.proofs.lemmas.List.{length-map}
use Rattle.osm_base.specs.Rank.{rank_cmp, is_key}
use Rattle.osm_base.specs.RankLaws.{rank_total, rank_exact, rank_ties}
use Rattle.osm_base.specs.declared.key.Key.{Key}
use Rattle.osm_base.proofs.ByRank.{rises_keys}
use Rattle.osm_base.proofs.MapViews.{get_view}
use Rattle.osm_base.proofs.RisingKeys.{same_keys}
use Rattle.osm_table.specs.declared.entry.Entry.{Entry}
use Rattle.osm_table.specs.Table.{TableValue, entry_of, keys_by_rank}
use Rattle.osm_table.specs.Told.{ToldEntries, entry_told, table_told}
use Rattle.osm_table.specs.ToldCode.{told_kept, AreTold}
use Rattle.osm_table.proofs.Each.{same_table}
use Rattle.osm_table.proofs.ToldLaws.{entry_kept_at}

mapped_case : {A B : Type 0} (f : A → B) (b : Bool) (a : A) (o : Option A) → cond b (Some (f a)) (option_map f o) ≡ option_map f (cond b (Some a) o)
mapped_case f true a o = refl
mapped_case f false a o = refl

-- what is found where each value is replaced by what a function makes of it
pub find_mapped : {A B : Type 0} (f : A → B) (es : List (Key × A)) (k : Key) → find rank_cmp k (map (λ e. (e.0, f e.1)) es) ≡ option_map f (find rank_cmp k es)
find_mapped f [] k = refl
find_mapped f (e ∷ es) k = ap (cond (is_key k e.0) (Some (f e.1))) (find_mapped f es k) ∙ mapped_case f (is_key k e.0) e.1 (find rank_cmp k es)

-- the same of a finite map
pub get_mapped : {A B : Type 0} (f : A → B) (m : fin.FinMap rank_cmp A) (k : Key) → fin.get (fin.from_entries {R = rank_cmp} (map (λ e. (e.0, f e.1)) (fin.entries m))) k ≡ option_map f (fin.get m k)
get_mapped f m k =
    fin.get-from_entries rank_total (map (λ e. (e.0, f e.1)) (fin.entries m)) k
    ∙ find_mapped f (fin.entries m) k
    ∙ ap (option_map f) (sym (fin.get-entries m k))

-- at a key it has the entry of what is told of it
pub table_told_at : (told : ToldEntries) (next : ℕ) (k : Key) → entry_of (table_told told next) k ≡ option_map entry_told (fin.get told k)
table_told_at told next k = get_mapped entry_told told k

some_mapped : {A B : Type 0} (f : A → B) (o : Option A) → is_some o ≡ is_some (option_map f o)
some_mapped f None = refl
some_mapped f (Some a) = refl

-- its keys are those of which something is told
pub told_keys : (told : ToldEntries) (next : ℕ) → fin.keys told ≡ keys_by_rank (table_told told next)
told_keys told next =
    let m = (table_told told next).entries in
    same_keys (fin.keys told) (fin.keys m) (rises_keys told) (rises_keys m)
    (λ q. sym (fin.contains_key-keys told q) ∙ some_mapped entry_told (fin.get told q) ∙ ap is_some (sym (table_told_at told next q)) ∙ fin.contains_key-keys m q)

len_keys : {V : Type 0} (m : fin.FinMap rank_cmp V) → fin.len m ≡ length (fin.keys m)
len_keys m = fin.len-entries m ∙ sym (length-map (fin.entries m) (λ e. e.0))

pub told_number : (told : ToldEntries) (next : ℕ) → fin.len told ≡ fin.len (table_told told next).entries
told_number told next = len_keys told ∙ ap (λ (ks : List Key). length ks) (told_keys told next) ∙ sym (len_keys (table_told told next).entries)

-- the entries that a told map keeps are those of its table
pub table_kept : (es : List (Key × Entry)) (next : ℕ) → AreTold es → ◌≡◌ {A = TableValue} (record { entries = fin.from_entries es; next = next }) (table_told (told_kept es) next)
table_kept es next all =
    same_table (record { entries = fin.from_entries es; next = next }) (table_told (told_kept es) next)
    (λ k. sym (get_view rank_total rank_exact rank_ties es k) ∙ entry_kept_at es k all ∙ sym (table_told_at (told_kept es) next k))
    refl
