-- All keys out and other entries in is another table.
use Rattle.std.proofs.Common.{◌≡◌, Bool, true, false, cond, ◌||◌, is_some, T, List, [], ◌∷◌, Option, Some, None, refl, sym, ap, ◌∙◌}
use Rattle.std.specs.FinMap as fin
use Rattle.std.specs.FinMap.Entries.{find, is_sorted, below_all}
use Rattle.osm_base.specs.Rank.{rank_cmp, is_key}
use Rattle.osm_base.specs.RankLaws.{rank_total}
use Rattle.osm_base.specs.RisingKeys.{is_in}
use Rattle.osm_base.proofs.RisingKeys.{one_key}
use Rattle.osm_base.specs.declared.key.Key.{Key}
use Rattle.osm_base.proofs.Tests.{first_T, second_T, none_from_test}
use Rattle.osm_table.specs.declared.entry.Entry.{Entry}
use Rattle.osm_table.specs.Table.{TableValue, entry_of, with_entry, without_entry, keys_by_rank}
use Rattle.osm_table.proofs.Each.{get_with, get_without, same_table}
use Rattle.dataset.specs.Draft.{DraftValue, drafted}
use Rattle.dataset.proofs.Changes.{drafted_none}
use Rattle.dataset.proofs.Looked.{below_none}
use Rattle.saved_session.specs.Reading.{Entries, Session, table_of}
use Rattle.saved_session.specs.Drafting.{with_all, without_all}

-- ---- keys out

out_case : (a b : Bool) (o : Option Entry) → cond b None (cond a None o) ≡ cond (a || b) None o
out_case true true o = refl
out_case true false o = refl
out_case false true o = refl
out_case false false o = refl

get_out : (ks : List Key) (t : TableValue) (q : Key) → entry_of (without_all ks t) q ≡ cond (is_in q ks) None (entry_of t q)
get_out [] t q = refl
get_out (k ∷ ks) t q = get_out ks (without_entry t k) q ∙ ap (λ (o : Option Entry). cond (is_in q ks) None o) (get_without t k q) ∙ out_case (is_key q k) (is_in q ks) (entry_of t q)

all_out_case : (b : Bool) (o : Option Entry) → is_some o ≡ b → cond b None o ≡ None
all_out_case true o e = refl
all_out_case false o e = none_from_test o e

-- without all its keys a table has no entry
get_all_out : (t : TableValue) (q : Key) → entry_of (without_all (keys_by_rank t) t) q ≡ None
get_all_out t q = get_out (keys_by_rank t) t q ∙ all_out_case (is_in q (keys_by_rank t)) (entry_of t q) (fin.contains_key-keys t.entries q)

-- ---- entries in

abbrev or_else : Option Entry → Option Entry → Option Entry
or_else None o = o
or_else (Some e) o = Some e

in_case : (b : Bool) (e : Entry) (f o : Option Entry) → (b ≡ true → f ≡ None) → or_else f (cond b (Some e) o) ≡ or_else (cond b (Some e) f) o
in_case true e f o none = ap (λ (g : Option Entry). or_else g (Some e)) (none refl)
in_case false e f o none = refl

get_in : (es : Entries) (t : TableValue) (q : Key) → T (is_sorted rank_cmp es) → entry_of (with_all es t) q ≡ or_else (find rank_cmp q es) (entry_of t q)
get_in [] t q sorted = refl
get_in (e ∷ es) t q sorted =
    let below = first_T (below_all rank_cmp e.0 es) (is_sorted rank_cmp es) sorted in
    get_in es (with_entry t e.0 e.1) q (second_T (below_all rank_cmp e.0 es) (is_sorted rank_cmp es) sorted)
    ∙ ap (or_else (find rank_cmp q es)) (get_with t e.0 e.1 q)
    ∙ in_case (is_key q e.0) e.1 (find rank_cmp q es) (entry_of t q) (λ same. ap (λ (k : Key). find rank_cmp k es) (one_key q e.0 same) ∙ below_none e.0 es below)

or_none : (f : Option Entry) → or_else f None ≡ f
or_none None = refl
or_none (Some e) = refl

-- the whole draft
pub drafted_saved : (t : TableValue) (s : Session) (first second third : DraftValue) (keys : List Key) → T (is_sorted rank_cmp s.entries) → first ≡ record { puts = fin.empty; next = t.next } → keys ≡ keys_by_rank t →
    drafted second t ≡ without_all keys (drafted first t) → drafted third t ≡ with_all s.entries (drafted second t) → drafted (record third { next = s.next }) t ≡ table_of s
drafted_saved t s first second third keys sorted new all out come =
    let begun : drafted first t ≡ t = ap (λ (d : DraftValue). drafted d t) new ∙ drafted_none t.next t in
    let gone : drafted second t ≡ without_all (keys_by_rank t) t = out ∙ (λ i. without_all (all i) (begun i)) in
    same_table _ _
    (λ q. ap (λ (u : TableValue). entry_of u q) come ∙ get_in s.entries (drafted second t) q sorted
    ∙ ap (or_else (find rank_cmp q s.entries)) (ap (λ (u : TableValue). entry_of u q) gone ∙ get_all_out t q) ∙ or_none (find rank_cmp q s.entries)
    ∙ sym (fin.get-from_entries rank_total s.entries q))
    refl
