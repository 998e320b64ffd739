-- The list that an exact index lends is the users of the table.
use Rattle.std.proofs.Common.{◌≡◌, ℕ, ◌+◌, ◌||◌, Bool, true, false, cond, Option, Some, None, List, [], ◌∷◌, map, refl, sym, ◌∙◌, ap, arith}
use Rattle.std.specs.Option.{option_map_or}
use Rattle.std.specs.Prelude.{T, nat_lt}
use Rattle.std.specs.Ordering.{is_lt}
use Rattle.std.specs.List.{list_any, filter}
use Rattle.std.proofs.lemmas.Bool.{lt-ltb}
use Rattle.std.proofs.lemmas.List.Sums.{sum_by-cons}
use Rattle.std.specs.FinMap as fin
use Rattle.std.specs.FinMap.Entries.{find, is_sorted, below_all}
use Rattle.osm_base.specs.Rank.{rank_cmp, is_key}
use Rattle.osm_base.specs.Content.{refs_of, refers}
use Rattle.osm_base.specs.declared.key.Key.{Key}
use Rattle.osm_base.specs.declared.content.Content.{Content}
use Rattle.osm_table.specs.declared.entry.Entry.{Entry}
use Rattle.osm_table.specs.Table.{TableValue, entry_of}
use Rattle.osm_table.specs.Table.{mine_of, uses, users, users_among}
use Rattle.ref_index.specs.declared.pair.Pair.{Pair}
use Rattle.osm_base.specs.RisingKeys.{marked, rises, is_in}
use Rattle.dataset.specs.Exact.{refs_at, times_key, IsExact}
use Rattle.osm_base.proofs.RisingKeys.{one_key, same_keys}
use Rattle.osm_base.proofs.Tests.{both_T, first_T, second_T}
use Rattle.dataset.proofs.Looked.{below_none}

-- entries that pass a test, as keys
below_case : (k : Key) (b : Bool) (e : Key × Entry) (es : List (Key × Entry)) (p : Key × Entry → Bool) → T (is_lt (rank_cmp k e.0)) → T (below_all rank_cmp k (marked (map (λ e. e.0) (filter p es)))) → T (below_all rank_cmp k (marked (map (λ e. e.0) (cond b (e ∷ filter p es) (filter p es)))))
below_case k true e es p l h = both_T _ _ l h
below_case k false e es p l h = h

below_users : (k : Key) (p : Key × Entry → Bool) (es : List (Key × Entry)) → T (below_all rank_cmp k es) → T (below_all rank_cmp k (marked (map (λ e. e.0) (filter p es))))
below_users k p [] h = tt
below_users k p (e ∷ es) h = below_case k (p e) e es p (first_T (is_lt (rank_cmp k e.0)) _ h) (below_users k p es (second_T (is_lt (rank_cmp k e.0)) _ h))

rises_case : (b : Bool) (e : Key × Entry) (es : List (Key × Entry)) (p : Key × Entry → Bool) → T (below_all rank_cmp e.0 (marked (map (λ e. e.0) (filter p es)))) → T (rises (map (λ e. e.0) (filter p es))) → T (rises (map (λ e. e.0) (cond b (e ∷ filter p es) (filter p es))))
rises_case true e es p l h = both_T _ _ l h
rises_case false e es p l h = h

pub rises_users : (p : Key × Entry → Bool) (es : List (Key × Entry)) → T (is_sorted rank_cmp es) → T (rises (map (λ e. e.0) (filter p es)))
rises_users p [] h = tt
rises_users p (e ∷ es) h = rises_case (p e) e es p (below_users e.0 p es (first_T (below_all rank_cmp e.0 es) _ h)) (rises_users p es (second_T (below_all rank_cmp e.0 es) _ h))

in_cond : (u : Key) (b : Bool) (e : Key × Entry) (es : List (Key × Entry)) → is_in u (map (λ e. e.0) (cond b (e ∷ es) es)) ≡ cond b (is_key u e.0 || is_in u (map (λ e. e.0) es)) (is_in u (map (λ e. e.0) es))
in_cond u true e es = refl
in_cond u false e es = refl

user_step : (a b c : Bool) (e : Key × Entry) (o : Option Entry) (p : Entry → Bool) → p e.1 ≡ b → (a ≡ true → o ≡ None) → c ≡ option_map_or p o false → cond b (a || c) c ≡ option_map_or p (cond a (Some e.1) o) false
user_step true true c e o p is none h = sym is
user_step true false c e o p is none h = h ∙ ap (λ (x : Option Entry). option_map_or p x false) (none refl) ∙ sym is
user_step false true c e o p is none h = h
user_step false false c e o p is none h = h

-- a key is among the users where its entry uses
in_users : (k u : Key) (es : List (Key × Entry)) → T (is_sorted rank_cmp es) → is_in u (users_among es k) ≡ option_map_or (λ e. uses e k) (find rank_cmp u es) false
in_users k u [] h = refl
in_users k u (e ∷ es) h =
    in_cond u (uses e.1 k) e (filter (λ e. uses e.1 k) es)
    ∙ user_step (is_key u e.0) (uses e.1 k) _ e (find rank_cmp u es) (λ e. uses e k) refl
    (λ t. ap (λ (j : Key). find rank_cmp j es) (one_key u e.0 t) ∙ below_none e.0 es (first_T (below_all rank_cmp e.0 es) _ h))
    (in_users k u es (second_T (below_all rank_cmp e.0 es) _ h))

-- a key is among others where it stands there at least once
any_step : (b c : Bool) (n : ℕ) → c ≡ nat_lt 0 n → (b || c) ≡ nat_lt 0 (cond b 1 0 + n)
any_step true c n e = sym (lt-ltb 0 (1 + n) (omega arith))
any_step false c n e = let z : 0 + n ≡ n = omega arith in e ∙ ap (nat_lt 0) (sym z)

pub any_count : (k : Key) (ks : List Key) → list_any (is_key k) ks ≡ nat_lt 0 (times_key k ks)
any_count k [] = refl
any_count k (j ∷ ks) = any_step (is_key k j) _ (times_key k ks) (any_count k ks) ∙ ap (nat_lt 0) (sym (sum_by-cons (λ (j : Key). cond (is_key k j) 1 0) j ks))

mine_uses : (k : Key) (m : Option Content) → option_map_or (λ c. refers c k) m false ≡ nat_lt 0 (times_key k (option_map_or refs_of m []))
mine_uses k None = refl
mine_uses k (Some c) = any_count k (refs_of c)

entry_uses : (k : Key) (o : Option Entry) → option_map_or (λ e. uses e k) o false ≡ nat_lt 0 (times_key k (refs_at o))
entry_uses k None = refl
entry_uses k (Some e) = mine_uses k (mine_of e)

-- a key is among the users where its entry uses
pub user_uses : (t : TableValue) (k u : Key) → is_in u (users t k) ≡ option_map_or (λ e. uses e k) (entry_of t u) false
user_uses t k u =
    in_users k u (fin.entries t.entries) (fin.entries_sorted t.entries)
    ∙ ap (λ (o : Option Entry). option_map_or (λ e. uses e k) o false) (sym (fin.get-entries t.entries u))

pub user_in : (t : TableValue) (k u : Key) → is_in u (users t k) ≡ nat_lt 0 (times_key k (refs_at (entry_of t u)))
user_in t k u = user_uses t k u ∙ entry_uses k (entry_of t u)

-- what an exact index lends
pub lent : (t : TableValue) (number : Pair → ℕ) (k : Key) (ks : List Key) → IsExact t number → T (rises ks) → ((u : Key) → is_in u ks ≡ nat_lt 0 (number (record { of = k; user = u }))) → ks ≡ users t k
lent t number k ks exact h members =
    same_keys ks (users t k) h (rises_users (λ e. uses e.1 k) (fin.entries t.entries) (fin.entries_sorted t.entries))
    (λ u. members u ∙ ap (nat_lt 0) (exact k u) ∙ sym (user_in t k u))
