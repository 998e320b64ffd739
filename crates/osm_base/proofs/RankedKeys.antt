-- Keys that are sorted and rid of repeats.
use Rattle.std.proofs.Common.{◌≡◌, ◌||◌, Bool, true, false, cond, List, [], ◌∷◌, refl, sym, ap, ◌∙◌, subst}
use Rattle.std.specs.Prelude.{T}
use Rattle.std.specs.List.{dedup, dedup_from}
use Rattle.std.specs.List.Retain.{IsFiltered, DiffersFromLast}
use Rattle.std.specs.List.Sorted.{IsSorted, IsStrictlySortedBy, IsPermutation}
use Rattle.std.proofs.lemmas.List.Filters.{dedup_is}
use Rattle.std.proofs.lemmas.List.Kept.{IsStrictlySortedBy-dedup}
use Rattle.std.proofs.lemmas.List.Sorted.{list_any-IsPermutation}
use Rattle.osm_base.specs.declared.key.Key.{Key}
use Rattle.osm_base.specs.Rank.{rank_cmp, is_key}
use Rattle.osm_base.specs.RankLaws.{rank_total, rank_ties}
use Rattle.osm_base.specs.KeyEq.{eq}
use Rattle.osm_base.specs.RisingKeys.{rises, is_in}
use Rattle.osm_base.proofs.RisingKeys.{one_key, same_keys, rises_with, in_with}
use Rattle.osm_base.proofs.ByRank.{rises_strictly}
use Rattle.osm_base.specs.Order.{ranked}

twice_said : (a b : Bool) → (a || b) ≡ (a || (a || b))
twice_said true b = refl
twice_said false b = refl

repeat_step : (q k x : Key) (xs : List Key) (b : Bool) → eq x k ≡ b → is_in q (dedup_from eq k xs) ≡ (is_key q k || is_in q xs) → is_in q (dedup_from eq x xs) ≡ (is_key q x || is_in q xs)
    → is_in q (cond b (dedup_from eq k xs) (k ∷ dedup_from eq x xs)) ≡ (is_key q k || (is_key q x || is_in q xs))
repeat_step q k x xs true e same other =
    let one : x ≡ k = one_key x k (sym (rank_ties x k) ∙ e) in
    same ∙ twice_said (is_key q k) (is_in q xs) ∙ ap (λ (j : Key). is_key q k || (is_key q j || is_in q xs)) (sym one)
repeat_step q k x xs false e same other = ap (λ (b : Bool). is_key q k || b) other

named_from : (q k : Key) (xs : List Key) → is_in q (dedup_from eq k xs) ≡ (is_key q k || is_in q xs)
named_from q k [] = refl
named_from q k (x ∷ xs) = repeat_step q k x xs (eq x k) refl (named_from q k xs) (named_from q x xs)

-- keys without repeats are the same keys
pub named_dedup : (q : Key) (ks : List Key) → is_in q (dedup eq ks) ≡ is_in q ks
named_dedup q [] = refl
named_dedup q (k ∷ ks) = named_from q k ks

-- After a sort and a `dedup` the keys rise by rank,
pub rises_deduped : (sorted ks : List Key) → IsSorted rank_cmp sorted → IsFiltered (DiffersFromLast eq) [] sorted ks → T (rises ks)
rises_deduped sorted ks order distinct =
    rises_strictly ks (subst (IsStrictlySortedBy rank_cmp) (sym (dedup_is eq sorted ks distinct)) (IsStrictlySortedBy-dedup rank_total {E = eq} rank_ties sorted order))

-- and are the same keys.
pub named_deduped : (raw sorted ks : List Key) → IsPermutation raw sorted → IsFiltered (DiffersFromLast eq) [] sorted ks → (q : Key) → is_in q ks ≡ is_in q raw
named_deduped raw sorted ks moves distinct q =
    ap (λ (js : List Key). is_in q js) (dedup_is eq sorted ks distinct) ∙ named_dedup q sorted ∙ sym (list_any-IsPermutation (is_key q) raw sorted moves)

-- `ranked` rises, and has the same keys
pub rises_ranked : (ks : List Key) → T (rises (ranked ks))
rises_ranked [] = tt
rises_ranked (k ∷ ks) = rises_with k (ranked ks) (rises_ranked ks)

pub named_ranked : (ks : List Key) (q : Key) → is_in q (ranked ks) ≡ is_in q ks
named_ranked [] q = refl
named_ranked (k ∷ ks) q = in_with q k (ranked ks) ∙ ap (λ b. is_key q k || b) (named_ranked ks q)

-- A sort and a `dedup` give `ranked`.
pub ranked_is : (raw sorted ks : List Key) → IsPermutation raw sorted → IsSorted rank_cmp sorted → IsFiltered (DiffersFromLast eq) [] sorted ks → ks ≡ ranked raw
ranked_is raw sorted ks moves order distinct =
    same_keys ks (ranked raw) (rises_deduped sorted ks order distinct) (rises_ranked raw) (λ q. named_deduped raw sorted ks moves distinct q ∙ sym (named_ranked raw q))
