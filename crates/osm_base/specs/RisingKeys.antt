-- Lists of keys that rise by rank.
use Rattle.std.specs.Prelude.{ℕ, Bool, not, List, [], ◌∷◌, map}
use Rattle.std.specs.List.{list_any, filter, prefix_len}
use Rattle.std.specs.Ordering.{is_lt}
use Rattle.std.specs.FinMap.Entries.{by_order, is_sorted}
use Rattle.osm_base.specs.declared.key.Key.{Key}
use Rattle.osm_base.specs.Rank.{rank_cmp, is_key}

-- keys as the entries of a map to 0
abbrev pub marked : List Key → List (Key × ℕ)
marked ks = map (λ k. (k, 0)) ks

-- whether they strictly rise by rank
abbrev pub rises : List Key → Bool
rises ks = is_sorted rank_cmp (marked ks)

-- whether a key is among them
abbrev pub is_in : Key → List Key → Bool
is_in k ks = list_any (is_key k) ks

-- rising keys with one key more, at its place
abbrev pub with_key : Key → List Key → List Key
with_key k [] = k ∷ []
with_key k (j ∷ js) = by_order (rank_cmp k j) (k ∷ j ∷ js) (j ∷ js) (j ∷ with_key k js)

-- keys without one
abbrev pub without_key : Key → List Key → List Key
without_key k ks = filter (λ j. not (is_key k j)) ks

-- where a key stands among rising ones, or would
abbrev pub place_in : Key → List Key → ℕ
place_in k ks = prefix_len (λ j. is_lt (rank_cmp j k)) ks
