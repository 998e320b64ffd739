-- A bag of pairs, as how often each pair is there.
use Rattle.std.specs.Prelude.{◌&&◌, ℕ, Bool, List}
use Rattle.std.specs.List.{count_by}
use Rattle.std.specs.Option.{unwrap_or}
use Rattle.std.specs.Ordering.{on, then_cmp, eq_by_cmp}
use Rattle.std.specs.declared.cmp.Ordering.{Ordering}
use Rattle.std.specs.FinMap as map
use Rattle.osm_base.specs.Rank.{rank_cmp}
use Rattle.osm_base.specs.KeyEq.{eq}
use Rattle.ref_index.specs.declared.pair.Pair.{Pair}

-- pairs by what is referred to, and then by the user
abbrev pub pair_cmp : Pair → Pair → Ordering
pair_cmp = then_cmp (on (λ p. p.of) rank_cmp) (on (λ p. p.user) rank_cmp)

abbrev pub is_pair : Pair → Pair → Bool
is_pair = eq_by_cmp pair_cmp

-- what the derived `==` answers at pairs
abbrev pub pair_eq : Pair → Pair → Bool
pair_eq p q = eq p.of q.of && eq p.user q.user

abbrev pub Bag : Type 0
Bag = map.FinMap pair_cmp ℕ

-- how often the pair is in the bag
abbrev pub count : Bag → Pair → ℕ
count bag p = unwrap_or (map.get bag p) 0

-- how often it is in the list
abbrev pub times : Pair → List Pair → ℕ
times p ps = count_by (is_pair p) ps
