-- The definitions at work: a relation that names a node twice, and a way that names it once.
use Rattle.std.proofs.Common.{◌≡◌, ℕ, arith, pos, List, [], ◌∷◌, refl, ap, Option}
use Rattle.std.specs.Option.{unwrap_or}
use Rattle.std.specs.FinMap as fin
use Rattle.std.specs.declared.cmp.Ordering.TheVariants.{Less}
use Rattle.osm_base.specs.declared.key.Key.{Key}
use Rattle.osm_base.specs.declared.key.Kind.TheVariants.{Node, Way, Relation}
use Rattle.ref_index.specs.declared.pair.Pair.{Pair}
use Rattle.ref_index.specs.Bag.{Bag, count, times, pair_cmp}
use Rattle.ref_index.specs.Users.{Lists}
use Rattle.ref_index.specs.Repeats.{Repeats, AreRepeats, times_there, bag_of}

abbrev node : Key
node = record { kind = Node; id = pos 1 }

abbrev by_way : Pair
by_way = record { of = node; user = record { kind = Way; id = pos 7 } }

abbrev by_relation : Pair
by_relation = record { of = node; user = record { kind = Relation; id = pos 3 } }

-- by what is referred to, then by the user
ordered : pair_cmp by_way by_relation ≡ Less
ordered = refl

named_twice : times by_relation (by_relation ∷ by_way ∷ by_relation ∷ []) ≡ 2
named_twice = refl

abbrev entries : List (Pair × ℕ)
entries = (by_way, 1) ∷ (by_relation, 2) ∷ []

abbrev bag : Bag
bag = fin.from_sorted entries

counted_twice : count bag by_relation ≡ 2
counted_twice = ap (λ (o : Option ℕ). unwrap_or o 0) (fin.get-from_sorted pair_cmp entries by_relation tt)

-- a pair that isn't there counts 0
counted_not : count bag (record { of = node; user = node }) ≡ 0
counted_not = ap (λ (o : Option ℕ). unwrap_or o 0) (fin.get-from_sorted pair_cmp entries (record { of = node; user = node }) tt)

-- the lists and the numbers that make the bag
abbrev lists : Lists
lists = (node, by_way.user ∷ by_relation.user ∷ []) ∷ []

abbrev repeats : Repeats
repeats = (by_relation, 2) ∷ []

listed_once : times_there repeats lists by_way ≡ 1
listed_once = refl

listed_twice : times_there repeats lists by_relation ≡ 2
listed_twice = refl

listed_not : times_there repeats lists (record { of = by_way.user; user = node }) ≡ 0
listed_not = refl

-- a pair that is there once has no number
no_single : AreRepeats ((by_way, 1) ∷ []) lists → ⊥
no_single a = omega (arith, (a by_way).0)

same_bag : bag_of repeats lists ≡ fin.from_entries entries
same_bag = refl
