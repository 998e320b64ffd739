-- The bag of the listed pairs. Most are there once, and only the others have a number.
use Rattle.std.specs.Prelude.{◌≡◌, ℕ, ◌≤◌, true, cond, if◌then◌else◌, Option, IfSome, List, map, flat_map}
use Rattle.std.specs.Map.{lookup, keys_of}
use Rattle.std.specs.Option.{unwrap_or}
use Rattle.std.specs.FinMap as fin
use Rattle.ref_index.specs.declared.pair.Pair.{Pair}
use Rattle.ref_index.specs.Bag.{Bag, pair_eq}
use Rattle.ref_index.specs.Users.{Lists, users_of, is_listed}

-- the entries of a hashed map from pairs to numbers
abbrev pub Repeats : Type 0
Repeats = List (Pair × ℕ)

-- how often a listed pair is there: once, where it has no number
abbrev pub number_of : Repeats → Pair → ℕ
number_of repeats p = unwrap_or (lookup (pair_eq p) repeats) 1

-- how often any pair is there
abbrev pub times_there : Repeats → Lists → Pair → ℕ
times_there repeats lists p = if is_listed lists p then number_of repeats p else 0

-- a pair, with how often it is there
abbrev pub numbered : Repeats → Pair → Pair × ℕ
numbered repeats p = (p, number_of repeats p)

-- the pairs of each user of each key that has a list, each as often as it is there
abbrev pub bag_of : Repeats → Lists → Bag
bag_of repeats lists = fin.from_entries (flat_map (λ k. map (λ u. numbered repeats (record { of = k; user = u })) (users_of lists k)) (keys_of lists))

-- a pair with a number is listed, and is there more than once
abbrev pub AreRepeats : Repeats → Lists → Type 0
AreRepeats repeats lists = (p : Pair) → IfSome (lookup (pair_eq p) repeats) (λ n. (2 ≤ n) × (is_listed lists p ≡ true))

-- one pair has another number or none, and the rest stays
abbrev pub SetsNumber : Repeats → Repeats → Pair → Option ℕ → Type 0
SetsNumber old new p n = (q : Pair) → lookup (pair_eq q) new ≡ cond (pair_eq p q) n (lookup (pair_eq q) old)
