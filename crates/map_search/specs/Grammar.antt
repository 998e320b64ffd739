-- The grammar of queries.
--
-- A query is terms joined by `or`, and a term is factors joined by `and`, both from the left. A factor is `not`, `child` or
-- `parent` and a factor, or a query in brackets, or a word that asks something by itself.
--
-- The law `read_as_spelled` says that `query_of_words` gives the query that words spell, and none where they spell none: so this
-- says all that words mean, and how they are read needn't be known.
use Rattle.std.specs.Prelude.{◌≡◌, ◌≤◌, ℕ, suc, codes, List, [], ◌∷◌, ◌++◌, length, Some}
use Rattle.map_search.specs.declared.pending.Part.{Part}
use Rattle.map_search.specs.declared.pending.Part.TheVariants.{Factor, Term, Whole}
use Rattle.map_search.specs.Query.{QueryValue, Child, Parent, Not, And, Or}
use Rattle.map_search.specs.Words.{kind_word}

-- The words spell a part of a query, where at most so many openings stand round any of them.
pub data Spells : Part → ℕ → List (List ℕ) → QueryValue → Type 0 where
  one_term : (n : ℕ) (us : List (List ℕ)) (a : QueryValue) → Spells Term n us a → Spells Whole n us a
  by_or : (n : ℕ) (us ws : List (List ℕ)) (a b : QueryValue) → Spells Whole n us a → Spells Term n ws b → Spells Whole n (us ++ codes "or" ∷ ws) (Or a b)
  one_factor : (n : ℕ) (us : List (List ℕ)) (a : QueryValue) → Spells Factor n us a → Spells Term n us a
  by_and : (n : ℕ) (us ws : List (List ℕ)) (a b : QueryValue) → Spells Term n us a → Spells Factor n ws b → Spells Term n (us ++ codes "and" ∷ ws) (And a b)
  by_not : (n : ℕ) (ws : List (List ℕ)) (a : QueryValue) → Spells Factor n ws a → Spells Factor (suc n) (codes "not" ∷ ws) (Not a)
  by_child : (n : ℕ) (ws : List (List ℕ)) (a : QueryValue) → Spells Factor n ws a → Spells Factor (suc n) (codes "child" ∷ ws) (Child a)
  by_parent : (n : ℕ) (ws : List (List ℕ)) (a : QueryValue) → Spells Factor n ws a → Spells Factor (suc n) (codes "parent" ∷ ws) (Parent a)
  in_brackets : (n : ℕ) (ws : List (List ℕ)) (a : QueryValue) → Spells Whole n ws a → Spells Factor (suc n) (codes "(" ∷ (ws ++ codes ")" ∷ [])) a
  one_word : (n : ℕ) (w : List ℕ) (a : QueryValue) → kind_word w ≡ Some a → Spells Factor n (w ∷ []) a

-- The words spell a query: at most 1,000 of them, and at most 64 openings round any.
abbrev pub SpellsQuery : List (List ℕ) → QueryValue → Type 0
SpellsQuery words q = (length words ≤ 1000) × Spells Whole 64 words q
