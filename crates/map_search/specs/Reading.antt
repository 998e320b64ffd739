-- The query that words are, as it is read: for the proof of the code. What words mean is told by `Grammar`.
--
-- The words are read from the left. What waits for a factor is kept, the innermost first: openings (`not`, `child`,
-- `parent`, a bracket), and what stands left of an `and` or an `or`.
--
-- For example behind `not ( node and` waits `And node`, then the bracket, then `not`. With the words `way )` more the query
-- is `Not (And node way)`.
use Rattle.std.specs.Prelude.{ℕ, suc, nat_lt, nat_le, Bool, true, false, if◌then◌else◌, List, [], ◌∷◌, length, Option, Some, None}
use Rattle.std.specs.Option.{option_and_then}
use Rattle.map_search.specs.declared.pending.Opening.TheVariants as opening
use Rattle.map_search.specs.declared.pending.Part.{Part}
use Rattle.map_search.specs.declared.pending.Part.TheVariants as part
use Rattle.map_search.specs.declared.pending.Pending.{Pending}
use Rattle.map_search.specs.declared.pending.Pending.TheVariants as pending
use Rattle.map_search.specs.declared.pending.Word.{Word}
use Rattle.map_search.specs.declared.pending.Word.TheVariants as word
use Rattle.map_search.specs.Query.{QueryValue, Child, Parent, Not, And, Or}
use Rattle.map_search.specs.Words.{word_of}

-- what has been read: the query behind the last word, or none where a factor is wanted; and what waits
pub record State : Type 0 where
  pub query : Option QueryValue
  pub waiting : List Pending

abbrev pub wanting : List Pending → State
wanting waiting = record { query = None; waiting = waiting }

abbrev pub having : QueryValue → List Pending → State
having q waiting = record { query = Some q; waiting = waiting }

abbrev pub is_opening : Pending → Bool
is_opening (pending.Opened o) = true
is_opening (pending.And left) = false
is_opening (pending.Or left) = false

-- how many openings stand round what comes next
abbrev pub nesting : List Pending → ℕ
nesting [] = 0
nesting (p ∷ waiting) = if is_opening p then suc (nesting waiting) else nesting waiting

-- what takes a part of a query: `not`, `child`, `parent` and `and` take a factor, `or` a term, a bracket a whole query
abbrev pub takes : Part → Pending → Bool
takes part.Whole (pending.Opened opening.Bracket) = true
takes part.Factor (pending.Opened opening.Bracket) = false
takes part.Factor (pending.Opened o) = true
takes part.Factor (pending.And left) = true
takes part.Term (pending.Or left) = true
takes part p = false

-- what comes of what waits and the part that it takes
abbrev pub completed : Pending → QueryValue → QueryValue
completed (pending.Opened opening.Not) q = Not q
completed (pending.Opened opening.Child) q = Child q
completed (pending.Opened opening.Parent) q = Parent q
completed (pending.Opened opening.Bracket) q = q
completed (pending.And left) q = And left q
completed (pending.Or left) q = Or left q

-- A factor is taken by all that waits for it, up to a bracket or an `or`.
abbrev pub taken : QueryValue → List Pending → State
taken q [] = having q []
taken q (p ∷ waiting) = if takes part.Factor p then taken (completed p q) waiting else having q (p ∷ waiting)

-- A term is taken by the `or` that waits for it.
abbrev pub joined : QueryValue → List Pending → State
joined q [] = having q []
joined q (p ∷ waiting) = if takes part.Term p then having (completed p q) waiting else having q (p ∷ waiting)

-- the query and what waits, where there is a query
abbrev pub with_query : State → (QueryValue → List Pending → Option State) → Option State
with_query s go = option_and_then (λ q. go q s.waiting) s.query

-- A query is taken by the bracket that waits for it.
abbrev pub closed : QueryValue → List Pending → Option State
closed q [] = None
closed q (p ∷ waiting) = if takes part.Whole p then Some (taken (completed p q) waiting) else None

-- a word where a factor is wanted
abbrev pub opened : Word → List Pending → Option State
opened (word.Opens o) waiting = if nat_lt (nesting waiting) 64 then Some (wanting (pending.Opened o ∷ waiting)) else None
opened (word.Asks q) waiting = Some (taken q waiting)
opened w waiting = None

-- a word behind a factor
abbrev pub followed : QueryValue → Word → List Pending → Option State
followed q word.And waiting = Some (wanting (pending.And q ∷ waiting))
followed q word.Or waiting = with_query (joined q waiting) (λ term rest. Some (wanting (pending.Or term ∷ rest)))
followed q word.Closes waiting = with_query (joined q waiting) closed
followed q w waiting = None

-- one word more
abbrev pub with_word : Option QueryValue → Word → List Pending → Option State
with_word None w waiting = opened w waiting
with_word (Some q) w waiting = followed q w waiting

-- the query, where nothing waits any more
abbrev pub whole : QueryValue → List Pending → Option QueryValue
whole q [] = Some q
whole q (p ∷ waiting) = None

-- the query at the end of the words
abbrev pub ended : Option QueryValue → List Pending → Option QueryValue
ended None waiting = None
ended (Some q) waiting = option_and_then (λ term. whole term (joined q waiting).waiting) (joined q waiting).query

-- the query that is read with these words more
abbrev pub read_on : List (List ℕ) → Option QueryValue → List Pending → Option QueryValue
read_on [] q waiting = ended q waiting
read_on (text ∷ texts) q waiting = option_and_then (λ w. option_and_then (λ s. read_on texts s.query s.waiting) (with_word q w waiting)) (word_of text)

-- The query that at most 1,000 words are.
abbrev pub query_of_words : List (List ℕ) → Option QueryValue
query_of_words texts = if nat_le (length texts) 1000 then read_on texts None [] else None
