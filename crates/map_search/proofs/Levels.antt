-- Each word of a query makes it at most one level deeper.
use Rattle.std.proofs.Common.{◌≡◌, ℕ, suc, ◌+◌, ◌≤◌, max, Bool, true, false, nat_lt, nat_le, if◌then◌else◌, List, [], ◌∷◌, length, Option, Some, None, Result, Ok, Err, IfOk, refl, subst, arith, bytes_eq, codes}
use Rattle.std.proofs.lemmas.Bool.Decides.{nat_tests}
use Rattle.std.specs.Option.{option_and_then, option_map}
use Rattle.osm_base.specs.Tags.{Pair}
use Rattle.opl_line.specs.Field.{tags_text}
use Rattle.opl_line.specs.Spelling.{ok_of}
use Rattle.map_search.specs.declared.fault.QueryFault.{QueryFault}
use Rattle.map_search.specs.declared.pending.Opening.TheVariants as opening
use Rattle.map_search.specs.declared.pending.Part.TheVariants as part
use Rattle.map_search.specs.declared.pending.Pending.{Pending}
use Rattle.map_search.specs.declared.pending.Pending.TheVariants as pending
use Rattle.map_search.specs.declared.pending.Word.{Word}
use Rattle.map_search.specs.declared.pending.Word.TheVariants as word
use Rattle.map_search.specs.Answers.{Gives}
use Rattle.map_search.specs.Query.{QueryValue, depth}
use Rattle.map_search.specs.Reading.{State, wanting, takes, completed, taken, joined, closed, with_query, opened, followed, with_word, whole, ended, read_on, query_of_words, nesting}
use Rattle.map_search.specs.Words.{word_of, joining_word, kind_word, state_word, tag_word, one_tag, behind_t}

-- how many levels what waits can add
abbrev adds : Pending → ℕ
adds (pending.Opened o) = 1
adds (pending.And left) = suc (depth left)
adds (pending.Or left) = suc (depth left)

abbrev all_add : List Pending → ℕ
all_add [] = 0
all_add (p ∷ waiting) = adds p + all_add waiting

-- the levels of what has been read
abbrev levels : Option QueryValue → List Pending → ℕ
levels None waiting = all_add waiting
levels (Some q) waiting = depth q + all_add waiting

max_le : (a b : ℕ) → max a b ≤ a + b
max_le a b = omega arith

completed_levels : (p : Pending) (q : QueryValue) → depth (completed p q) ≤ adds p + depth q
completed_levels (pending.Opened opening.Not) q = omega arith
completed_levels (pending.Opened opening.Child) q = omega arith
completed_levels (pending.Opened opening.Parent) q = omega arith
completed_levels (pending.Opened opening.Bracket) q = omega arith
completed_levels (pending.And left) q = omega (arith, max_le (depth left) (depth q))
completed_levels (pending.Or left) q = omega (arith, max_le (depth left) (depth q))

abbrev AtMost : ℕ → State → Type 0
AtMost n s = levels s.query s.waiting ≤ n

at_most_if : (n : ℕ) (b : Bool) (s u : State) → AtMost n s → AtMost n u → AtMost n (if b then s else u)
at_most_if n true s u h g = h
at_most_if n false s u h g = g

le_trans : (a b c : ℕ) → a ≤ b → b ≤ c → a ≤ c
le_trans a b c h g = omega (arith, h, g)

taken_levels : (q : QueryValue) (waiting : List Pending) (n : ℕ) → depth q + all_add waiting ≤ n → AtMost n (taken q waiting)
taken_levels q [] n h = h
taken_levels q (p ∷ waiting) n h =
    at_most_if n (takes part.Factor p) _ _ (taken_levels (completed p q) waiting n (omega (arith, h, completed_levels p q))) h

joined_levels : (q : QueryValue) (waiting : List Pending) (n : ℕ) → depth q + all_add waiting ≤ n → AtMost n (joined q waiting)
joined_levels q [] n h = h
joined_levels q (p ∷ waiting) n h = at_most_if n (takes part.Term p) _ _ (omega (arith, h, completed_levels p q)) h

-- at most so many levels, where there is a state, or a query
abbrev Within : ℕ → Option State → Type 0
Within n None = Unit {0}
Within n (Some s) = AtMost n s

abbrev Shallow : ℕ → Option QueryValue → Type 0
Shallow n None = Unit {0}
Shallow n (Some q) = depth q ≤ n

within_if : (n : ℕ) (b : Bool) (o : Option State) → Within n o → Within n (if b then o else None)
within_if n true o h = h
within_if n false o h = tt

closed_levels : (q : QueryValue) (waiting : List Pending) (n : ℕ) → depth q + all_add waiting ≤ n → Within n (closed q waiting)
closed_levels q [] n h = tt
closed_levels q (p ∷ waiting) n h = within_if n (takes part.Whole p) _ (taken_levels (completed p q) waiting n (omega (arith, h, completed_levels p q)))

with_query_levels : (n m : ℕ) (s : State) (go : QueryValue → List Pending → Option State) → AtMost n s → ((q : QueryValue) (waiting : List Pending) → depth q + all_add waiting ≤ n → Within m (go q waiting)) → Within m (with_query s go)
with_query_levels n m s go h f = there s.query h
  where
    there : (o : Option QueryValue) → levels o s.waiting ≤ n → Within m (option_and_then (λ q. go q s.waiting) o)
    there None g = tt
    there (Some q) g = f q s.waiting g

-- a word that asks something has one level
abbrev IsFlat : Word → Type 0
IsFlat (word.Asks q) = depth q ≤ 1
IsFlat w = Unit {0}

opened_levels : (w : Word) (waiting : List Pending) → IsFlat w → Within (1 + all_add waiting) (opened w waiting)
opened_levels (word.Opens o) waiting flat = within_if _ (nat_lt (nesting waiting) 64) _ (omega arith)
opened_levels (word.Asks q) waiting flat = taken_levels q waiting _ (omega (arith, flat))
opened_levels word.And waiting flat = tt
opened_levels word.Or waiting flat = tt
opened_levels word.Closes waiting flat = tt

followed_levels : (q : QueryValue) (w : Word) (waiting : List Pending) → Within (1 + (depth q + all_add waiting)) (followed q w waiting)
followed_levels q word.And waiting = omega arith
followed_levels q word.Or waiting =
    with_query_levels (depth q + all_add waiting) (1 + (depth q + all_add waiting)) (joined q waiting) (λ term rest. Some (wanting (pending.Or term ∷ rest))) (joined_levels q waiting (depth q + all_add waiting) (omega arith)) (λ term rest h. omega (arith, h))
followed_levels q word.Closes waiting =
    with_query_levels (depth q + all_add waiting) (1 + (depth q + all_add waiting)) (joined q waiting) closed (joined_levels q waiting (depth q + all_add waiting) (omega arith)) (λ r rest h. closed_levels r rest (1 + (depth q + all_add waiting)) (omega (arith, h)))
followed_levels q (word.Opens o) waiting = tt
followed_levels q (word.Asks r) waiting = tt

with_word_levels : (q : Option QueryValue) (w : Word) (waiting : List Pending) → IsFlat w → Within (1 + levels q waiting) (with_word q w waiting)
with_word_levels None w waiting flat = opened_levels w waiting flat
with_word_levels (Some q) w waiting flat = followed_levels q w waiting

-- what a word asks has one level
abbrev FlatWord : Option Word → Type 0
FlatWord None = Unit {0}
FlatWord (Some w) = IsFlat w

flat_if : (b : Bool) (o p : Option Word) → FlatWord o → FlatWord p → FlatWord (if b then o else p)
flat_if true o p h g = h
flat_if false o p h g = g

shallow_if : (b : Bool) (o p : Option QueryValue) → Shallow 1 o → Shallow 1 p → Shallow 1 (if b then o else p)
shallow_if true o p h g = h
shallow_if false o p h g = g

one : 1 ≤ 1
one = omega arith

one_tag_flat : (tags : List Pair) → Shallow 1 (one_tag tags)
one_tag_flat [] = tt
one_tag_flat (tag ∷ []) = one
one_tag_flat (tag ∷ other ∷ tags) = tt

and_then_flat : {A : Type 0} (f : A → Option QueryValue) (o : Option A) → ((x : A) → Shallow 1 (f x)) → Shallow 1 (option_and_then f o)
and_then_flat f None h = tt
and_then_flat f (Some x) h = h x

tag_flat : (text : List ℕ) → Shallow 1 (tag_word text)
unfolding tag_word
tag_flat text = and_then_flat _ (behind_t text) (λ t. and_then_flat one_tag (ok_of (tags_text t)) one_tag_flat)

state_flat : (text : List ℕ) → Shallow 1 (state_word text)
unfolding state_word
state_flat text =
    shallow_if (bytes_eq text (codes "new")) _ _ one
    (shallow_if (bytes_eq text (codes "changed")) _ _ one
    (shallow_if (bytes_eq text (codes "deleted")) _ _ one
    (shallow_if (bytes_eq text (codes "incomplete")) _ _ one
    (shallow_if (bytes_eq text (codes "conflict")) _ _ one (tag_flat text)))))

kind_flat : (text : List ℕ) → Shallow 1 (kind_word text)
unfolding kind_word
kind_flat text =
    shallow_if (bytes_eq text (codes "node")) _ _ one
    (shallow_if (bytes_eq text (codes "way")) _ _ one
    (shallow_if (bytes_eq text (codes "relation")) _ _ one (state_flat text)))

asks_flat : (o : Option QueryValue) → Shallow 1 o → FlatWord (option_map word.Asks o)
asks_flat None h = tt
asks_flat (Some q) h = h

joining_flat : (text : List ℕ) → FlatWord (joining_word text)
unfolding joining_word
joining_flat text =
    flat_if (bytes_eq text (codes "and")) _ _ tt
    (flat_if (bytes_eq text (codes "or")) _ _ tt
    (flat_if (bytes_eq text (codes ")")) _ _ tt (asks_flat (kind_word text) (kind_flat text))))

word_flat : (text : List ℕ) → FlatWord (word_of text)
unfolding word_of
word_flat text =
    flat_if (bytes_eq text (codes "not")) _ _ tt
    (flat_if (bytes_eq text (codes "child")) _ _ tt
    (flat_if (bytes_eq text (codes "parent")) _ _ tt
    (flat_if (bytes_eq text (codes "(")) _ _ tt (joining_flat text))))

whole_levels : (n : ℕ) (q : QueryValue) (waiting : List Pending) → depth q + all_add waiting ≤ n → Shallow n (whole q waiting)
whole_levels n q [] h = omega (arith, h)
whole_levels n q (p ∷ waiting) h = tt

ended_state : (n : ℕ) (s : State) → AtMost n s → Shallow n (option_and_then (λ term. whole term s.waiting) s.query)
ended_state n s h = there s.query h
  where
    there : (o : Option QueryValue) → levels o s.waiting ≤ n → Shallow n (option_and_then (λ term. whole term s.waiting) o)
    there None g = tt
    there (Some q) g = whole_levels n q s.waiting g

ended_levels : (n : ℕ) (q : Option QueryValue) (waiting : List Pending) → levels q waiting ≤ n → Shallow n (ended q waiting)
ended_levels n None waiting h = tt
ended_levels n (Some q) waiting h = ended_state n (joined q waiting) (joined_levels q waiting n h)

step_state : (n : ℕ) (texts : List (List ℕ)) (o : Option State) → ((s : State) → AtMost n s → Shallow (n + length texts) (read_on texts s.query s.waiting)) → Within n o
    → Shallow (n + length texts) (option_and_then (λ s. read_on texts s.query s.waiting) o)
step_state n texts None f h = tt
step_state n texts (Some s) f h = f s h

step_word : (n : ℕ) (q : Option QueryValue) (waiting : List Pending) (texts : List (List ℕ)) (o : Option Word)
    → levels q waiting ≤ n → FlatWord o → ((s : State) → AtMost (1 + n) s → Shallow (1 + n + length texts) (read_on texts s.query s.waiting))
    → Shallow (1 + n + length texts) (option_and_then (λ w. option_and_then (λ s. read_on texts s.query s.waiting) (with_word q w waiting)) o)
step_word n q waiting texts None h flat f = tt
step_word n q waiting texts (Some w) h flat f = step_state (1 + n) texts (with_word q w waiting) f (wider (with_word q w waiting) (with_word_levels q w waiting flat))
  where
    wider : (o : Option State) → Within (1 + levels q waiting) o → Within (1 + n) o
    wider None g = tt
    wider (Some s) g = omega (arith, g, h)

as_long : (n m : ℕ) (o : Option QueryValue) → n ≡ m → Shallow n o → Shallow m o
as_long n m o e h = subst (λ k. Shallow k o) e h

-- what is read of more words has at most as many levels more
read_levels : (texts : List (List ℕ)) (n : ℕ) (q : Option QueryValue) (waiting : List Pending) → levels q waiting ≤ n → Shallow (n + length texts) (read_on texts q waiting)
read_levels [] n q waiting h = ended_levels (n + 0) q waiting (omega (arith, h))
read_levels (text ∷ texts) n q waiting h =
    as_long (1 + n + length texts) (n + suc (length texts)) _ (omega arith)
    (step_word n q waiting texts (word_of text) h (word_flat text) (λ s g. read_levels texts (1 + n) s.query s.waiting g))

few_words : (texts : List (List ℕ)) (b : Bool) → nat_le (length texts) 1000 ≡ b → Shallow 1100 (if b then read_on texts None [] else None)
few_words texts true e = deeper (read_on texts None []) (read_levels texts 0 None [] (omega arith))
  where
    few : length texts ≤ 1000
    few = grind (arith, nat_tests, e)

    deeper : (o : Option QueryValue) → Shallow (0 + length texts) o → Shallow 1100 o
    deeper None h = tt
    deeper (Some q) h = omega (arith, h, few)
few_words texts false e = tt

query_levels : (texts : List (List ℕ)) → Shallow 1100 (query_of_words texts)
query_levels texts = few_words texts (nat_le (length texts) 1000) refl

-- a query that was read is shallow
pub gives_shallow : (r : Result QueryValue QueryFault) (texts : List (List ℕ)) → Gives r (query_of_words texts) → IfOk r (λ q. depth q ≤ 1100)
gives_shallow (Ok q) texts h = subst (Shallow 1100) h (query_levels texts)
gives_shallow (Err e) texts h = tt
