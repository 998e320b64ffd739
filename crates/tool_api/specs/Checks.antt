-- The tests of jobs, and their refusals in order.
--
-- A test is a refusal or none; a job is a `do` of tests and then its outcome. The order of the lines is the order
-- of the refusals. For example over a table with the node n1 alone, `tag n1,n9` is refused as Absent n9, and
-- `tag n9,n1,n1` as NamedTwice n1, since a list is looked at for repeats before its objects are looked up.
use Rattle.std.specs.Prelude.{Bool, true, false, if◌then◌else◌, not, List, [], ◌∷◌, ◌++◌, Option, Some, None, Result, Ok, Err}
use Rattle.std.specs.List.{list_any, find}
use Rattle.std.specs.Option.{option_or, option_map}
use Rattle.osm_base.specs.Rank.{is_key}
use Rattle.osm_base.specs.declared.key.Key.{Key}
use Rattle.osm_base.specs.declared.key.Kind.{Kind}
use Rattle.osm_base.specs.declared.key.Kind.TheVariants.{Node, Way, Relation}
use Rattle.osm_table.specs.declared.entry.Conflict.{Conflict}
use Rattle.osm_table.specs.declared.entry.Base.TheVariants.{New}
use Rattle.osm_table.specs.declared.entry.Entry.{Entry}
use Rattle.osm_table.specs.declared.entry.Entry.TheVariants.{Incomplete, Known}
use Rattle.osm_table.specs.Table.{TableValue, conflict_of, entry_of}
use Rattle.osm_table.specs.Table.{users}
use Rattle.tool_api.specs.declared.kinds.Kinds.{Kinds}
use Rattle.tool_api.specs.declared.kinds.Kinds.TheVariants.{Any, Nodes, Ways, Relations, NodesAndWays}
use Rattle.tool_api.specs.declared.refusal.Refusal.{Refusal}
use Rattle.tool_api.specs.declared.refusal.Refusal.TheVariants.{Absent, IncompleteObject, DeletedObject, InConflict, InUse, WrongKind, NamedTwice}

-- In a `do` a line that is a test refuses, or the next line goes on.
infixl 10 ◌>>◌
abbrev pub ◌>>◌ : {A : Type 0} → Option Refusal → Result A Refusal → Result A Refusal
◌>>◌ None next = next
◌>>◌ (Some r) next = Err r

infixl 10 ◌>>=◌
abbrev pub ◌>>=◌ : {A B : Type 0} → Result A Refusal → (A → Result B Refusal) → Result B Refusal
◌>>=◌ (Ok a) next = next a
◌>>=◌ (Err r) next = Err r

-- the first refusal of a list's items, in order
abbrev pub first_of : {X : Type 0} → (X → Option Refusal) → List X → Option Refusal
first_of test [] = None
first_of test (x ∷ xs) = option_or (test x) (first_of test xs)

-- the refusal where the test is true
abbrev pub when : Bool → Refusal → Option Refusal
when b r = if b then Some r else None

-- whether a key is one of those
abbrev pub is_named : List Key → Key → Bool
is_named keys key = list_any (is_key key) keys

-- whether a job takes objects of a kind
abbrev pub takes : Kinds → Kind → Bool
takes Any kind = true
takes Nodes Node = true
takes Ways Way = true
takes Relations Relation = true
takes NodesAndWays Node = true
takes NodesAndWays Way = true
takes kinds kind = false

-- an object in conflict isn't edited
abbrev pub conflict_test : Key → Option Conflict → Option Refusal
conflict_test key conflict = option_map (λ conflict. InConflict key) conflict

-- one named object: it is there, living, of a kind that the job takes, and not in conflict
abbrev pub entry_test : Kinds → Key → Option Entry → Option Refusal
entry_test kinds key None = Some (Absent key)
entry_test kinds key (Some Incomplete) = Some (IncompleteObject key)
entry_test kinds key (Some (Known base None conflict)) = Some (DeletedObject key)
entry_test kinds key (Some (Known base (Some mine) conflict)) = if takes kinds key.kind then conflict_test key conflict else Some (WrongKind key)

-- Target tests of a key: Absent, IncompleteObject, DeletedObject, WrongKind, InConflict.
abbrev pub target_test : TableValue → Kinds → Key → Option Refusal
target_test t kinds key = entry_test kinds key (entry_of t key)

-- NamedTwice for the first key that repeats one before it
abbrev pub twice_test : List Key → List Key → Option Refusal
twice_test seen [] = None
twice_test seen (k ∷ ks) = if is_named seen k then Some (NamedTwice k) else twice_test (seen ++ k ∷ []) ks

-- List tests: NamedTwice, then the target tests key by key.
abbrev pub list_tests : TableValue → Kinds → List Key → Option Refusal
list_tests t kinds keys = option_or (twice_test [] keys) (first_of (target_test t kinds) keys)

-- one reference: it is there, and not deleted. An Incomplete one is taken.
abbrev pub ref_entry_test : Key → Option Entry → Option Refusal
ref_entry_test r None = Some (Absent r)
ref_entry_test r (Some (Known base None conflict)) = Some (DeletedObject r)
ref_entry_test r e = None

-- Reference tests, item by item: Absent, DeletedObject.
abbrev pub ref_tests : TableValue → List Key → Option Refusal
ref_tests t refs = first_of (λ r. ref_entry_test r (entry_of t r)) refs

-- InUse with the least user that isn't named
abbrev pub use_test : TableValue → List Key → Key → Option Refusal
use_test t named k = option_map (λ by. InUse k by) (find (λ u. not (is_named named u)) (users t k))

-- one object to be purged: it is there, and not in conflict
abbrev pub purge_entry_test : Key → Option Entry → Option Refusal
purge_entry_test k None = Some (Absent k)
purge_entry_test k (Some e) = conflict_test k (conflict_of e)

-- whether no server knows the object
abbrev pub is_new : Option Entry → Bool
is_new (Some (Known New mine conflict)) = true
is_new e = false
