-- What the passes of a merge do to its draft, and which keys they list.
--
-- For example where the names are n1 and n2, and the draft's table has n1 living and no n2, `NamesEnter` lets n2 enter as
-- Incomplete and leaves n1 as it is.
use Rattle.std.specs.Prelude.{◌≡◌, ◌++◌, ◌∷◌, [], ◌↔◌, Bool, true, if◌then◌else◌, filter, List}
use Rattle.std.specs.List.{flat_map}
use Rattle.std.specs.Option.{option_map}
use Rattle.osm_base.specs.Rank.{is_key}
use Rattle.osm_base.specs.declared.key.Key.{Key}
use Rattle.osm_table.specs.Table.{TableValue, entry_of}
use Rattle.osm_table.specs.Told.{ToldValue}
use Rattle.dataset.specs.Draft.{DraftValue, drafted}
use Rattle.closure.specs.Closure.{has, Chain}
use Rattle.tool_api.specs.Staged.{back, bared}
use Rattle.job_laws.specs.MergeOutcomes.{final_at, is_wanted, is_held, is_wanted_name}
use Rattle.merge_tool.specs.Passes.{IsPassed, early, renewed_refs, is_going, is_clashing, held_starts, left}
use Rattle.merge_tool.specs.Walks.{going_links}

-- The lists.

-- to what the objects refer that are told of, changed by that, and no candidates
abbrev pub renewed_names : TableValue → ToldValue → List Key
renewed_names t told = flat_map (renewed_refs t told.told) told.order

-- the candidates, in the order in which they are told of
abbrev pub going_keys : TableValue → ToldValue → List Key
going_keys t told = filter (is_going t told.told) told.order

-- the objects of which one version is told in two ways, in that order
abbrev pub clashing_keys : TableValue → ToldValue → List Key
clashing_keys t told = filter (is_clashing t told.told) told.order

-- these keys are the candidates
abbrev pub AreGoing : TableValue → ToldValue → List Key → Type 0
AreGoing t told keys = (k : Key) → has is_key keys k ≡ is_going t told.told k

-- these are the lost objects that come back
abbrev pub AreWanted : TableValue → ToldValue → List Key → Type 0
AreWanted t told keys = (k : Key) → has is_key keys k ≡ is_wanted t told.told k

-- to these the objects refer that come back
abbrev pub AreWantedNames : TableValue → ToldValue → List Key → Type 0
AreWantedNames t told names = (k : Key) → has is_key names k ≡ is_wanted_name t told.told k

-- these are the candidates that stay
abbrev pub AreHeld : TableValue → ToldValue → List Key → Type 0
AreHeld t told keys = (k : Key) → has is_key keys k ≡ is_held t told.told k

-- these are the ends of all chains of links that begin at a start
abbrev pub AreEnds : List Key → (Key → List Key) → List Key → Type 0
AreEnds starts links ends = (k : Key) → (has is_key ends k ≡ true) ↔ Chain (has is_key starts) (λ j. has is_key (links j)) k

-- these are the ends of all chains of candidates that begin at one of `held_starts`
abbrev pub AreHeldEnds : TableValue → ToldValue → List Key → List Key → List Key → List Key → Type 0
AreHeldEnds t told candidates names late ends = AreEnds (held_starts t told.told candidates names late) (going_links candidates t) ends

-- The draft.

-- the keys so far have the outcomes of their cases, and all others what the table has
abbrev pub IsStagedTo : TableValue → ToldValue → List Key → DraftValue → Type 0
IsStagedTo t told ks draft = IsPassed (entry_of t) (early t told.told) ks (drafted draft t)

-- with this one, too, the keys so far have the outcomes of their cases
abbrev pub StagesNext : TableValue → ToldValue → Key → DraftValue → DraftValue → Type 0
StagesNext t told k old new = (ks : List Key) → IsStagedTo t told ks old → IsStagedTo t told (ks ++ k ∷ []) new

-- each key has the outcome of its case
abbrev pub IsStaged : TableValue → ToldValue → DraftValue → Type 0
IsStaged t told draft = (k : Key) → entry_of (drafted draft t) k ≡ early t told.told k

-- of these names those enter that aren't there or are gone on both sides, and all else is as before
abbrev pub NamesEnter : TableValue → (Key → Bool) → DraftValue → DraftValue → Type 0
NamesEnter t is_name old new = (k : Key) → entry_of (drafted new t) k ≡ bared (is_name k) (entry_of (drafted old t) k)

-- first names enter so, and then late ones
abbrev pub BothEnter : TableValue → List Key → List Key → DraftValue → DraftValue → Type 0
BothEnter t names late old new = (k : Key) → entry_of (drafted new t) k ≡ bared (has is_key late k) (bared (has is_key names k) (entry_of (drafted old t) k))

-- such objects come back as their known sides, and all else is as before
abbrev pub ComeBack : TableValue → (Key → Bool) → DraftValue → DraftValue → Type 0
ComeBack t is_back old new = (k : Key) → entry_of (drafted new t) k ≡ (if is_back k then option_map back (entry_of (drafted old t) k) else entry_of (drafted old t) k)

-- such candidates go, but for those that are held, and all else is as before
abbrev pub GoUnlessHeld : TableValue → ToldValue → List Key → (Key → Bool) → DraftValue → DraftValue → Type 0
GoUnlessHeld t told held goes old new = (k : Key) → entry_of (drafted new t) k ≡ (if goes k then left t told.told held k else entry_of (drafted old t) k)

-- the candidates go, but for those that are held; of all others the wanted come back, and the rest is as before
abbrev pub IsWritten : TableValue → ToldValue → List Key → List Key → List Key → DraftValue → DraftValue → Type 0
IsWritten t told candidates wanted held old new =
    (k : Key) → entry_of (drafted new t) k ≡ (if has is_key candidates k then left t told.told held k else (if has is_key wanted k then option_map back (entry_of (drafted old t) k) else entry_of (drafted old t) k))

-- each key has what a merge makes of it in the end
abbrev pub IsMerged : TableValue → ToldValue → DraftValue → Type 0
IsMerged t told draft = (k : Key) → entry_of (drafted draft t) k ≡ final_at t told.told k
