-- Downloads that are merged: worked examples of what becomes of each object, and of the refusal.
use Rattle.std.proofs.Common.{◌≡◌, ℕ, pos, List, [], ◌∷◌, ◌++◌, map, Option, Some, None, refl, ap, Ok, Err}
use Rattle.std.specs.Prelude.{T}
use Rattle.std.specs.List.{find as find_first}
use Rattle.std.specs.Option.{option_map, option_map_or}
use Rattle.std.specs.FinMap as fin
use Rattle.std.specs.FinMap.Entries.{find, is_sorted}
use Rattle.std.specs.Str.{chars}
use Rattle.osm_base.specs.Rank.{rank_cmp}
use Rattle.osm_base.specs.Content.{node}
use Rattle.osm_base.specs.Meta.{empty_meta}
use Rattle.osm_base.specs.declared.coord.Coord.{Coord}
use Rattle.osm_base.specs.declared.content.Content.{Content}
use Rattle.osm_base.specs.declared.content.Content.TheVariants as content
use Rattle.osm_base.specs.declared.key.Key.{Key}
use Rattle.osm_base.specs.declared.key.Kind.TheVariants as kind
use Rattle.osm_table.specs.declared.entry.Base.{Base}
use Rattle.osm_table.specs.declared.entry.Base.TheVariants as base
use Rattle.osm_table.specs.declared.entry.Why.TheVariants.{Changed, Held, Withdrawn}
use Rattle.osm_table.specs.declared.entry.Entry.{Entry}
use Rattle.osm_table.specs.declared.entry.Entry.TheVariants.{Incomplete, Known}
use Rattle.osm_table.specs.declared.told.Told.{Told}
use Rattle.osm_table.specs.declared.told.Told.TheVariants as told
use Rattle.osm_table.specs.Table.{TableValue, version_of}
use Rattle.osm_table.specs.Told.{ToldEntries}
use Rattle.merge_cases.specs.declared.verdict.Verdict.TheVariants.{Stay}
use Rattle.merge_cases.specs.Case.{verdict_of}
use Rattle.tool_api.specs.declared.refusal.Refusal.{Refusal}
use Rattle.tool_api.specs.declared.refusal.Refusal.TheVariants.{VersionClash}
use Rattle.tool_api.specs.Checks.{◌>>◌}
use Rattle.tool_api.specs.Changes.{done}
use Rattle.tool_api.specs.Closing.{room_test}
use Rattle.tool_api.specs.Staged.{Staged, stage_of, staged, is_candidate, is_clash, theirs_told}
use Rattle.tool_api.specs.Merged.{both_keys, final, merged, clash_test, merge}

abbrev n : ℕ → Key
n i = node (pos i)

abbrev w : ℕ → Key
w i = record { kind = kind.Way; id = pos i }

abbrev r : ℕ → Key
r i = record { kind = kind.Relation; id = pos i }

abbrev here : Coord
here = record { lon = pos 0; lat = pos 0; on_map = refl }

-- a node with a tag, a way and a relation
abbrev dot : ℕ → Content
dot value = content.Node ((97 ∷ [], value ∷ []) ∷ []) here

abbrev line : List ℕ → Content
line ids = content.Way [] (map pos ids)

abbrev group : List Key → Content
group keys = content.Relation [] (map (λ k. record { key = k; role = [] }) keys)

-- versions of the server
abbrev live : ℕ → Content → Base
live version c = base.Live version c empty_meta

abbrev gone : ℕ → Base
gone version = base.Gone version empty_meta

-- what is told
abbrev tells : ℕ → Content → Told
tells version c = told.Live version c empty_meta

abbrev tells_gone : ℕ → Told
tells_gone version = told.Gone version empty_meta

-- nothing was changed here, something was, the object was deleted here
abbrev kept : ℕ → Content → Entry
kept version c = Known (live version c) (Some c) None

abbrev edited : ℕ → Content → Content → Entry
edited version c mine = Known (live version c) (Some mine) None

abbrev deleted : ℕ → Content → Entry
deleted version c = Known (live version c) None None

-- gone on both sides
abbrev off : ℕ → Entry
off version = Known (gone version) None None

-- in conflict: both sides changed it, the server deleted what is used here, it came back against the deletion here
abbrev disputed : ℕ → Content → Option Content → Base → Entry
disputed version c mine theirs = Known (live version c) mine (Some (record { why = Changed; theirs = theirs }))

abbrev held : ℕ → Content → ℕ → Entry
held version c newer = Known (live version c) (Some c) (Some (record { why = Held; theirs = gone newer }))

abbrev came_back : ℕ → Content → Entry
came_back version c = Known (live version c) (Some c) (Some (record { why = Withdrawn; theirs = live version c }))

abbrev table : List (Key × Entry) → TableValue
table es = record { entries = fin.from_sorted es; next = 1 }

abbrev news : List (Key × Told) → ToldEntries
news ts = fin.from_sorted ts

-- what a key has in the end
abbrev after : List (Key × Entry) → List (Key × Told) → Key → Option Entry
after es ts k = final (stage_of (table es) (news ts)) (both_keys (table es) (news ts)) k

-- The same over lists, on which it computes.
abbrev stage : Option Entry → Option Told → Staged
stage o s = record {
  entry = staged (option_map_or (verdict_of o) s Stay) o (option_map_or theirs_told s base.New);
  candidate = is_candidate (option_map_or (verdict_of o) s Stay);
  theirs = option_map_or theirs_told s base.New;
}

abbrev after_of : List (Key × Entry) → List (Key × Told) → Key → Option Entry
after_of es ts k = final (λ j. stage (find rank_cmp j es) (find rank_cmp j ts)) (map (λ e. e.0) es ++ map (λ e. e.0) ts) k

by_lists : (es : List (Key × Entry)) (ts : List (Key × Told)) (k : Key) → T (is_sorted rank_cmp es) → T (is_sorted rank_cmp ts) → after es ts k ≡ after_of es ts k
by_lists es ts k h g = λ i. final (λ j. stage (fin.get-from_sorted rank_cmp es j h i) (fin.get-from_sorted rank_cmp ts j g i)) (map (λ e. e.0) (fin.entries-from_sorted rank_cmp es h i) ++ map (λ e. e.0) (fin.entries-from_sorted rank_cmp ts g i)) k

-- n1 as it was, changed and deleted here, and what is told of it
abbrev plain : List (Key × Entry)
plain = (n 1, kept 1 (dot 1)) ∷ []

abbrev moved : List (Key × Entry)
moved = (n 1, edited 1 (dot 1) (dot 2)) ∷ []

abbrev away : List (Key × Entry)
away = (n 1, deleted 1 (dot 1)) ∷ []

abbrev newer : List (Key × Told)
newer = (n 1, tells 2 (dot 3)) ∷ []

abbrev removed : ℕ → List (Key × Told)
removed version = (n 1, tells_gone version) ∷ []

-- A newer version of an object that isn't changed is taken.
taken : after plain newer (n 1) ≡ Some (kept 2 (dot 3))
taken = by_lists plain newer (n 1) tt tt

-- An object that is changed stays, in conflict with a newer version that changes it otherwise, and with one that is gone.
stays : (after moved newer (n 1) ≡ Some (disputed 1 (dot 1) (Some (dot 2)) (live 2 (dot 3)))) × (after moved (removed 2) (n 1) ≡ Some (disputed 1 (dot 1) (Some (dot 2)) (gone 2)))
stays = (by_lists moved newer (n 1) tt tt, by_lists moved (removed 2) (n 1) tt tt)

-- What each side changed alone is joined: n1 has the tag a=2 here, and b=3 at the server.
abbrev two : ℕ → ℕ → Content
two a b = content.Node ((97 ∷ [], a ∷ []) ∷ (98 ∷ [], b ∷ []) ∷ []) here

joined : after moved ((n 1, tells 2 (two 1 3)) ∷ []) (n 1) ≡ Some (edited 2 (two 1 3) (two 2 3))
unfolding chars
joined = by_lists moved ((n 1, tells 2 (two 1 3)) ∷ []) (n 1) tt tt

-- An older version tells nothing.
older : after ((n 1, kept 3 (dot 1)) ∷ []) newer (n 1) ≡ Some (kept 3 (dot 1))
older = by_lists ((n 1, kept 3 (dot 1)) ∷ []) newer (n 1) tt tt

-- One that is deleted here stays so, in conflict with a newer version, until both sides deleted it.
deleted_stays : (after away newer (n 1) ≡ Some (disputed 1 (dot 1) None (live 2 (dot 3)))) × (after away (removed 2) (n 1) ≡ Some (off 2))
deleted_stays = (by_lists away newer (n 1) tt tt, by_lists away (removed 2) (n 1) tt tt)

-- An object that nothing refers to goes.
goes : after plain (removed 2) (n 1) ≡ Some (off 2)
goes = by_lists plain (removed 2) (n 1) tt tt

-- A mention says nothing of an object that is known, and another is Incomplete.
abbrev mentions : List (Key × Told)
mentions = (n 1, told.Mentioned) ∷ (n 2, told.Mentioned) ∷ []

mentioned : (after plain mentions (n 1) ≡ Some (kept 1 (dot 1))) × (after plain mentions (n 2) ≡ Some Incomplete)
mentioned = (by_lists plain mentions (n 1) tt tt, by_lists plain mentions (n 2) tt tt)

-- Two relations that refer to each other, and a third that refers to one of them:
abbrev pair : List (Key × Entry)
pair = (r 1, kept 1 (group (r 2 ∷ []))) ∷ (r 2, kept 1 (group (r 1 ∷ []))) ∷ []

abbrev watched : List (Key × Entry)
watched = (r 1, kept 1 (group (r 2 ∷ []))) ∷ (r 2, kept 1 (group (r 1 ∷ []))) ∷ (r 3, kept 1 (group (r 1 ∷ []))) ∷ []

abbrev both_gone : List (Key × Told)
both_gone = (r 1, tells_gone 2) ∷ (r 2, tells_gone 3) ∷ []

-- told gone, the two go,
pair_goes : (after pair both_gone (r 1) ≡ Some (off 2)) × (after pair both_gone (r 2) ≡ Some (off 3))
pair_goes = (by_lists pair both_gone (r 1) tt tt, by_lists pair both_gone (r 2) tt tt)

-- but are held where the third is there, which stays as it is.
pair_held : (after watched both_gone (r 1) ≡ Some (held 1 (group (r 2 ∷ [])) 2)) × (after watched both_gone (r 2) ≡ Some (held 1 (group (r 1 ∷ [])) 3)) × (after watched both_gone (r 3) ≡ Some (kept 1 (group (r 1 ∷ []))))
pair_held = (by_lists watched both_gone (r 1) tt tt, by_lists watched both_gone (r 2) tt tt, by_lists watched both_gone (r 3) tt tt)

-- A node that is deleted here comes back under a newer way,
abbrev ruin : List (Key × Entry)
ruin = (n 1, deleted 1 (dot 1)) ∷ (w 1, kept 1 (line (2 ∷ []))) ∷ []

abbrev longer : List (Key × Told)
longer = (w 1, tells 2 (line (1 ∷ 2 ∷ []))) ∷ []

node_back : (after ruin longer (n 1) ≡ Some (came_back 1 (dot 1))) × (after ruin longer (w 1) ≡ Some (kept 2 (line (1 ∷ 2 ∷ [])))) × (after ruin longer (n 2) ≡ Some Incomplete)
node_back = (by_lists ruin longer (n 1) tt tt, by_lists ruin longer (w 1) tt tt, by_lists ruin longer (n 2) tt tt)

-- and so does all that a way would refer to that comes back.
abbrev ruins : List (Key × Entry)
ruins = (n 1, deleted 1 (dot 1)) ∷ (w 1, deleted 1 (line (1 ∷ 2 ∷ []))) ∷ []

abbrev route : List (Key × Told)
route = (r 1, tells 1 (group (w 1 ∷ []))) ∷ []

way_back : (after ruins route (w 1) ≡ Some (came_back 1 (line (1 ∷ 2 ∷ [])))) × (after ruins route (n 1) ≡ Some (came_back 1 (dot 1))) × (after ruins route (n 2) ≡ Some Incomplete)
way_back = (by_lists ruins route (w 1) tt tt, by_lists ruins route (n 1) tt tt, by_lists ruins route (n 2) tt tt)

-- One that came back stays in that conflict with a newer version, and is held where that is gone.
abbrev risen : List (Key × Entry)
risen = (n 1, came_back 1 (dot 1)) ∷ (w 1, kept 1 (line (1 ∷ []))) ∷ []

risen_stays : (after risen newer (n 1) ≡ Some (came_back 2 (dot 3))) × (after risen (removed 2) (n 1) ≡ Some (held 1 (dot 1) 2))
risen_stays = (by_lists risen newer (n 1) tt tt, by_lists risen (removed 2) (n 1) tt tt)

-- A node that both sides deleted is Incomplete where a way refers to it.
abbrev rubble : List (Key × Entry)
rubble = (n 1, off 1) ∷ []

both_deleted : after rubble ((w 1, tells 1 (line (1 ∷ []))) ∷ []) (n 1) ≡ Some Incomplete
both_deleted = by_lists rubble ((w 1, tells 1 (line (1 ∷ []))) ∷ []) (n 1) tt tt

-- One version that is told gone and known live refuses the download.
abbrev clash_by : List (Key × Entry) → List (Key × Told) → Option Refusal
clash_by es ts = option_map (λ k. VersionClash k (version_of (option_map_or theirs_told (find rank_cmp k ts) base.New)))
    (find_first (λ k. is_clash (option_map_or (verdict_of (find rank_cmp k es)) (find rank_cmp k ts) Stay)) (map (λ e. e.0) ts))

clash_is : (es : List (Key × Entry)) (ts : List (Key × Told)) → T (is_sorted rank_cmp es) → T (is_sorted rank_cmp ts) → clash_test (table es) (news ts) ≡ clash_by es ts
clash_is es ts h g = λ i. option_map (λ k. VersionClash k (version_of (option_map_or theirs_told (fin.get-from_sorted rank_cmp ts k g i) base.New)))
    (find_first (λ k. is_clash (option_map_or (verdict_of (fin.get-from_sorted rank_cmp es k h i)) (fin.get-from_sorted rank_cmp ts k g i) Stay)) (map (λ e. e.0) (fin.entries-from_sorted rank_cmp ts g i)))

clashes : merge (table plain) 9 (record { told = news (removed 1); order = n 1 ∷ [] }) ≡ Err (VersionClash (n 1) 1)
clashes = ap (λ (c : Option Refusal). c >> (room_test 9 (merged (table plain) (news (removed 1))) >> Ok (done (merged (table plain) (news (removed 1)))))) (clash_is plain (removed 1) tt tt)
