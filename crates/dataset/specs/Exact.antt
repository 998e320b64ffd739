-- The pairs of a table, entry by entry, and those that move with edits.
use Rattle.std.specs.Prelude.{◌≡◌, ℕ, ◌&&◌, ◌||◌, Bool, true, false, if◌then◌else◌, Option, Some, List, [], ◌∷◌, ◌++◌, map}
use Rattle.std.specs.List.{count_by}
use Rattle.std.specs.Option.{option_map_or, option_and_then}
use Rattle.osm_base.specs.Rank.{is_key}
use Rattle.osm_base.specs.Content.{refs_of}
use Rattle.osm_base.specs.Same.{same_refs, same_members}
use Rattle.osm_base.specs.declared.key.Key.{Key}
use Rattle.osm_base.specs.declared.content.Content.{Content}
use Rattle.osm_base.specs.declared.content.Content.TheVariants.{Way, Relation}
use Rattle.osm_table.specs.declared.entry.Entry.{Entry}
use Rattle.osm_table.specs.Table.{TableValue, entry_of, mine_of}
use Rattle.ref_index.specs.declared.pair.Pair.{Pair}
use Rattle.dataset.specs.Edit.{Edit}

-- the content that a key has now, if it lives
abbrev pub mine_at : Option Entry → Option Content
mine_at o = option_and_then mine_of o

-- the references of a living entry, in order, each as often as it stands
abbrev pub refs_at : Option Entry → List Key
refs_at o = option_map_or refs_of (mine_at o) []

-- how often a key is among others
abbrev pub times_key : Key → List Key → ℕ
times_key k ks = count_by (is_key k) ks

-- Each reference of each living entry is counted as often as it stands, and nothing else.
abbrev pub IsExact : TableValue → (Pair → ℕ) → Type 0
IsExact t number = (of user : Key) → number (record { of = of; user = user }) ≡ times_key of (refs_at (entry_of t user))

-- the pairs of one user with some keys
abbrev pub pairs_with : Key → List Key → List Pair
pairs_with user ks = map (λ k. record { of = k; user = user }) ks

-- the pairs of one entry
abbrev pub pairs_of : Key → Option Entry → List Pair
pairs_of user o = pairs_with user (refs_at o)

-- whether two ways have the same nodes, or two relations the same members
abbrev pub same_lists : Option Content → Option Content → Bool
same_lists (Some (Way tags refs)) (Some (Way others theirs)) = same_refs refs theirs
same_lists (Some (Relation tags members)) (Some (Relation others theirs)) = same_members members theirs
same_lists a b = false

-- whether an edit keeps the references as they are, as one of tags alone does
abbrev pub keeps_refs : Edit → Bool
keeps_refs e = same_lists (mine_at e.before) (mine_at e.after)

-- whether there is none
abbrev pub is_none_of : List Key → Bool
is_none_of [] = true
is_none_of (k ∷ ks) = false

-- whether an edit brings no pair and takes none, as one of a node does
abbrev pub keeps_pairs : Edit → Bool
keeps_pairs e = keeps_refs e || (is_none_of (refs_at e.before) && is_none_of (refs_at e.after))

-- the pairs that move with one side of an edit
abbrev pub moved_pairs : (Edit → Option Entry) → Edit → List Pair
moved_pairs side e = if keeps_refs e then [] else pairs_of e.key (side e)

-- the pairs that move with one side of edits
abbrev pub pairs_by : (Edit → Option Entry) → List Edit → List Pair
pairs_by side [] = []
pairs_by side (e ∷ es) = moved_pairs side e ++ pairs_by side es
