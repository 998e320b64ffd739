-- Objects in conflict: worked examples of what each job may not do to them.
use Rattle.std.proofs.Common.{◌≡◌, ℕ, pos, true, false, List, [], ◌∷◌, map, Option, Some, None, refl, Ok, Err}
use Rattle.std.specs.Prelude.{codes, Result}
use Rattle.std.specs.FinMap as fin
use Rattle.osm_base.specs.OnMap.{is_on_map}
use Rattle.osm_base.specs.Place.{place_at}
use Rattle.osm_base.specs.Rank.{rank_cmp}
use Rattle.osm_base.specs.RankLaws.{rank_total}
use Rattle.osm_base.specs.Content.{node}
use Rattle.osm_base.specs.declared.coord.Coord.{Coord}
use Rattle.osm_base.specs.declared.meta.Meta.{Meta}
use Rattle.osm_base.specs.declared.content.Content.{Content}
use Rattle.osm_base.specs.declared.content.Content.TheVariants as content
use Rattle.osm_base.specs.declared.key.Key.{Key}
use Rattle.osm_base.specs.declared.key.Kind.TheVariants as kind
use Rattle.osm_table.specs.declared.entry.Base.TheVariants.{Live, Gone}
use Rattle.osm_table.specs.declared.entry.Why.TheVariants.{Changed, Held, Withdrawn}
use Rattle.osm_table.specs.declared.entry.Entry.{Entry}
use Rattle.osm_table.specs.declared.entry.Entry.TheVariants.{Incomplete, Known}
use Rattle.osm_table.specs.Table.{TableValue, mine_of}
use Rattle.tool_api.specs.declared.kinds.Kinds.TheVariants.{Any, Nodes, Ways}
use Rattle.tool_api.specs.declared.refusal.Refusal.{Refusal}
use Rattle.tool_api.specs.declared.refusal.Refusal.TheVariants.{DeletedObject, InConflict, WrongKind, Unfit, OutOfRange, TableFull}
use Rattle.tool_api.specs.Checks.{entry_test, ref_entry_test, purge_entry_test}
use Rattle.tool_api.specs.Changes.{Outcome}
use Rattle.tool_api.specs.Closing.{changes_conflict, closing_tests}
use Rattle.tool_api.specs.Basic.{move_entry_test, set_tags, shift}
use Rattle.tool_api.specs.Gone.{is_bare, delete_all, erase, purge}

abbrev n : ℕ → Key
n i = node (pos i)

abbrev w : ℕ → Key
w i = record { kind = kind.Way; id = pos i }

abbrev server : Meta
server = record { changeset = 1; time = None; uid = 1; user = [] }

abbrev at : (lon : ℕ) → is_on_map (pos lon) (pos 0) ≡ true → Coord
at lon on_map = record { lon = pos lon; lat = pos 0; on_map = on_map }

abbrev dot : (lon : ℕ) → is_on_map (pos lon) (pos 0) ≡ true → Content
dot lon on_map = content.Node [] (at lon on_map)

abbrev line : List ℕ → Content
line ids = content.Way [] (map pos ids)

-- nothing was changed here
abbrev live : Content → Entry
live c = Known (Live 1 c server) (Some c) None

-- changed here and at the server, which has version 2
abbrev disputed : Content → Option Content → Content → Entry
disputed base mine theirs = Known (Live 1 base server) mine (Some (record { why = Changed; theirs = Live 2 theirs server }))

-- deleted at the server, and used here
abbrev held : Content → Entry
held c = Known (Live 1 c server) (Some c) (Some (record { why = Held; theirs = Gone 2 server }))

-- deleted here, and used at the server
abbrev withdrawn : Content → Entry
withdrawn c = Known (Live 1 c server) (Some c) (Some (record { why = Withdrawn; theirs = Live 1 c server }))

-- A named object in conflict is refused, whatever its cause.
changed_named : entry_test Any (n 1) (Some (disputed (dot 0 refl) (Some (dot 1 refl)) (dot 2 refl))) ≡ Some (InConflict (n 1))
changed_named = refl

held_named : entry_test Nodes (n 1) (Some (held (dot 0 refl))) ≡ Some (InConflict (n 1))
held_named = refl

withdrawn_named : entry_test Nodes (n 1) (Some (withdrawn (dot 0 refl))) ≡ Some (InConflict (n 1))
withdrawn_named = refl

-- That it is deleted here, or of a kind that the job doesn't take, comes before that.
deleted_first : entry_test Any (n 1) (Some (disputed (dot 0 refl) None (dot 2 refl))) ≡ Some (DeletedObject (n 1))
deleted_first = refl

kind_first : entry_test Ways (n 1) (Some (held (dot 0 refl))) ≡ Some (WrongKind (n 1))
kind_first = refl

-- A new reference may be to an object in conflict that lives.
may_refer : ref_entry_test (n 1) (Some (held (dot 0 refl))) ≡ None
may_refer = refl

may_not_refer : ref_entry_test (n 1) (Some (disputed (dot 0 refl) None (dot 2 refl))) ≡ Some (DeletedObject (n 1))
may_not_refer = refl

-- A node in conflict isn't moved, and that comes before leaving the map.
moved_in_conflict : move_entry_test (pos 0) (pos 0) (n 1) (Some (withdrawn (dot 0 refl))) ≡ Some (InConflict (n 1))
moved_in_conflict = refl

conflict_before_range : move_entry_test (pos 3600000000) (pos 0) (n 1) (Some (withdrawn (dot 0 refl))) ≡ Some (InConflict (n 1))
conflict_before_range = refl

out_of_range : move_entry_test (pos 3600000000) (pos 0) (n 1) (Some (live (dot 0 refl))) ≡ Some (OutOfRange (n 1))
unfolding place_at
out_of_range = refl

-- One in conflict isn't purged, deleted or not; an Incomplete one and a deleted one are.
purged_in_conflict : purge_entry_test (n 1) (Some (held (dot 0 refl))) ≡ Some (InConflict (n 1))
purged_in_conflict = refl

purged_deleted_in_conflict : purge_entry_test (n 1) (Some (disputed (dot 0 refl) None (dot 2 refl))) ≡ Some (InConflict (n 1))
purged_deleted_in_conflict = refl

purged_deleted : purge_entry_test (n 1) (Some (Known (Live 1 (dot 0 refl) server) None None)) ≡ None
purged_deleted = refl

purged_incomplete : purge_entry_test (n 1) (Some Incomplete) ≡ None
purged_incomplete = refl

-- A node in conflict never goes with the way that falls, nor does one with tags.
bare : is_bare (Some (live (dot 0 refl))) ≡ true
bare = refl

not_bare : is_bare (Some (held (dot 0 refl))) ≡ false
not_bare = refl

not_bare_tagged : is_bare (Some (live (content.Node ((codes "a", codes "1") ∷ []) (at 0 refl)))) ≡ false
not_bare_tagged = refl

-- A job changes a conflict where it changes or takes out the object and doesn't name it.
changes_mine : changes_conflict (n 1 ∷ []) (w 5) (Some (held (line (1 ∷ 2 ∷ [])))) (Some (Known (Live 1 (line (1 ∷ 2 ∷ [])) server) (Some (line (2 ∷ []))) (Some (record { why = Held; theirs = Gone 2 server })))) ≡ true
changes_mine = refl

takes_out : changes_conflict (n 1 ∷ []) (w 5) (Some (held (line (1 ∷ [])))) None ≡ true
takes_out = refl

named_is_none : changes_conflict (w 5 ∷ []) (w 5) (Some (held (line (1 ∷ [])))) None ≡ false
named_is_none = refl

left_is_none : changes_conflict [] (w 5) (Some (held (line (1 ∷ [])))) (Some (held (line (1 ∷ [])))) ≡ false
left_is_none = refl

without_is_none : changes_conflict [] (w 5) (Some (live (line (1 ∷ [])))) None ≡ false
without_is_none = refl

-- Closing tests: a way in conflict with the node n1, before and after
abbrev before : List (Key × Entry)
before = (n 1, live (dot 0 refl)) ∷ (w 5, disputed (line (1 ∷ [])) (Some (line (1 ∷ 1 ∷ []))) (line (1 ∷ 1 ∷ 1 ∷ []))) ∷ []

-- it has no nodes left, which doesn't fit
abbrev emptied : List (Key × Entry)
emptied = (n 1, live (dot 0 refl)) ∷ (w 5, disputed (line (1 ∷ [])) (Some (line [])) (line (1 ∷ 1 ∷ 1 ∷ []))) ∷ []

-- it has one more
abbrev longer : List (Key × Entry)
longer = (n 1, live (dot 0 refl)) ∷ (w 5, disputed (line (1 ∷ [])) (Some (line (1 ∷ 1 ∷ 1 ∷ 1 ∷ []))) (line (1 ∷ 1 ∷ 1 ∷ []))) ∷ []

abbrev table : List (Key × Entry) → ℕ → TableValue
table es next = record { entries = fin.from_sorted es; next = next }

in_before : fin.entries (fin.from_sorted {R = rank_cmp} before) ≡ before
in_before = fin.entries-from_sorted rank_cmp before tt

in_emptied : fin.entries (fin.from_sorted {R = rank_cmp} emptied) ≡ emptied
in_emptied = fin.entries-from_sorted rank_cmp emptied tt

in_longer : fin.entries (fin.from_sorted {R = rank_cmp} longer) ≡ longer
in_longer = fin.entries-from_sorted rank_cmp longer tt

-- InConflict comes before Unfit, and Unfit before TableFull.
conflict_first : closing_tests (table before 1) 1 (n 1 ∷ []) (table emptied 1) ≡ Some (InConflict (w 5))
conflict_first = simp (fin.get-entries, in_before, in_emptied) refl

then_unfit : closing_tests (table before 1) 1 (w 5 ∷ []) (table emptied 1) ≡ Some (Unfit (w 5))
then_unfit = simp (fin.get-entries, in_before, in_emptied) refl

then_full : closing_tests (table before 1) 1 (w 5 ∷ []) (table longer 1) ≡ Some TableFull
then_full = simp (fin.len-entries, fin.get-entries, in_before, in_longer) refl

then_none : closing_tests (table before 1) 2 (w 5 ∷ []) (table longer 1) ≡ None
then_none = simp (fin.len-entries, fin.get-entries, in_before, in_longer) refl

-- A conflict, or a content that doesn't fit, that the job leaves refuses nothing.
left_alone : closing_tests (table emptied 1) 2 [] (table emptied 1) ≡ None
left_alone = simp (fin.len-entries, fin.get-entries, in_emptied) refl

-- The last number is 10^18.
last_number : closing_tests (table before 1) 2 [] (table before 1000000000000000000) ≡ None
last_number = simp (fin.len-entries, fin.get-entries, in_before) refl

no_number : closing_tests (table before 1) 2 [] (table before 1000000000000000001) ≡ Some TableFull
no_number = simp (fin.len-entries, fin.get-entries, in_before) refl

-- A street w5 Nn1,n2,n3 in conflict, and w6 Nn3,n4 with its end n4 in conflict
abbrev street : List (Key × Entry)
street = (n 1, live (dot 1 refl)) ∷ (n 2, live (dot 2 refl)) ∷ (n 3, live (dot 3 refl)) ∷ (n 4, held (dot 4 refl))
    ∷ (w 5, held (line (1 ∷ 2 ∷ 3 ∷ []))) ∷ (w 6, live (line (3 ∷ 4 ∷ []))) ∷ []

in_street : fin.entries (fin.from_sorted {R = rank_cmp} street) ≡ street
in_street = fin.entries-from_sorted rank_cmp street tt

abbrev town : TableValue
town = table street 1

abbrev refused : Result Outcome Refusal → Option Refusal
refused (Ok new) = None
refused (Err r) = Some r

abbrev mine_in : Result Outcome Refusal → List (Key × Option Content)
mine_in (Ok new) = map (λ e. (e.0, mine_of e.1)) (fin.entries new.table.entries)
mine_in (Err r) = []

-- `tag w6,w5 Ta=1` and `delete w6,w5`: the objects are tested as given
tags_one_in_conflict : refused (set_tags town 9 (w 6 ∷ w 5 ∷ []) ((codes "a", codes "1") ∷ [])) ≡ Some (InConflict (w 5))
tags_one_in_conflict = simp (fin.get-entries, in_street) refl

deletes_one_in_conflict : refused (delete_all town (w 6 ∷ w 5 ∷ [])) ≡ Some (InConflict (w 5))
deletes_one_in_conflict = simp (fin.get-entries, in_street) refl

-- `move w6 0 0` would move its node n4
moves_one_in_conflict : refused (shift town 9 (w 6 ∷ []) (pos 0) (pos 0)) ≡ Some (InConflict (n 4))
unfolding place_at
moves_one_in_conflict = simp (fin.get-entries, in_street) refl

-- `erase n1` would mend w5
mends_one_in_conflict : refused (erase town 9 (n 1 ∷ [])) ≡ Some (InConflict (w 5))
mends_one_in_conflict = simp (fin.len-entries, fin.get-entries, fin.entries-insert {X = Entry} rank_total, in_street) refl

-- `purge n4` isn't refused by its user w6, since the conflict comes first
purges_one_in_conflict : refused (purge town (n 4 ∷ [])) ≡ Some (InConflict (n 4))
purges_one_in_conflict = simp (fin.get-entries, in_street) refl

-- `erase w6`: its node n3 has another user, and n4 is in conflict, so both stay
keeps_conflict : mine_in (erase town 9 (w 6 ∷ []))
    ≡ (n 1, Some (dot 1 refl)) ∷ (n 2, Some (dot 2 refl)) ∷ (n 3, Some (dot 3 refl)) ∷ (n 4, Some (dot 4 refl)) ∷ (w 5, Some (line (1 ∷ 2 ∷ 3 ∷ []))) ∷ (w 6, None) ∷ []
keeps_conflict = simp (fin.len-entries, fin.get-entries, fin.entries-insert {X = Entry} rank_total, in_street) refl
