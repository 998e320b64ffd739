-- Worked examples, on which the definitions compute.
use Rattle.std.proofs.Common.{◌≡◌, pos, negsuc, Bool, true, false, List, [], ◌∷◌, Option, Some, None, refl, sym, ap}
use mathlib.Core.Logic.{inl, inr}
use Rattle.std.proofs.lemmas.Bool.{true≢false}
use Rattle.std.specs.FinMap as fin
use Rattle.osm_base.specs.Rank.{rank_cmp}
use Rattle.osm_base.specs.Content.{node}
use Rattle.osm_base.specs.Meta.{empty_meta}
use Rattle.osm_base.specs.Same.{same_content}
use Rattle.osm_base.specs.declared.content.Content.{Content}
use Rattle.osm_base.specs.declared.content.Content.TheVariants as content
use Rattle.osm_base.specs.declared.key.Key.{Key}
use Rattle.osm_base.specs.declared.key.Kind.TheVariants as kind
use Rattle.osm_table.specs.declared.entry.Base.TheVariants.{Live, New}
use Rattle.osm_table.specs.declared.entry.Conflict.{Conflict}
use Rattle.osm_table.specs.declared.entry.Why.TheVariants.{Changed, Held, Withdrawn}
use Rattle.osm_table.specs.declared.entry.Entry.{Entry}
use Rattle.osm_table.specs.declared.entry.Entry.TheVariants.{Incomplete, Known}
use Rattle.osm_table.specs.declared.told.Told.TheVariants as told
use Rattle.osm_table.specs.Table.{TableValue, held_by}
use Rattle.tool_api.specs.declared.job.Job.TheVariants as job
use Rattle.tool_api.specs.declared.refusal.Refusal.{Refusal}
use Rattle.tool_api.specs.declared.reply.Reply.TheVariants as reply
use Rattle.edit_history.specs.declared.counts.Group.TheVariants.{Outside, Running}
use Rattle.edit_history.specs.declared.edit_step.EditStep.TheVariants.{Undo}
use Rattle.edit_history.specs.Machine.{State}
use Rattle.upload_order.specs.declared.change.Change.TheVariants.{Create, Modify}
use Rattle.editor_laws.specs.Answered.{called_then}
use Rattle.editor_laws.specs.Kept.{wish, is_edited, Keeps}
use Rattle.editor_laws.specs.Listed.{lists}
use Rattle.editor_laws.specs.Steps.{gives_up, says}

abbrev first_place : Content
first_place = content.Node [] (record { lon = pos 0; lat = pos 0; on_map = refl })

abbrev to_the_east : Content
to_the_east = content.Node [] (record { lon = pos 3; lat = pos 0; on_map = refl })

abbrev to_the_north : Content
to_the_north = content.Node [] (record { lon = pos 0; lat = pos 5; on_map = refl })

-- n1 in version 1, moved here to the east
abbrev moved : Entry
moved = Known (Live 1 first_place empty_meta) (Some to_the_east) None

-- Both sides made that move, as is told: the base is newer, and the content stays.
both_moved : Keeps (Some (told.Live 2 to_the_east empty_meta)) moved (Some (Known (Live 2 to_the_east empty_meta) (Some to_the_east) None))
both_moved = inr (inr (refl, refl, refl))

-- The server moved it to the north, and it is in conflict: the edit is kept.
abbrev north_conflict : Conflict
north_conflict = record { why = Changed; theirs = Live 2 to_the_north empty_meta }

abbrev disputed : Entry
disputed = Known (Live 1 first_place empty_meta) (Some to_the_east) (Some north_conflict)

in_conflict : Keeps (Some (told.Live 2 to_the_north empty_meta)) moved (Some disputed)
in_conflict = inl (refl, refl, (inl refl, inr refl))

-- What the server has in the place of mine keeps nothing, and neither does an object that isn't there any more.
abbrev is_east : Option Content → Bool
is_east None = false
is_east (Some c) = same_content to_the_east c

not_east : Some to_the_north ≡ Some to_the_east → ⊥
not_east same = true≢false (sym (ap is_east same))

taken_over : Keeps (Some (told.Live 2 to_the_north empty_meta)) moved (Some (Known (Live 2 to_the_north empty_meta) (Some to_the_north) None)) → ⊥
taken_over (inl kept) = true≢false (sym kept.0)
taken_over (inr (inl joined)) = let none : Some to_the_north ≡ None = joined.2 in cc
taken_over (inr (inr same)) = not_east same.1

thrown_away : Keeps None moved None → ⊥
thrown_away (inl kept) = kept
thrown_away (inr (inl joined)) = joined
thrown_away (inr (inr there)) = there

-- Where another step, of which nothing is told, makes mine the base, no upload sends it: that keeps nothing.
made_the_base : Keeps None moved (Some (Known (Live 1 to_the_east empty_meta) (Some to_the_east) None)) → ⊥
made_the_base (inl kept) = true≢false (sym kept.0)
made_the_base (inr (inl joined)) = joined.0
made_the_base (inr (inr there)) = there.0

-- So it is where a download tells something else of it, of the very version,
made_the_told_base : Keeps (Some (told.Live 2 to_the_north empty_meta)) moved (Some (Known (Live 2 to_the_east empty_meta) (Some to_the_east) None)) → ⊥
made_the_told_base (inl kept) = true≢false (sym kept.0)
made_the_told_base (inr (inl joined)) = not_east (ap held_by joined.0)
made_the_told_base (inr (inr there)) = not_east (ap held_by there.0)

-- where both made the move and the table says that it is deleted,
deleted_after_all : Keeps (Some (told.Live 2 to_the_east empty_meta)) moved (Some (Known (Live 2 to_the_east empty_meta) None None)) → ⊥
deleted_after_all (inl kept) = let none : None ≡ Some to_the_east = kept.1 in cc
deleted_after_all (inr (inl joined)) = true≢false (sym joined.1)
deleted_after_all (inr (inr there)) = let none : None ≡ Some to_the_east = there.2 in cc

-- where it has no base any more, so that it would be made anew,
made_anew : Keeps None moved (Some (Known New (Some to_the_east) None)) → ⊥
made_anew (inl kept) = let other : Some (Live 1 first_place empty_meta) ≡ Some New = kept.2.0 in cc
made_anew (inr (inl joined)) = joined.0
made_anew (inr (inr there)) = there.0

-- and where a conflict is gone with the base of theirs, so that an upload would take their move back.
settled_unasked : Keeps None disputed (Some (Known (Live 2 to_the_north empty_meta) (Some to_the_east) None)) → ⊥
settled_unasked (inl kept) = let other : Some north_conflict ≡ None = kept.2.1 in cc
settled_unasked (inr (inl joined)) = joined.0
settled_unasked (inr (inr there)) = there.0

-- Deleted here. Where it is known by its name alone it is forgotten, unless it is told of as deleted.
abbrev deleted : Entry
deleted = Known (Live 1 first_place empty_meta) None None

forgotten : Keeps None deleted (Some Incomplete) → ⊥
forgotten (inl kept) = kept
forgotten (inr (inl joined)) = joined
forgotten (inr (inr there)) = true≢false (sym there.1)

both_deleted : Keeps (Some (told.Gone 2 empty_meta)) deleted (Some Incomplete)
both_deleted = inr (inr (refl, refl))

-- Deleted here, and back since something told refers to it: it is edited, and wanted gone.
abbrev came_back : Entry
came_back = Known (Live 1 first_place empty_meta) (Some first_place) (Some (record { why = Withdrawn; theirs = Live 1 first_place empty_meta }))

back_is_edited : is_edited came_back ≡ true
back_is_edited = refl

wanted_gone : wish (Some came_back) ≡ None
wanted_gone = refl

-- A conflict alone is no edit: mine is what the base is.
held_alone : is_edited (Known (Live 1 first_place empty_meta) (Some first_place) (Some (record { why = Held; theirs = Live 2 to_the_north empty_meta }))) ≡ false
held_alone = refl

-- w5 by n1 and n2, and n9, which stands alone
abbrev w5 : Key
w5 = record { kind = kind.Way; id = pos 5 }

abbrev entries : List (Key × Entry)
entries =
    (node (pos 1), moved)
    ∷ (node (pos 2), Known (Live 1 first_place empty_meta) (Some first_place) None)
    ∷ (node (pos 9), Known (Live 1 first_place empty_meta) (Some first_place) None)
    ∷ (w5, Known (Live 1 (content.Way [] (pos 1 ∷ pos 2 ∷ [])) empty_meta) (Some (content.Way [] (pos 1 ∷ pos 2 ∷ []))) None)
    ∷ []

abbrev town : TableValue
town = record { entries = fin.from_sorted entries; next = 1 }

listed : fin.entries town.entries ≡ entries
listed = fin.entries-from_sorted rank_cmp entries tt

-- `fuse n9,n1` lists the way that refers to n1, and `delete n1` doesn't.
fuse_lists_users : lists (job.Fuse (node (pos 9) ∷ node (pos 1) ∷ [])) town w5 ≡ true
fuse_lists_users = simp (fin.get-entries, listed) refl

delete_lists_the_node : lists (job.Delete (node (pos 1) ∷ [])) town w5 ≡ false
delete_lists_the_node = refl

-- A job that is refused in a group says that it changes all, since the group is given up; outside of one it says nothing.
in_a_group : (why : Refusal) → gives_up (reply.Refused why) Running ≡ true
in_a_group why = refl

alone : (why : Refusal) → gives_up (reply.Refused why) Outside ≡ false
alone why = refl

goes_back : (s : State) (k : Key) → says 9 (Undo 1) s k ≡ true
goes_back s k = refl

-- n-1 was made and got the id 50; n1 keeps its name.
new_name : called_then (Create (node (negsuc 0)) first_place) (pos 50) (node (negsuc 0)) ≡ node (pos 50)
new_name = refl

old_name : called_then (Create (node (negsuc 0)) first_place) (pos 50) (node (pos 1)) ≡ node (pos 1)
old_name = refl

changed_name : called_then (Modify (node (pos 1)) 1 to_the_east) (pos 0) (node (pos 1)) ≡ node (pos 1)
changed_name = refl
