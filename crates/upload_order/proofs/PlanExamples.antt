-- A worked example of a whole plan.
use Rattle.std.proofs.Common.{◌≡◌, ℤ, pos, negsuc, List, [], ◌∷◌, Some, None, Ok, refl}
use Rattle.std.specs.FinMap as fin
use Rattle.osm_base.specs.Rank.{rank_cmp}
use Rattle.osm_base.specs.Content.{node}
use Rattle.osm_base.specs.Meta.{empty_meta}
use Rattle.osm_base.specs.declared.content.Content.{Content}
use Rattle.osm_base.specs.declared.content.Content.TheVariants as content
use Rattle.osm_base.specs.declared.key.Kind.TheVariants as kind
use Rattle.osm_base.specs.declared.key.Key.{Key}
use Rattle.osm_table.specs.declared.entry.Base.TheVariants.{New, Live, Gone}
use Rattle.osm_table.specs.declared.entry.Entry.{Entry}
use Rattle.osm_table.specs.declared.entry.Entry.TheVariants.{Known}
use Rattle.osm_table.specs.Table.{TableValue}
use Rattle.upload_order.specs.declared.change.Change.{Change}
use Rattle.upload_order.specs.declared.change.Change.TheVariants.{Create, Modify, Delete}
use Rattle.upload_order.specs.Plan.{empty_relation, plan}
use Rattle.upload_order.specs.Refused.{upload}

abbrev way : ℤ → Key
way id = record { kind = kind.Way; id = id }

abbrev relation : ℤ → Key
relation id = record { kind = kind.Relation; id = id }

abbrev here : Content
here = content.Node [] (record { lon = pos 0; lat = pos 0; on_map = refl })

abbrev to_the_east : Content
to_the_east = content.Node [] (record { lon = pos 3; lat = pos 0; on_map = refl })

abbrev line : List ℤ → Content
line ids = content.Way [] ids

abbrev of_relation : ℤ → Content
of_relation id = content.Relation [] (record { key = relation id; role = [] } ∷ [])

-- n1 was moved, n3 and w6 deleted, n4 came back that the server has as deleted, w-1 is new, and of r1 and r2, which refer to
-- each other, both were deleted.
abbrev entries : List (Key × Entry)
entries =
    (node (pos 1), Known (Live 1 here empty_meta) (Some to_the_east) None)
    ∷ (node (pos 3), Known (Live 1 here empty_meta) None None)
    ∷ (node (pos 4), Known (Gone 2 empty_meta) (Some here) None)
    ∷ (way (pos 6), Known (Live 1 (line (pos 1 ∷ pos 3 ∷ [])) empty_meta) None None)
    ∷ (way (negsuc 0), Known New (Some (line (pos 1 ∷ pos 4 ∷ []))) None)
    ∷ (relation (pos 1), Known (Live 3 (of_relation (pos 2)) empty_meta) None None)
    ∷ (relation (pos 2), Known (Live 4 (of_relation (pos 1)) empty_meta) None None)
    ∷ []

abbrev town : TableValue
town = record { entries = fin.from_sorted entries; next = 2 }

listed : fin.entries town.entries ≡ entries
listed = fin.entries-from_sorted rank_cmp entries tt

-- First n4 comes back, in the version after the one in which it was deleted, and w-1 is made, which refers to it; then n1 is
-- moved. Then r1 is emptied, so that r2 can go, and goes in the version that this left; at last what nothing uses any more.
abbrev changes : List Change
changes =
    Modify (node (pos 4)) 2 here
    ∷ Create (way (negsuc 0)) (line (pos 1 ∷ pos 4 ∷ []))
    ∷ Modify (node (pos 1)) 1 to_the_east
    ∷ Modify (relation (pos 1)) 3 empty_relation
    ∷ Delete (relation (pos 2)) 4
    ∷ Delete (relation (pos 1)) 4
    ∷ Delete (way (pos 6)) 1
    ∷ Delete (node (pos 3)) 1
    ∷ []

whole_plan : plan town ≡ changes
whole_plan = simp (fin.get-entries, listed) refl

-- and nothing refuses it
sent : upload town ≡ Ok changes
sent = simp (fin.get-entries, listed) refl
