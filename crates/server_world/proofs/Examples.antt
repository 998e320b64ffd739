-- Worked examples: rehearsals that are refused, and a server that an upload may meet.
use Rattle.std.proofs.Common.{◌≡◌, ℤ, pos, negsuc, false, List, [], ◌∷◌, length, Some, None, refl, sym, ◌∙◌, ap, inr, arith}
use Rattle.std.specs.Prelude.{flat_map}
use Rattle.std.specs.FinMap as fin
use Rattle.osm_base.specs.Rank.{rank_cmp}
use Rattle.osm_base.specs.RankLaws.{rank_total}
use Rattle.osm_base.specs.Content.{node}
use Rattle.osm_base.specs.Meta.{empty_meta}
use Rattle.osm_base.specs.declared.content.Content.{Content}
use Rattle.osm_base.specs.declared.content.Content.TheVariants as content
use Rattle.osm_base.specs.declared.key.Kind.TheVariants as kind
use Rattle.osm_base.specs.declared.key.Key.{Key}
use Rattle.osm_table.specs.declared.entry.Base.TheVariants.{Live}
use Rattle.osm_table.specs.declared.entry.Entry.{Entry}
use Rattle.osm_table.specs.declared.entry.Entry.TheVariants.{Known}
use Rattle.osm_table.specs.Table.{TableValue}
use Rattle.upload_order.specs.declared.change.Change.{Change}
use Rattle.upload_order.specs.declared.change.Change.TheVariants.{Create, Modify, Delete}
use Rattle.upload_order.specs.World.{World, WorldEntry, refusal}
use Rattle.upload_order.specs.declared.world.WorldRefusal.TheVariants.{OldVersion, BadRef, Used}
use Rattle.server_world.specs.declared.rehearsal.Rehearsal.TheVariants.{Accepted, Refused}
use Rattle.server_world.specs.Bases.{standing, keys_told, at_key, of_bases}
use Rattle.server_world.specs.Free.{is_taken, free_id}
use Rattle.server_world.specs.Rehearsed.{unless_refused, rehearsed}
use Rattle.server_world.specs.Unsound.{first_unsound}
use Rattle.server_world.proofs.Freeness.{first_start, free_found}

abbrev way : ℤ → Key
way id = record { kind = kind.Way; id = id }

abbrev here : Content
here = content.Node [] (record { lon = pos 0; lat = pos 0; on_map = refl })

abbrev line : Content
line = content.Way [] (pos 1 ∷ pos 2 ∷ [])

-- n1, n2 and w5 along them, as they were downloaded
abbrev live : Key → Content → Key × Entry
live k c = (k, Known (Live 1 c empty_meta) (Some c) None)

abbrev entries : List (Key × Entry)
entries = live (node (pos 1)) here ∷ live (node (pos 2)) here ∷ live (way (pos 5)) line ∷ []

abbrev town : TableValue
town = record { entries = fin.from_sorted entries; next = 1 }

listed : fin.entries town.entries ≡ entries
listed = fin.entries-from_sorted rank_cmp entries tt

none_of_none : (es : List (Key × WorldEntry)) → length es ≡ 0 → es ≡ []
none_of_none [] h = refl
none_of_none (e ∷ es) h = absurd (omega (arith, h))

no_objects : fin.entries (fin.empty {X = WorldEntry} {R = rank_cmp}) ≡ []
no_objects = none_of_none _ (sym (fin.len-entries fin.empty) ∙ fin.len-empty rank_cmp WorldEntry)

abbrev stood : Key → Content → Key × WorldEntry
stood k c = (k, record { version = 1; content = Some c })

-- The server of these bases: what stands of each key of the table, and of each to which a base refers.
abbrev told : List (Key × WorldEntry)
told = stood (node (pos 1)) here ∷ stood (node (pos 2)) here ∷ stood (way (pos 5)) line ∷ stood (node (pos 1)) here ∷ stood (node (pos 2)) here ∷ []

told_is : flat_map (λ k. at_key k (standing town k)) (keys_told town) ≡ told
told_is = simp (fin.get-entries, listed) refl

abbrev server_of : List (Key × WorldEntry) → World
server_of es = record { entries = fin.from_entries es; names = [] }

server_is : of_bases town ≡ server_of told
server_is = ap server_of told_is

-- `modify n1 v2`: the server has version 1.
old_version : rehearsed town 0 (of_bases town) (Modify (node (pos 1)) 2 here ∷ []) ≡ Refused 1 (OldVersion 1)
old_version =
    ap (λ (w : World). rehearsed town 0 w (Modify (node (pos 1)) 2 here ∷ [])) server_is
    ∙ simp (fin.get-entries, fin.entries-insert {X = WorldEntry} rank_total, no_objects, listed) refl

-- `delete n2 v1`: w5 refers to it.
used : rehearsed town 0 (of_bases town) (Delete (node (pos 2)) 1 ∷ []) ≡ Refused 1 (Used (way (pos 5)))
used =
    ap (λ (w : World). rehearsed town 0 w (Delete (node (pos 2)) 1 ∷ [])) server_is
    ∙ simp (fin.get-entries, fin.entries-insert {X = WorldEntry} rank_total, no_objects, listed) refl

-- `create w-1` along n-9: no such node was made. It would be w1, the least that is free.
abbrev new_way : Change
new_way = Create (way (negsuc 0)) (content.Way [] (negsuc 8 ∷ []))

not_taken : is_taken (of_bases town) town kind.Way 1 ≡ false
not_taken =
    ap (λ (w : World). is_taken w town kind.Way 1) server_is
    ∙ simp (fin.get-entries, fin.entries-insert {X = WorldEntry} rank_total, no_objects, listed) refl

w1_is_free : pos 1 ≡ free_id (of_bases town) town kind.Way
w1_is_free = free_found (of_bases town) town kind.Way 1 (first_start (of_bases town) town kind.Way) (inr not_taken)

bad_reference : rehearsed town 0 (of_bases town) (new_way ∷ []) ≡ Refused 1 (BadRef (node (negsuc 8)))
bad_reference =
    ap (λ (id : ℤ). unless_refused (refusal (of_bases town) new_way id) 1 (Accepted 1)) (sym w1_is_free)
    ∙ ap (λ (w : World). unless_refused (refusal w new_way (pos 1)) 1 (Accepted 1)) server_is
    ∙ simp (fin.get-entries, fin.entries-insert {X = WorldEntry} rank_total, no_objects, listed) refl

-- Each object refers to what is there, so the promises of uploads speak of this server.
sound : first_unsound (of_bases town) ≡ None
sound = ap first_unsound server_is ∙ simp (fin.get-entries, fin.entries-insert {X = WorldEntry} rank_total, no_objects, listed) refl
