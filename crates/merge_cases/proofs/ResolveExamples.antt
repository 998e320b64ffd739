-- Worked examples, on which the definitions compute.
use Rattle.std.proofs.Common.{◌≡◌, ℕ, pos, true, false, [], ◌∷◌, Some, None, refl}
use Rattle.osm_base.specs.Meta.{empty_meta}
use Rattle.osm_base.specs.declared.coord.Coord.{Coord}
use Rattle.osm_base.specs.declared.content.Content.{Content}
use Rattle.osm_base.specs.declared.content.Content.TheVariants.{Node}
use Rattle.osm_table.specs.declared.entry.Base.{Base}
use Rattle.osm_table.specs.declared.entry.Base.TheVariants.{Live, Gone}
use Rattle.osm_table.specs.declared.entry.Why.TheVariants.{Changed, Held, Withdrawn}
use Rattle.osm_table.specs.declared.entry.Conflict.{Conflict}
use Rattle.osm_table.specs.declared.entry.Entry.{Entry}
use Rattle.osm_table.specs.declared.entry.Entry.TheVariants.{Incomplete, Known}
use Rattle.merge_cases.specs.declared.choice.Side.TheVariants as side
use Rattle.merge_cases.specs.declared.choice.Choice.TheVariants as choice
use Rattle.merge_cases.specs.Resolve.{resolved, can_choose, unclashing}

abbrev here : Coord
here = record { lon = pos 0; lat = pos 0; on_map = refl }

abbrev there : Coord
there = record { lon = pos 1; lat = pos 0; on_map = refl }

abbrev elsewhere : Coord
elsewhere = record { lon = pos 2; lat = pos 0; on_map = refl }

-- a node with values of the tags `a` and `b`
abbrev dot : ℕ → ℕ → Coord → Content
dot a b at = Node ((97 ∷ [], a ∷ []) ∷ (98 ∷ [], b ∷ []) ∷ []) at

-- both sides changed `a`; only theirs changed `b` and the place
abbrev old : Content
old = dot 1 1 here

abbrev mine : Content
mine = dot 2 1 here

abbrev theirs : Content
theirs = dot 5 9 there

abbrev base : Base
base = Live 1 old empty_meta

abbrev newer : Base
newer = Live 2 theirs empty_meta

abbrev deleted : Base
deleted = Gone 2 empty_meta

abbrev changed : Conflict
changed = record { why = Changed; theirs = newer }

abbrev entry : Entry
entry = Known base (Some mine) (Some changed)

abbrev held : Entry
held = Known base (Some old) (Some (record { why = Held; theirs = deleted }))

abbrev back : Entry
back = Known base (Some old) (Some (record { why = Withdrawn; theirs = base }))

one_side : (resolved choice.Mine entry ≡ Known newer (Some mine) None) × (resolved choice.Theirs entry ≡ Known newer (Some theirs) None)
one_side = (refl, refl)

-- mine keeps what the server deleted, to be made again by the upload; theirs deletes it here
at_server_deleted : (resolved choice.Mine held ≡ Known deleted (Some old) None) × (resolved choice.Theirs held ≡ Known deleted None None)
at_server_deleted = (refl, refl)

-- of an object that came back mine is that it is deleted
came_back : (resolved choice.Mine back ≡ Known base None None) × (resolved choice.Theirs back ≡ Known base (Some old) None)
came_back = (refl, refl)

mix : (resolved (choice.Mix side.Mine side.Theirs) entry ≡ Known newer (Some (dot 2 1 there)) None) × (resolved (choice.Mix side.Theirs side.Mine) entry ≡ Known newer (Some (dot 5 9 here)) None)
mix = (refl, refl)

-- only a tag that both changed goes by the list, here `a`: `b` is theirs in any case
tags_in_parts : (resolved (choice.Parts side.Mine []) entry ≡ Known newer (Some (dot 2 9 there)) None) × (resolved (choice.Parts side.Mine ((97 ∷ []) ∷ [])) entry ≡ Known newer (Some (dot 5 9 there)) None)
tags_in_parts = (refl, refl)

-- a tag that mine took away and theirs changed stays away, or comes back with theirs where it is listed
taken_away : (resolved (choice.Parts side.Mine []) (Known base (Some (Node ((98 ∷ [], 1 ∷ []) ∷ []) here)) (Some changed)) ≡ Known newer (Some (Node ((98 ∷ [], 9 ∷ []) ∷ []) there)) None)
    × (resolved (choice.Parts side.Mine ((97 ∷ []) ∷ [])) (Known base (Some (Node ((98 ∷ [], 1 ∷ []) ∷ []) here)) (Some changed)) ≡ Known newer (Some (dot 5 9 there)) None)
taken_away = (refl, refl)

-- a place that both changed is that of the side named
body_in_parts : (resolved (choice.Parts side.Mine []) (Known base (Some (dot 1 1 elsewhere)) (Some changed)) ≡ Known newer (Some (dot 5 9 elsewhere)) None)
    × (resolved (choice.Parts side.Theirs []) (Known base (Some (dot 1 1 elsewhere)) (Some changed)) ≡ Known newer (Some (dot 5 9 there)) None)
body_in_parts = (refl, refl)

not_clashing : (unclashing ((97 ∷ []) ∷ (98 ∷ []) ∷ (99 ∷ []) ∷ []) old mine theirs ≡ Some (98 ∷ []))
    × (unclashing ((97 ∷ []) ∷ []) old mine theirs ≡ None)
not_clashing = (refl, refl)

-- a mix needs both sides, parts the base too
choices : (can_choose (choice.Mix side.Mine side.Theirs) base (Some mine) changed ≡ true)
    × (can_choose (choice.Mix side.Mine side.Theirs) base None changed ≡ false)
    × (can_choose (choice.Mix side.Mine side.Theirs) base (Some old) (record { why = Held; theirs = deleted }) ≡ false)
    × (can_choose (choice.Parts side.Mine []) base (Some mine) changed ≡ true)
    × (can_choose (choice.Parts side.Mine []) deleted (Some mine) (record { why = Changed; theirs = Live 3 theirs empty_meta }) ≡ false)
choices = (refl, refl, refl, refl, refl)

untouched : (resolved choice.Theirs Incomplete ≡ Incomplete) × (resolved choice.Theirs (Known base (Some mine) None) ≡ Known base (Some mine) None)
untouched = (refl, refl)
