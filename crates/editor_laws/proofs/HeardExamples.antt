-- Worked examples of what is heard of others' changes, and of what isn't.
use Rattle.std.proofs.Common.{◌≡◌, pos, true, false, is_some, [], ◌∷◌, Some, None, refl, sym, ap, subst}
use Rattle.std.proofs.lemmas.Bool.{true≢false}
use Rattle.osm_base.specs.Content.{tags_of}
use Rattle.osm_base.specs.Meta.{empty_meta}
use Rattle.osm_base.specs.Same.{same_content}
use Rattle.osm_base.specs.Tags.{value_of}
use Rattle.osm_base.specs.declared.coord.Coord.{Coord}
use Rattle.osm_base.specs.declared.content.Content.{Content}
use Rattle.osm_base.specs.declared.content.Content.TheVariants.{Node}
use Rattle.osm_table.specs.declared.entry.Base.{Base}
use Rattle.osm_table.specs.declared.entry.Base.TheVariants.{Live, Gone}
use Rattle.osm_table.specs.declared.entry.Why.TheVariants.{Changed, Held}
use Rattle.osm_table.specs.declared.entry.Entry.TheVariants.{Incomplete, Known}
use Rattle.editor_laws.specs.Heard.{HasChanges, IsHeard}
use Rattle.editor_laws.specs.Parts.{KeepsParts}

abbrev here : Coord
here = record { lon = pos 0; lat = pos 0; on_map = refl }

abbrev east : Coord
east = record { lon = pos 3; lat = pos 0; on_map = refl }

abbrev north : Coord
north = record { lon = pos 0; lat = pos 5; on_map = refl }

-- n1 stood here, was moved to the east by the mapper, and by others to the north in version 2
abbrev before : Content
before = Node [] here

abbrev mine : Content
mine = Node [] east

abbrev theirs : Content
theirs = Node [] north

abbrev version_2 : Base
version_2 = Live 2 theirs empty_meta

-- Both stand in a conflict: theirs is heard.
disputed : IsHeard version_2 (Some before) (Some (Known (Live 1 before empty_meta) (Some mine) (Some (record { why = Changed; theirs = version_2 }))))
disputed = refl

-- Their version as the base, mine as it was and no conflict: the next upload would take their move back, and nobody heard of it.
rebased : IsHeard version_2 (Some before) (Some (Known version_2 (Some mine) None)) → ⊥
rebased h =
    let has : HasChanges (Some theirs) (Some before) (Some mine) = h.1 in
    let same : has.0 ≡ mine = (let i : Some mine ≡ Some has.0 = has.1 in cc) in
    let kept : KeepsParts before theirs mine = subst (KeepsParts before theirs) same has.2 in
    let moved : mine ≡ theirs = kept.body refl in
    true≢false (ap (same_content mine) moved)

-- So it is where a part of theirs alone is dropped: they named it `a=2` and moved it, and the name isn't there.
abbrev named : Content
named = Node ((97 ∷ [], 50 ∷ []) ∷ []) north

half : IsHeard (Live 2 named empty_meta) (Some before) (Some (Known (Live 2 named empty_meta) (Some theirs) None)) → ⊥
half h =
    let has : HasChanges (Some named) (Some before) (Some theirs) = h.1 in
    let same : has.0 ≡ theirs = (let i : Some theirs ≡ Some has.0 = has.1 in cc) in
    let kept : KeepsParts before named theirs = subst (KeepsParts before named) same has.2 in
    let none : value_of (tags_of theirs) (97 ∷ []) ≡ value_of (tags_of named) (97 ∷ []) = kept.tags (97 ∷ []) (λ e. let some : Some (50 ∷ []) ≡ None = e in cc) in
    true≢false (ap is_some (sym none))

-- What they deleted may stand as a conflict, may be gone, and may be known by its name alone; it can't live on with their version as its base.
held_on : IsHeard (Gone 2 empty_meta) (Some before) (Some (Known (Live 1 before empty_meta) (Some before) (Some (record { why = Held; theirs = Gone 2 empty_meta }))))
held_on = refl

gone : IsHeard (Gone 2 empty_meta) (Some before) (Some (Known (Gone 2 empty_meta) None None))
gone = (refl, refl)

named_alone : IsHeard (Gone 2 empty_meta) (Some before) (Some Incomplete)
named_alone = refl

lives_on : IsHeard (Gone 2 empty_meta) (Some before) (Some (Known (Gone 2 empty_meta) (Some before) None)) → ⊥
lives_on h = let none : Some before ≡ None = h.1 in cc

-- An old version that stays as it is isn't heard.
unheard : IsHeard version_2 (Some before) (Some (Known (Live 1 before empty_meta) (Some before) None)) → ⊥
unheard h = let i : Live 1 before empty_meta ≡ version_2 = h.0 in cc
