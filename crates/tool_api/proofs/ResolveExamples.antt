-- Conflicts that are resolved: worked examples of the tests.
use Rattle.std.proofs.Common.{◌≡◌, ℕ, pos, [], ◌∷◌, Some, None, refl}
use Rattle.osm_base.specs.Content.{node}
use Rattle.osm_base.specs.Meta.{empty_meta}
use Rattle.osm_base.specs.declared.coord.Coord.{Coord}
use Rattle.osm_base.specs.declared.content.Content.{Content}
use Rattle.osm_base.specs.declared.content.Content.TheVariants as content
use Rattle.osm_base.specs.declared.key.Key.{Key}
use Rattle.osm_table.specs.declared.entry.Base.{Base}
use Rattle.osm_table.specs.declared.entry.Base.TheVariants.{Live, Gone}
use Rattle.osm_table.specs.declared.entry.Why.TheVariants.{Changed, Held, Withdrawn}
use Rattle.osm_table.specs.declared.entry.Entry.{Entry}
use Rattle.osm_table.specs.declared.entry.Entry.TheVariants.{Incomplete, Known}
use Rattle.merge_cases.specs.declared.choice.Choice.TheVariants as choice
use Rattle.merge_cases.specs.declared.choice.Side.TheVariants as side
use Rattle.tool_api.specs.declared.refusal.Refusal.TheVariants.{Absent, DeletedObject, Unfit, NoConflict, NotMixed, NotClashing}
use Rattle.tool_api.specs.Resolve.{choice_test, gone_test, settled_fit_test}

abbrev n1 : Key
n1 = node (pos 1)

abbrev here : Coord
here = record { lon = pos 0; lat = pos 0; on_map = refl }

-- a node with values of the tags `a` and `b`
abbrev dot : ℕ → ℕ → Content
dot a b = content.Node ((97 ∷ [], a ∷ []) ∷ (98 ∷ [], b ∷ []) ∷ []) here

abbrev base : Base
base = Live 1 (dot 1 1) empty_meta

-- both sides changed `a`, and theirs `b` too
abbrev disputed : Entry
disputed = Known base (Some (dot 2 1)) (Some (record { why = Changed; theirs = Live 2 (dot 5 9) empty_meta }))

-- deleted at the server and still referred to here
abbrev held : Entry
held = Known base (Some (dot 1 1)) (Some (record { why = Held; theirs = Gone 2 empty_meta }))

-- deleted here, and back under a newer way
abbrev withdrawn : Entry
withdrawn = Known base (Some (dot 1 1)) (Some (record { why = Withdrawn; theirs = base }))

not_in_conflict : (choice_test choice.Mine n1 None ≡ Some (Absent n1))
    × (choice_test choice.Mine n1 (Some Incomplete) ≡ Some (NoConflict n1))
    × (choice_test choice.Theirs n1 (Some (Known base (Some (dot 1 1)) None)) ≡ Some (NoConflict n1))
not_in_conflict = (refl, refl, refl)

-- mine and theirs settle every conflict, a mix only where both sides changed the object
mixes : (choice_test choice.Mine n1 (Some withdrawn) ≡ None)
    × (choice_test choice.Theirs n1 (Some held) ≡ None)
    × (choice_test (choice.Mix side.Mine side.Theirs) n1 (Some held) ≡ Some (NotMixed n1))
    × (choice_test (choice.Mix side.Mine side.Theirs) n1 (Some disputed) ≡ None)
mixes = (refl, refl, refl, refl)

-- a listed key has to be of a tag that both sides changed
parts : (choice_test (choice.Parts side.Mine ((98 ∷ []) ∷ [])) n1 (Some disputed) ≡ Some (NotClashing (98 ∷ [])))
    × (choice_test (choice.Parts side.Mine ((97 ∷ []) ∷ [])) n1 (Some disputed) ≡ None)
    × (choice_test (choice.Parts side.Mine []) n1 (Some withdrawn) ≡ Some (NotMixed n1))
parts = (refl, refl, refl)

-- what isn't known may be referred to, what is deleted may not
references : (gone_test n1 None ≡ None)
    × (gone_test n1 (Some Incomplete) ≡ None)
    × (gone_test n1 (Some (Known base None None)) ≡ Some (DeletedObject n1))
references = (refl, refl, refl)

-- a way without references doesn't fit, unless the server has it so
abbrev empty_way : Content
empty_way = content.Way [] []

limits : (settled_fit_test n1 (Some (Known base (Some empty_way) None)) ≡ Some (Unfit n1))
    × (settled_fit_test n1 (Some (Known (Live 2 empty_way empty_meta) (Some empty_way) None)) ≡ None)
limits = (refl, refl)
