-- Steps in their places, and one more.
use Rattle.std.proofs.Common.{◌≡◌, Bool, true, false, List, [], ◌∷◌, ◌++◌, refl, sym, subst, drop, ◌&&◌}
use Rattle.std.proofs.lemmas.Bool.{and_parts}
use Rattle.edit_script.specs.declared.place.Place.{Place}
use Rattle.edit_script.specs.declared.place.Place.TheVariants.{Start, Script, Meeting}
use Rattle.edit_script.specs.declared.step.Act.{Act}
use Rattle.edit_script.specs.declared.step.Act.TheVariants.{Serve}
use Rattle.edit_script.specs.declared.step.Step.{Step}
use Rattle.edit_script.specs.Order.{may_stand, inside_after, IsMeant, IsOrderly}
use Rattle.edit_script.specs.Place.{begins_meeting, is_meeting, belongs, AllBelong, may_stand_at, place_after}

-- each act is meant and may stand where it does; the first stands there
abbrev pub IsPlaced : Place → List Step → Type 0
IsPlaced place [] = Unit {0}
IsPlaced place (step ∷ steps) = IsMeant step.act × (may_stand_at place step.act ≡ true) × IsPlaced (place_after place step.act) steps

-- where what follows the steps stands
abbrev pub place_behind : Place → List Step → Place
place_behind place [] = place
place_behind place (step ∷ steps) = place_behind (place_after place step.act) steps

pub place_behind-more : (place : Place) (steps : List Step) (step : Step) → place_behind place (steps ++ step ∷ []) ≡ place_after (place_behind place steps) step.act
place_behind-more place [] step = refl
place_behind-more place (first ∷ steps) step = place_behind-more (place_after place first.act) steps step

pub placed-more : (place : Place) (steps : List Step) (step : Step) → IsPlaced place steps → IsMeant step.act → may_stand_at (place_behind place steps) step.act ≡ true → IsPlaced place (steps ++ step ∷ [])
placed-more place [] step all meant stands = (meant, stands, tt)
placed-more place (first ∷ steps) step all meant stands = (all.0, all.1, placed-more (place_after place first.act) steps step all.2 meant stands)

-- what steps of a script give, inside a group or outside
abbrev Gives : (in_meeting is_inside : Bool) → List Step → Type 0
Gives in_meeting is_inside steps = IsOrderly is_inside steps × AllBelong in_meeting steps

-- one step before them
gives-more : (in_meeting is_inside : Bool) (step : Step) (steps : List Step) → IsMeant step.act → belongs in_meeting step.act && may_stand is_inside step.act ≡ true → Gives in_meeting (inside_after is_inside step.act) steps → Gives in_meeting is_inside (step ∷ steps)
gives-more in_meeting is_inside step steps meant stands rest =
    let tests = and_parts (belongs in_meeting step.act) (may_stand is_inside step.act) stands in
    ((meant, tests.1, rest.0), (tests.0, rest.1))

script_gives : (is_inside : Bool) (steps : List Step) → IsPlaced (Script is_inside) steps → Gives false is_inside steps
script_gives is_inside [] all = (tt, tt)
script_gives is_inside (step ∷ steps) all = gives-more false is_inside step steps all.0 all.1 (script_gives (inside_after is_inside step.act) steps all.2)

meeting_gives : (is_inside : Bool) (steps : List Step) → IsPlaced (Meeting is_inside) steps → Gives true is_inside steps
meeting_gives is_inside [] all = (tt, tt)
meeting_gives is_inside (step ∷ steps) all = gives-more true is_inside step steps all.0 all.1 (meeting_gives (inside_after is_inside step.act) steps all.2)

-- `serve` stands outside groups, and begins none
serve_outside : (act : Act) → begins_meeting act ≡ true → (may_stand false act ≡ true) × (inside_after false act ≡ false)
serve_outside (Serve name) begins = (refl, refl)
serve_outside act begins = absurd cc

meeting_behind : (step : Step) (steps : List Step) → begins_meeting step.act ≡ true → IsPlaced Start (step ∷ steps) → Gives true false steps
meeting_behind step steps begins all = meeting_gives false steps (rw begins at all.2)

script_from : (step : Step) (steps : List Step) → begins_meeting step.act ≡ false → IsPlaced Start (step ∷ steps) → Gives false false (step ∷ steps)
script_from step steps begins all = gives-more false false step steps all.0 (rw begins at all.1) (script_gives (inside_after false step.act) steps (rw begins at all.2))

orderly_by : (step : Step) (steps : List Step) (begins : Bool) → begins_meeting step.act ≡ begins → IsPlaced Start (step ∷ steps) → IsOrderly false (step ∷ steps)
orderly_by step steps true begins all =
    let outside = serve_outside step.act begins in
    (all.0, outside.0, subst (λ is_inside. IsOrderly is_inside steps) (sym outside.1) (meeting_behind step steps begins all).0)
orderly_by step steps false begins all = (script_from step steps begins all).0

-- Steps in their places keep the order of groups.
pub placed_orderly : (steps : List Step) → IsPlaced Start steps → IsOrderly false steps
placed_orderly [] all = tt
placed_orderly (step ∷ steps) all = orderly_by step steps (begins_meeting step.act) refl all

-- Those behind the first of a meeting script are of one.
pub placed_meeting : (steps : List Step) → IsPlaced Start steps → is_meeting steps ≡ true → AllBelong true (drop 1 steps)
placed_meeting [] all meets = tt
placed_meeting (step ∷ steps) all meets = (meeting_behind step steps meets all).1

-- Those of another script are of none.
pub placed_other : (steps : List Step) → IsPlaced Start steps → is_meeting steps ≡ false → AllBelong false steps
placed_other [] all other = tt
placed_other (step ∷ steps) all other = (script_from step steps other all).1
