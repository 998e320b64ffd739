-- One step more of a run.
use Rattle.std.proofs.Common.{◌≡◌, ℕ, ◌+◌, ◌<◌, ◌≤◌, Bool, true, false, List, ◌∷◌, Option, None, Some, IfSome, sym, ap, ◌∙◌, subst, drop, get_or, length, arith}
use Rattle.std.proofs.lemmas.List.{at_drop_more}
use Rattle.osm_outside.specs.Outside.{AppendsFront}
use Rattle.osm_outside.proofs.Along.{along-start}
use Rattle.tool_api.specs.declared.verb.Verb.{Verb}
use Rattle.edit_script.specs.declared.step.Act.{Act}
use Rattle.edit_script.specs.declared.step.Act.TheVariants.{Editor}
use Rattle.edit_script.specs.declared.step.Step.{Step}
use Rattle.edit_script.specs.Order.{IsMeant, IsOrderly, may_stand, inside_after}
use Rattle.edit_history.specs.Machine.{State, first_state}
use Rattle.edit_history.specs.Shown.{IsThere}
use Rattle.edit_steps.specs.declared.limits.Limits.{Limits}
use Rattle.edit_steps.specs.Needs.{needs, lacks, missing_from, editor_after}
use Rattle.edit_steps.specs.declared.loading.Found.{Found}
use Rattle.edit_steps.specs.Groups.{is_open}
use Rattle.edit_steps.specs.Turn.{turn}
use Rattle.edit_steps.proofs.Opens.{turn_open}
use Rattle.osm_outside.proofs.Pieces.{along-stop}
use Rattle.edit_steps.proofs.Counts.{counted_there, enough}
use Rattle.osm_base.proofs.Tests.{none_of_both}

-- the steps from i on begin with that at i
pub steps-drop : (i : ℕ) (steps : List Step) (step : Step) → i < length steps → step ≡ get_or steps i step → drop i steps ≡ step ∷ drop (i + 1) steps
steps-drop i steps step h e = at_drop_more (λ (s : List Step). s) steps i step h ∙ ap (λ s. s ∷ drop (i + 1) steps) (sym e)

-- nothing is written yet
pub nothing_yet : (old : Option (List ℕ)) (all : List ℕ) → AppendsFront old old all
nothing_yet old all = along-stop old old all all (along-start old all)

-- a script's steps are in order from the first state on
pub orderly_first : (steps : List Step) (s : State) → s ≡ first_state → IsOrderly false steps → IsOrderly (is_open s.group) steps
orderly_first steps s first orderly = rw first orderly

-- and from the state behind a step on
pub orderly_on : (limits : Limits) (found : Found) (act : Act) (s next : State) (steps : List Step) → may_stand (is_open s.group) act ≡ true → next ≡ (turn limits found act s).state → IsOrderly (inside_after (is_open s.group) act) steps → IsOrderly (is_open next.group) steps
orderly_on limits found act s next steps stands after orderly = subst (λ is_inside. IsOrderly is_inside steps) (sym (ap (λ (t : State). is_open t.group) after ∙ turn_open limits found act s stands)) orderly

-- what is orderly from a step on
pub orderly_at : (is_inside : Bool) (i : ℕ) (steps : List Step) (step : Step) → i < length steps → step ≡ get_or steps i step → IsOrderly is_inside (drop i steps)
    → IsMeant step.act × (may_stand is_inside step.act ≡ true) × IsOrderly (inside_after is_inside step.act) (drop (i + 1) steps)
orderly_at is_inside i steps step h e orderly = subst (IsOrderly is_inside) (steps-drop i steps step h e) orderly

there_by : (verbs : List Verb) (editor : ℕ) (needed : Option Verb) → 1 ≤ editor → lacks verbs editor needed ≡ None → IfSome needed (λ verb. IsThere verb verbs)
there_by verbs editor None some e = tt
there_by verbs editor (Some verb) some e = counted_there verbs verb (omega (arith, some, enough verbs editor verb e))

-- no step of an editor, the first of this one, misses its tool
pub record NoneMissing (verbs : List Verb) (steps : List Step) : Type 0 where
  pub editor : ℕ
  pub some : 1 ≤ editor
  pub none : missing_from verbs editor steps ≡ None

editor_some : (editor : ℕ) (act : Act) → 1 ≤ editor → IsMeant act → 1 ≤ editor_after editor act
editor_some editor (Editor n) some meant = meant.0
editor_some editor act some meant = some

-- what is missing from a step on
pub missing_at : (verbs : List Verb) (editor i : ℕ) (steps : List Step) (step : Step) → i < length steps → step ≡ get_or steps i step → missing_from verbs editor (drop i steps) ≡ None
    → (lacks verbs editor (needs step.act) ≡ None) × (missing_from verbs (editor_after editor step.act) (drop (i + 1) steps) ≡ None)
missing_at verbs editor i steps step h e none =
    none_of_both (lacks verbs editor (needs step.act)) (missing_from verbs (editor_after editor step.act) (drop (i + 1) steps)) (sym (ap (missing_from verbs editor) (steps-drop i steps step h e)) ∙ none)

-- the step has its tool, and those behind it
pub there_at : (verbs : List Verb) (i : ℕ) (steps : List Step) (step : Step) → i < length steps → step ≡ get_or steps i step → IsMeant step.act → NoneMissing verbs (drop i steps)
    → IfSome (needs step.act) (λ verb. IsThere verb verbs) × NoneMissing verbs (drop (i + 1) steps)
there_at verbs i steps step h e meant before =
    let both = missing_at verbs before.editor i steps step h e before.none in
    (there_by verbs before.editor (needs step.act) before.some both.0, record { editor = editor_after before.editor step.act; some = editor_some before.editor step.act before.some meant; none = both.1 })
