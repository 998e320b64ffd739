-- What becomes of a meeting with one editor more, and with one step more.
use Rattle.std.specs.Prelude.{◌≡◌, ◌++◌, ℕ, List, [], ◌∷◌, Option, Result}
use Rattle.std.specs.declared.dyn_box.DynBox.{DynBox}
use Rattle.std.specs.declared.alloc.Global.{Global}
use Rattle.osm_outside.specs.Outside.{Shelved}
use Rattle.dataset.specs.Patch.{PatchValue}
use Rattle.tool_api.specs.declared.verb.Verb.{Verb}
use Rattle.edit_script.specs.declared.step.Step.{Step}
use Rattle.many_editors.specs.declared.meeting.Meeting as declared
use Rattle.many_editors.specs.Shown.{shown_meeting}
use Rattle.edit_steps.specs.declared.limits.Limits.{Limits}
use Rattle.edit_steps.specs.declared.loading.Found.{Found}
use Rattle.edit_steps.specs.Dealt.{AreDealt}
use Rattle.edit_steps.specs.Given.{Finds, given_by}
use Rattle.edit_session.specs.Meet.{found_by, meet_turn}
use Rattle.edit_session.specs.MeetAsked.{PlaysMet, editor_at}

-- Of boxes with these verbs one editor more got one of each verb, and the others are left.
pub record JoinsDealt (verbs others : List Verb) (met met_then : List (List Verb)) : Type 0 where
  pub own : List Verb
  pub dealt : AreDealt verbs own others
  pub joins : met_then ≡ met ++ own ∷ []

-- A step was run: the editor found what comes of what the shelf gave, and played its turn with that. A read that
-- fails stops it before anything is written, whatever it would have found.
pub record RunsMet {X : Type 0} {F : X → Type 0} {E : Type 0} (done undone : DynBox X Global F → List PatchValue) (kind : DynBox X Global F → Verb) (limits : Limits) (told : Option Shelved) (old new : declared.Meeting X F) (editor : ℕ) (taken_old taken_new : Option (List ℕ)) (result : Result ℕ E) (step : Step) : Type 0 where
  pub found : Found
  pub finds : Finds told (λ files. given_by files step.act) found (λ given. found_by limits given (editor_at editor (shown_meeting done undone old)) step.act)
  pub plays : PlaysMet done undone kind old new editor taken_old taken_new result step.line (meet_turn limits found step.act)
