-- What a function that runs a step makes of the sink, and of the history.
use Rattle.std.specs.Prelude.{◌≡◌, ℕ, List, Option, Result, OnOk, OnErr}
use Rattle.std.specs.declared.dyn_box.DynBox.{DynBox}
use Rattle.std.specs.declared.alloc.Global.{Global}
use Rattle.std.specs.Io.KnownBytes.{Appends}
use Rattle.osm_outside.specs.Outside.{AppendsFront, Shelved}
use Rattle.dataset.specs.Patch.{PatchValue}
use Rattle.dataset.specs.Sound.{IsSound}
use Rattle.tool_api.specs.declared.verb.Verb.{Verb}
use Rattle.edit_script.specs.declared.step.Step.{Step}
use Rattle.edit_history.specs.declared.history.History.{History}
use Rattle.edit_history.specs.Machine.{State}
use Rattle.edit_history.specs.Shown.{shown, Valid, verbs_of}
use Rattle.edit_steps.specs.declared.limits.Limits.{Limits}
use Rattle.edit_steps.specs.declared.loading.Found.{Found}
use Rattle.edit_steps.specs.Given.{Finds, given_by}
use Rattle.edit_steps.specs.Load.{found_in}
use Rattle.edit_steps.specs.Turn.{Turn, turn, turn_text}

-- A step was taken: the history moved as the turn says, and the turn's text went to the sink, or a front of it.
pub record Plays {X : Type 0} {F : X → Type 0} {T E : Type 0} (done undone : DynBox X Global F → List PatchValue) (kind : DynBox X Global F → Verb) (old new : History X F) (taken_old taken_new : Option (List ℕ)) (result : Result T E) (line : ℕ) (turn : State → Turn) : Type 0 where
  pub valid : Valid done undone new
  pub verbs : verbs_of kind new ≡ verbs_of kind old
  pub state : OnOk result (shown done undone new ≡ (turn (shown done undone old)).state)
  pub ok : OnOk result (Appends taken_old taken_new (turn_text line (turn (shown done undone old))))
  pub err : OnErr result (AppendsFront taken_old taken_new (turn_text line (turn (shown done undone old))))

-- The next step was run over a sound table: it found what comes of what the shelf gave, and was taken with that. A read that
-- fails stops it before anything is written, whatever it would have found.
pub record RunsNext {X : Type 0} {F : X → Type 0} {T E : Type 0} (done undone : DynBox X Global F → List PatchValue) (kind : DynBox X Global F → Verb) (limits : Limits) (told : Option Shelved) (old new : History X F) (taken_old taken_new : Option (List ℕ)) (result : Result T E) (step : Step) : Type 0 where
  pub table : IsSound (shown done undone old).now
  pub found : Found
  pub finds : Finds told (λ files. given_by files step.act) found (λ given. found_in limits given (shown done undone old).group step.act)
  pub plays : Plays done undone kind old new taken_old taken_new result step.line (turn limits found step.act)
