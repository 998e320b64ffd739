-- What a call asks of a history, and what it makes of it.
--
-- Each call is a move of the machine: of the state before it follow its answer and the state after it. The functions
-- `done`, `undone` and `kind` say what a box keeps and which verb it has.
use Rattle.std.specs.Prelude.{◌≡◌, ◌≢◌, ℕ, List, Result, OnOk, IfOk}
use Rattle.std.specs.declared.dyn_box.DynBox.{DynBox}
use Rattle.std.specs.declared.alloc.Global.{Global}
use Rattle.dataset.specs.Patch.{PatchValue, StandsBefore, after_of}
use Rattle.dataset.specs.Sound.{IsSound}
use Rattle.tool_api.specs.declared.verb.Verb.{Verb}
use Rattle.tool_api.specs.declared.job.Job.{Job}
use Rattle.tool_api.specs.Plain.{verb_of, plain, IsWellFormed}
use Rattle.edit_history.specs.declared.counts.Group.TheVariants.{Outside, Refused}
use Rattle.edit_history.specs.declared.sides.Direction.{Direction}
use Rattle.edit_history.specs.declared.history.History.{History}
use Rattle.edit_history.specs.Machine.{State, IsWiped}
use Rattle.edit_history.specs.Trail.{KeepNothing, IsAlong}
use Rattle.edit_history.specs.Boxes.{Keeps, trail_of}
use Rattle.edit_history.specs.Shown.{shown, Valid, IsThere, verbs_of, patches_of}

-- the answer of a call, and the state after it
pub record Move (T : Type 0) : Type 0 where
  pub answer : T
  pub state : State

-- What a call asks: the history is valid, and its state and the verbs of its boxes are as `asks` says.
pub record Fits {X : Type 0} {F : X → Type 0} (done undone : DynBox X Global F → List PatchValue) (kind : DynBox X Global F → Verb) (h : History X F) (asks : State → List Verb → Type 0) : Type 0 where
  pub valid : Valid done undone h
  pub asked : asks (shown done undone h) (verbs_of kind h)

-- What a call makes: the history stays valid, and its boxes keep their verbs; with Ok its answer and its state are those of the move.
pub record Moved {X : Type 0} {F : X → Type 0} {T E : Type 0} (done undone : DynBox X Global F → List PatchValue) (kind : DynBox X Global F → Verb) (old new : History X F) (result : Result T E) (move : State → Move T) : Type 0 where
  pub valid : Valid done undone new
  pub verbs : verbs_of kind new ≡ verbs_of kind old
  pub answer : IfOk result (λ answer. answer ≡ (move (shown done undone old)).answer)
  pub state : OnOk result (shown done undone new ≡ (move (shown done undone old)).state)

-- What want of memory leaves, beside a valid history: no step can be undone or done again, no group is open, and no box keeps a patch.
pub record Stopped {X : Type 0} {F : X → Type 0} (done undone : DynBox X Global F → List PatchValue) (new : History X F) : Type 0 where
  pub wiped : IsWiped (shown done undone new)
  pub dones : KeepNothing (patches_of done new)
  pub undones : KeepNothing (patches_of undone new)

-- The new table stands between whole patches: k of the old trail were taken back, or gone on.
abbrev pub IsBetween : {X : Type 0} {F : X → Type 0} → Direction → (DynBox X Global F → List PatchValue) → (DynBox X Global F → List PatchValue) → History X F → History X F → Type 0
IsBetween way done undone old new = IsAlong way (trail_of way done undone old.jobs) (shown done undone old).now (shown done undone new).now

-- The new table is the one that the job makes of the old one.
abbrev pub IsMadeBy : {X : Type 0} {F : X → Type 0} → Job → ℕ → Keeps X F → Keeps X F → History X F → History X F → Type 0
IsMadeBy job limit done undone old new = (shown done undone new).now ≡ (plain job (shown done undone old).now limit).table

-- The state is what it was.
abbrev pub IsKept : {X : Type 0} {F : X → Type 0} → Keeps X F → Keeps X F → History X F → History X F → Type 0
IsKept done undone old new = shown done undone new ≡ shown done undone old

-- a job may run
pub record MayRun (job : Job) (s : State) (verbs : List Verb) : Type 0 where
  pub there : IsThere (verb_of job) verbs
  pub formed : IsWellFormed job
  pub unrefused : s.group ≢ Refused

-- a patch may be settled
pub record MaySettle (patch : PatchValue) (s : State) (verbs : List Verb) : Type 0 where
  pub outside : s.group ≡ Outside
  pub stands : StandsBefore patch s.now
  pub sound : IsSound (after_of patch s.now)
