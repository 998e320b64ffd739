-- The steps of an editor: what each asks, what it answers, and the state after it.
--
-- For example where one table is past and none undone, `Undo 1` makes the past one the table now, and `Undo 2` and
-- `Redo 1` are refused and leave all as it is.
use Rattle.std.specs.Prelude.{◌≡◌, ◌≢◌, ◌≤◌, ◌⊎◌, ℕ, List, [], length, nat_le, if◌then◌else◌}
use Rattle.std.specs.declared.dyn_box.DynBox.{DynBox}
use Rattle.std.specs.declared.alloc.Global.{Global}
use Rattle.dataset.specs.Patch.{after_of}
use Rattle.tool_api.specs.declared.job.Job.{Job}
use Rattle.tool_api.specs.declared.reply.Reply.{Reply}
use Rattle.tool_api.specs.declared.reply.Reply.TheVariants as reply
use Rattle.tool_api.specs.declared.verb.Verb.{Verb}
use Rattle.tool_api.specs.Plain.{plain, verb_of}
use Rattle.edit_history.specs.declared.counts.Group.TheVariants.{Outside, Running}
use Rattle.edit_history.specs.declared.edit_step.EditStep.{EditStep}
use Rattle.edit_history.specs.declared.edit_step.EditStep.TheVariants.{Run, Begin, GiveUp, End, Undo, Redo, Settle}
use Rattle.edit_history.specs.declared.edit_step.EditAnswer.{EditAnswer}
use Rattle.edit_history.specs.declared.edit_step.EditAnswer.TheVariants.{Done, Refused}
use Rattle.edit_history.specs.declared.edit_step.EditRefusal.{EditRefusal}
use Rattle.edit_history.specs.declared.edit_step.EditRefusal.TheVariants.{Tool, NothingToUndo, NothingToRedo}
use Rattle.edit_history.specs.declared.history.History.{History}
use Rattle.edit_history.specs.declared.sides.Direction.{Direction}
use Rattle.edit_history.specs.declared.sides.Direction.TheVariants.{Back, On}
use Rattle.edit_history.specs.Boxes.{Keeps}
use Rattle.edit_history.specs.Machine.{State, ran, began, gave_up, ended, settled}
use Rattle.edit_history.specs.Moved.{Move, MayRun, MaySettle, Stopped, IsBetween, IsKept, IsMadeBy}
use Rattle.edit_history.specs.Shown.{KeptByFirst}
use Rattle.edit_history.specs.Single.{tables, went}

-- the reply of a tool as the answer of a step
abbrev pub replied : Reply → EditAnswer
replied (reply.Done made) = Done made
replied (reply.Refused why) = Refused (Tool why)

-- a job is run
abbrev pub job_move : ℕ → Job → State → Move EditAnswer
job_move limit job s = record { answer = replied (plain job s.now limit).reply; state = ran (plain job s.now limit).reply (plain job s.now limit).table s }

-- done, and nothing was made
abbrev pub silent : State → Move EditAnswer
silent s = record { answer = Done []; state = s }

-- why steps this way are refused
abbrev pub none_this_way : Direction → EditRefusal
none_this_way Back = NothingToUndo
none_this_way On = NothingToRedo

-- so many steps this way, refused where there are fewer
abbrev pub steps_move : Direction → ℕ → State → Move EditAnswer
steps_move way n s = if nat_le n (length (tables way s)) then silent (went way n s) else record { answer = Refused (none_this_way way); state = s }

-- What a step answers, with at most so many objects in the table, and the state after it.
abbrev pub edited : ℕ → EditStep → State → Move EditAnswer
edited limit (Run job) s = job_move limit job.now s
edited limit Begin s = silent (began s)
edited limit GiveUp s = silent (gave_up s)
edited limit End s = silent (ended s)
edited limit (Undo n) s = steps_move Back n s
edited limit (Redo n) s = steps_move On n s
edited limit (Settle patch) s = silent (settled (after_of patch.now s.now) s)

-- at least one step, where no group is open
pub record MayGo (n : ℕ) (s : State) : Type 0 where
  pub outside : s.group ≡ Outside
  pub some : 1 ≤ n

-- What a step asks of the state and of the verbs of the boxes.
abbrev pub MayEdit : EditStep → State → List Verb → Type 0
MayEdit (Run job) s verbs = MayRun job.now s verbs
MayEdit Begin s verbs = s.group ≡ Outside
MayEdit GiveUp s verbs = s.group ≡ Running
MayEdit End s verbs = s.group ≢ Outside
MayEdit (Undo n) s verbs = MayGo n s
MayEdit (Redo n) s verbs = MayGo n s
MayEdit (Settle patch) s verbs = MaySettle patch.now s verbs

-- Of a job that was done the patch is last at the first box with its verb, and the others keep what they had.
abbrev pub KeptByRun : {X : Type 0} {F : X → Type 0} → Keeps X F → (DynBox X Global F → Verb) → EditStep → History X F → History X F → EditAnswer → Type 0
KeptByRun done kind (Run job) old new answer = KeptByFirst done kind (verb_of job.now) old new answer
KeptByRun done kind step old new answer = Unit {0}

-- What want of memory leaves after a step: all as it was, or a history in which nothing can be undone or done again, whose
-- table stands between whole patches, or is the one that the job makes.
abbrev pub LeftBy : {X : Type 0} {F : X → Type 0} → Keeps X F → Keeps X F → ℕ → EditStep → History X F → History X F → Type 0
LeftBy done undone limit (Run job) old new = Stopped done undone new × (IsBetween Back done undone old new ⊎ IsMadeBy job.now limit done undone old new)
LeftBy done undone limit Begin old new = ⊥
LeftBy done undone limit GiveUp old new = Stopped done undone new × IsBetween Back done undone old new
LeftBy done undone limit End old new = IsKept done undone old new
LeftBy done undone limit (Undo n) old new = Stopped done undone new × IsBetween Back done undone old new
LeftBy done undone limit (Redo n) old new = Stopped done undone new × IsBetween On done undone old new
LeftBy done undone limit (Settle patch) old new = IsKept done undone old new
