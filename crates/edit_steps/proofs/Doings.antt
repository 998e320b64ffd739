-- What a step of a script comes to is the turn that is defined.
use Rattle.std.proofs.Common.{◌≡◌, ℕ, true, false, List, Result, Ok, IfOk, OnOk, refl, sym, ap, ◌∙◌, subst}
use Rattle.std.specs.declared.alloc.Global.{Global}
use Rattle.std.specs.declared.dyn_box.DynBox.{DynBox}
use Rattle.osm_table.specs.Table.{TableValue}
use Rattle.dataset.specs.Patch.{PatchValue}
use Rattle.tool_api.specs.declared.job.Job as jobs
use Rattle.tool_api.specs.declared.verb.Verb.{Verb}
use Rattle.edit_history.specs.declared.counts.Group.{Group}
use Rattle.edit_history.specs.declared.counts.Group.TheVariants as group
use Rattle.edit_history.specs.declared.edit_step.EditAnswer.{EditAnswer}
use Rattle.edit_history.specs.declared.history.History.{History}
use Rattle.edit_history.specs.Machine.{State}
use Rattle.edit_history.specs.Moved.{Fits, Move, Moved}
use Rattle.edit_history.specs.Shown.{shown, verbs_of}
use Rattle.edit_script.specs.declared.step.Act.{Act}
use Rattle.edit_script.specs.declared.step.Act.TheVariants as act
use Rattle.edit_script.specs.declared.step.Purpose.{Purpose}
use Rattle.edit_script.specs.declared.reply.StepRefusal.{StepRefusal}
use Rattle.edit_script.specs.declared.reply.StepReply.{StepReply}
use Rattle.edit_script.specs.declared.reply.StepReply.TheVariants.{Skipped}
use Rattle.edit_script.specs.Order.{may_stand}
use Rattle.edit_steps.specs.declared.doing.Doing.{Doing}
use Rattle.edit_steps.specs.declared.doing.Doing.TheVariants.{Stays}
use Rattle.edit_steps.specs.declared.limits.Limits.{Limits}
use Rattle.edit_steps.specs.declared.loading.Found.{Found}
use Rattle.edit_steps.specs.declared.loading.Found.TheVariants as found
use Rattle.edit_steps.specs.declared.response.Response.{Response}
use Rattle.edit_steps.specs.Doing.{played, refused_by, seen, Comes, MayDo}
use Rattle.edit_steps.specs.Asked.{MayTake}
use Rattle.edit_steps.specs.Groups.{is_given_up, is_open}
use Rattle.edit_steps.specs.Turn.{Turn, turn, act_turn, confirm_turn, file_turn, missing, purpose_turn, refused_turn, reply_alone, resume_turn, still_turn}

-- Where an act may stand outside groups alone.
pub outside_by : (a : Act) (g : Group) → may_stand true a ≡ false → may_stand (is_open g) a ≡ true → g ≡ group.Outside
outside_by a group.Outside never stands = refl
outside_by a group.Running never stands = absurd (let both : false ≡ true = sym never ∙ stands in cc)
outside_by a group.Refused never stands = absurd (let both : false ≡ true = sym never ∙ stands in cc)

-- Nothing is taken in.

pub file_missing : (limit : ℕ) (f : Found) → ((j : jobs.Job) → f ≡ found.Job j → ⊥) → (s : State) → file_turn limit f s ≡ refused_turn (missing f) s
file_missing limit (found.Job j) none s = absurd (none j refl)
file_missing limit f none s = refl

pub confirm_missing : (f : Found) → ((bytes : List ℕ) → f ≡ found.Bytes bytes → ⊥) → (s : State) → confirm_turn f s ≡ refused_turn (missing f) s
confirm_missing (found.Bytes bytes) none s = absurd (none bytes refl)
confirm_missing f none s = refl

pub resume_missing : (limit : ℕ) (f : Found) → ((bytes : List ℕ) → f ≡ found.Bytes bytes → ⊥) → (s : State) → resume_turn limit f s ≡ refused_turn (missing f) s
resume_missing limit (found.Bytes bytes) none s = absurd (none bytes refl)
resume_missing limit f none s = refl

refused_comes : (limit : ℕ) (t : TableValue) (g : Group) (a : Act) (turn : State → Turn) (why : StepRefusal) → is_given_up g ≡ false → ((s : State) → turn s ≡ refused_turn why s) → Comes limit a t g turn (refused_by g why)
refused_comes limit t group.Outside a turn why going is = record { plays = λ s. sym (is (seen t group.Outside s)); may = λ s verbs h. tt; own = λ b. tt; sized = tt }
refused_comes limit t group.Running a turn why going is = record { plays = λ s. sym (is (seen t group.Running s)); may = λ s verbs h. refl; own = λ b. tt; sized = tt }
refused_comes limit t group.Refused a turn why going is = absurd cc

module _ (limits : Limits) (f : Found) (t : TableValue) (g : Group) where
  -- Nothing can be taken in.
  pub file_misses : (name : List ℕ) (p : Purpose) → is_given_up g ≡ false → ((s : State) → purpose_turn limits f p s ≡ refused_turn (missing f) s) → Comes limits.objects (act.File name p) t g (act_turn limits f (act.File name p)) (refused_by g (missing f))
  file_misses name p going is = refused_comes limits.objects t g (act.File name p) (act_turn limits f (act.File name p)) (missing f) going is

  -- A step of a meeting alone is skipped.
  pub passed_comes : (a : Act) → ((s : State) → act_turn limits f a s ≡ still_turn (reply_alone Skipped) s) → Comes limits.objects a t g (act_turn limits f a) (Stays (reply_alone Skipped))
  passed_comes a is = record { plays = λ s. sym (is (seen t g s)); may = λ s verbs h. tt; own = λ b. tt; sized = tt }

-- The state is the one that was seen.
pub seen_is : (t : TableValue) (g : Group) (s : State) → t ≡ s.now → g ≡ s.group → seen t g s ≡ s
seen_is t g s now group = λ i. record { past = s.past; now = now i; undone = s.undone; group = group i; start = s.start; accepted = s.accepted }

pub plays_here : (limits : Limits) (f : Found) (a : Act) (t : TableValue) (g : Group) (s : State) (d : Doing) → t ≡ s.now → g ≡ s.group → Comes limits.objects a t g (turn limits f a) d → played limits.objects d s ≡ turn limits f a s
plays_here limits f a t g s d now group comes = subst (λ x. played limits.objects d x ≡ turn limits f a x) (seen_is t g s now group) (comes.plays s)

-- so its step may be taken
pub may_here : (limits : Limits) (f : Found) (a : Act) (t : TableValue) (g : Group) (s : State) (verbs : List Verb) (d : Doing) → t ≡ s.now → g ≡ s.group → Comes limits.objects a t g (turn limits f a) d → MayTake a s verbs → MayDo d s verbs
may_here limits f a t g s verbs d now group comes = subst (λ x. MayTake a x verbs → MayDo d x verbs) (seen_is t g s now group) (comes.may s verbs)

-- The history of an editor alone.
module _ {X : Type 0} {F : X → Type 0} (done undone : DynBox X Global F → List PatchValue) (kind : DynBox X Global F → Verb) (old : History X F) where
  module _ (limits : Limits) (f : Found) (a : Act) (t : TableValue) (g : Group) (d : Doing) (fits : Fits done undone kind old (MayTake a)) (now : t ≡ (shown done undone old).now) (group : g ≡ (shown done undone old).group)
      (comes : Comes limits.objects a t g (turn limits f a) d) where
    pub plays_old : played limits.objects d (shown done undone old) ≡ turn limits f a (shown done undone old)
    plays_old = plays_here limits f a t g (shown done undone old) d now group comes

    pub may_old : Fits done undone kind old (MayDo d)
    may_old = record { valid = fits.valid; asked = may_here limits f a t g (shown done undone old) (verbs_of kind old) d now group comes fits.asked }

  module _ {E : Type 0} (new : History X F) where
    -- one that moved by one turn moved by each that comes to the same
    pub moved_for : (result : Result Response E) (one same : State → Turn) → one (shown done undone old) ≡ same (shown done undone old) → Moved done undone kind old new result one → Moved done undone kind old new result same
    moved_for result one same is moved = record {
      valid = moved.valid;
      verbs = moved.verbs;
      answer = subst (λ (m : Turn). IfOk result (λ a. a ≡ m.answer)) is moved.answer;
      state = subst (λ (m : Turn). OnOk result (shown done undone new ≡ m.state)) is moved.state;
    }

    -- a step that is answered with another reply
    pub moved_saying : (made : EditAnswer) (answered : Response) (reply : StepReply) (move : State → Move EditAnswer) (turn : State → Turn) → answered ≡ reply_alone reply → (record { answer = reply_alone reply; state = (move (shown done undone old)).state }) ≡ turn (shown done undone old)
        → Moved {E = E} done undone kind old new (Ok made) move → Moved {E = E} done undone kind old new (Ok answered) turn
    moved_saying made answered reply move turn is same moved = record {
      valid = moved.valid;
      verbs = moved.verbs;
      answer = is ∙ ap (λ (m : Turn). m.answer) same;
      state = moved.state ∙ ap (λ (m : Turn). m.state) same;
    }
