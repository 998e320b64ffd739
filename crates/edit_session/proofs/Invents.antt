-- The steps of a script make no edits of which they don't say so.
use Rattle.std.proofs.Common.{◌≡◌, ℕ, Bool, true, false, cond, List, [], take, None, Some, Result, Ok, Err}
use Rattle.std.specs.Prelude.{map}
use Rattle.std.proofs.lemmas.Bool.{true≢false}
use Rattle.std.proofs.lemmas.List.Elements.{All-nil, All-take, All-weaker}
use Rattle.osm_base.specs.declared.key.Key.{Key}
use Rattle.osm_table.specs.Table.{entry_of}
use Rattle.dataset.specs.Patch.{PatchValue}
use Rattle.dataset.specs.Sound.{IsSound}
use Rattle.placeholder.specs.declared.answer.Answer.{Answer}
use Rattle.answer_file.specs.Answers.{answers_of}
use Rattle.sample_city.specs.City.{city}
use Rattle.tool_api.specs.declared.job.Job.TheVariants.{Merge}
use Rattle.edit_script.specs.declared.reply.StepRefusal.{StepRefusal}
use Rattle.edit_script.specs.declared.step.Act.{Act}
use Rattle.edit_script.specs.declared.step.Act.TheVariants as act
use Rattle.edit_script.specs.declared.step.HistoryStep.TheVariants as history
use Rattle.edit_script.specs.declared.step.Purpose.TheVariants as purpose
use Rattle.edit_script.specs.declared.step.Step.{Step}
use Rattle.edit_script.specs.Place.{is_meeting}
use Rattle.edit_history.specs.declared.counts.Group.{Group}
use Rattle.edit_history.specs.declared.counts.Group.TheVariants.{Outside, Running, Refused}
use Rattle.edit_history.specs.Machine.{State, first_state, refused_in}
use Rattle.editor_laws.specs.Invented.{InventsNone}
use Rattle.editor_laws.proofs.Invented.{job_step_invents, same_invents}
use Rattle.edit_steps.specs.declared.limits.Limits.{Limits}
use Rattle.edit_steps.specs.declared.loading.Found.{Found}
use Rattle.edit_steps.specs.declared.loading.Found.TheVariants as found
use Rattle.edit_steps.specs.Given.{Given}
use Rattle.edit_steps.specs.Groups.{is_given_up}
use Rattle.edit_steps.specs.Load.{act_found}
use Rattle.edit_steps.specs.States.{AreSound, states_before}
use Rattle.edit_steps.specs.Settled.{confirmed}
use Rattle.edit_steps.specs.Turn.{act_turn, confirm_turn, file_turn, settled_turn, skipped_turn, turn}
use Rattle.edit_session.specs.Invents.{AreAsked, StepInventsNone}
use Rattle.edit_session.specs.Meet.{own_machine}
use Rattle.edit_session.specs.Said.{act_says, alone, answers_if, answers_taken, confirm_says, file_answers, file_says, is_running}
use Rattle.edit_session.specs.Session.{met, run}

module _ (s : State) where
  -- Where the table stays nothing is made,
  pub still_invents : (is_said : Key → Bool) → InventsNone is_said s.now s.now
  still_invents is_said k e is edits free = same_invents (entry_of s.now k) e edits is

  -- and where a group is given up nothing that isn't said
  pub refused_invents : (g : Group) → InventsNone (λ k. is_running g) s.now (refused_in g s).now
  refused_invents Outside k e is edits free = same_invents (entry_of s.now k) e edits is
  refused_invents Running k e is edits free = absurd (true≢false free)
  refused_invents Refused k e is edits free = same_invents (entry_of s.now k) e edits is

  skipped_invents : (a : Act) (is_said : Key → Bool) → InventsNone is_said s.now (skipped_turn a s).state.now
  skipped_invents (act.History history.End) is_said = still_invents is_said
  skipped_invents a is_said = still_invents is_said

  module _ (sound : IsSound s.now) where
    file_invents : (limit : ℕ) (f : Found) → InventsNone (file_says limit f s) s.now (file_turn limit f s).state.now
    file_invents limit (found.Job job) = job_step_invents limit job s sound
    file_invents limit found.Nothing = refused_invents s.group
    file_invents limit (found.Bad fault) = refused_invents s.group
    file_invents limit (found.Bytes bytes) = refused_invents s.group
    file_invents limit (found.Objects objects) = refused_invents s.group

    confirmed_invents : (is_said : Key → Bool) (answers : List Answer) (r : Result PatchValue StepRefusal) → answers_if r answers ≡ None → InventsNone is_said s.now (settled_turn r s).state.now
    confirmed_invents is_said answers (Ok patch) none = let never : Some answers ≡ None = none in absurd cc
    confirmed_invents is_said answers (Err why) none = still_invents is_said

    confirm_invents : (f : Found) → file_answers f s ≡ None → InventsNone (confirm_says f s) s.now (confirm_turn f s).state.now
    confirm_invents (found.Bytes bytes) none = confirmed_invents (confirm_says (found.Bytes bytes) s) (answers_of bytes).answers (confirmed s.now bytes) none
    confirm_invents (found.Job job) none = refused_invents s.group
    confirm_invents found.Nothing none = refused_invents s.group
    confirm_invents (found.Bad fault) none = refused_invents s.group
    confirm_invents (found.Objects objects) none = refused_invents s.group

    act_invents : (limits : Limits) (f : Found) (a : Act) → answers_taken a f s ≡ None → InventsNone (act_says limits f a s) s.now (act_turn limits f a s).state.now
    act_invents limits f (act.Job job) none = job_step_invents limits.objects job s sound
    act_invents limits f (act.Generate streets) none = job_step_invents limits.objects (Merge (city streets)) s sound
    act_invents limits f (act.History history.Begin) none = still_invents (act_says limits f (act.History history.Begin) s)
    act_invents limits f (act.History history.End) none = still_invents (act_says limits f (act.History history.End) s)
    act_invents limits f (act.History (history.Undo n)) none = λ k e is edits free. absurd (true≢false free)
    act_invents limits f (act.History (history.Redo n)) none = λ k e is edits free. absurd (true≢false free)
    act_invents limits f (act.File name (purpose.Download area wanted)) none = file_invents limits.objects f
    act_invents limits f (act.File name purpose.Import) none = file_invents limits.objects f
    act_invents limits f (act.File name purpose.Confirm) none = confirm_invents f none
    act_invents limits f (act.File name purpose.Resume) none = λ k e is edits free. absurd (true≢false free)
    act_invents limits f a none = still_invents (act_says limits f a s)

    -- One that takes no answers, in any group.
    pub turn_invents : (limits : Limits) (f : Found) (a : Act) → answers_taken a f s ≡ None → InventsNone (act_says limits f a s) s.now (turn limits f a s).state.now
    turn_invents limits f a none = by_group (is_given_up s.group)
      where
        by_group : (b : Bool) → InventsNone (act_says limits f a s) s.now (cond b (skipped_turn a s) (act_turn limits f a s)).state.now
        by_group true = skipped_invents a (act_says limits f a s)
        by_group false = act_invents limits f a none

    given_invents : (limits : Limits) (given : Given) (a : Act) (b : Bool)
        → answers_taken a (cond b found.Nothing (act_found limits given a)) s ≡ None
        → InventsNone (act_says limits (cond b found.Nothing (act_found limits given a)) a s) s.now (cond b (skipped_turn a s) (act_turn limits (cond b found.Nothing (act_found limits given a)) a s)).state.now
    given_invents limits given a true none = skipped_invents a (act_says limits found.Nothing a s)
    given_invents limits given a false none = act_invents limits (act_found limits given a) a none

step_invents : (limits : Limits) (given : Given) (step : Step) (s : State) → IsSound s.now → StepInventsNone limits given step s
step_invents limits given step s sound = given_invents s sound limits given step.act (is_given_up s.group)

all_asked : (limits : Limits) (steps : List (Step × Given × State)) → AreSound steps → AreAsked limits steps
all_asked limits steps sound = All-weaker (λ (at : Step × Given × State). IsSound at.2.now) (λ at. StepInventsNone limits at.1 at.0 at.2) (λ at. step_invents limits at.1 at.0 at.2) steps sound

first_by_meeting : (limits : Limits) (n : ℕ) (given : List Given) (steps : List Step) (meets : Bool) → AreSound (take n (cond meets (map own_machine (met limits given steps)) (states_before limits given steps first_state)))
    → AreAsked limits (take n (cond meets [] (states_before limits given steps first_state)))
first_by_meeting limits n given steps true sound = All-take (λ (at : Step × Given × State). StepInventsNone limits at.1 at.0 at.2) n [] (All-nil (λ (at : Step × Given × State). StepInventsNone limits at.1 at.0 at.2))
first_by_meeting limits n given steps false sound = all_asked limits (take n (states_before limits given steps first_state)) sound

by_meeting : (limits : Limits) (given : List Given) (steps : List Step) (meets : Bool) → AreSound (cond meets (map own_machine (met limits given steps)) (states_before limits given steps first_state))
    → AreAsked limits (cond meets [] (states_before limits given steps first_state))
by_meeting limits given steps true sound = All-nil (λ (at : Step × Given × State). StepInventsNone limits at.1 at.0 at.2)
by_meeting limits given steps false sound = all_asked limits (states_before limits given steps first_state) sound

-- Where the tables of the run are sound, nothing is made up,
pub asked_in : (limits : Limits) (given : List Given) (steps : List Step) → AreSound (run limits given steps) → AreAsked limits (alone limits given steps)
asked_in limits given steps sound = by_meeting limits given steps (is_meeting steps) sound

-- and so it is of the first of them.
pub first_asked : (limits : Limits) (n : ℕ) (given : List Given) (steps : List Step) → AreSound (take n (run limits given steps)) → AreAsked limits (take n (alone limits given steps))
first_asked limits n given steps sound = first_by_meeting limits n given steps (is_meeting steps) sound
