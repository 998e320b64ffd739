-- The steps of a script keep what was edited.
use Rattle.std.proofs.Common.{◌≡◌, ℕ, Bool, true, false, cond, List, [], map, take, Option, None, Some, Result, Ok, Err, refl, ap, subst}
use Rattle.std.proofs.lemmas.Bool.{true≢false}
use Rattle.std.proofs.lemmas.List.Elements.{All-nil, All-take, All-weaker}
use Rattle.osm_base.specs.declared.key.Key.{Key}
use Rattle.osm_table.specs.declared.told.Told.{Told}
use Rattle.osm_table.specs.Table.{entry_of}
use Rattle.dataset.specs.Patch.{PatchValue}
use Rattle.dataset.specs.Sound.{IsSound}
use Rattle.placeholder.specs.declared.fault.ConfirmFault.{ConfirmFault}
use Rattle.placeholder.specs.Confirm.{confirm}
use Rattle.answer_file.specs.Answers.{FileAnswers, answers_of, by_lines, unless_wrong}
use Rattle.sample_city.specs.City.{city}
use Rattle.tool_api.specs.declared.job.Job.TheVariants.{Merge}
use Rattle.edit_script.specs.declared.reply.StepRefusal.{StepRefusal}
use Rattle.edit_script.specs.declared.step.Act.{Act}
use Rattle.edit_script.specs.declared.step.Act.TheVariants as act
use Rattle.edit_script.specs.declared.step.HistoryStep.TheVariants as history
use Rattle.edit_script.specs.declared.step.Purpose.TheVariants as purpose
use Rattle.edit_script.specs.declared.step.Step.{Step}
use Rattle.edit_script.specs.Place.{is_meeting}
use Rattle.edit_history.specs.declared.counts.Group.{Group}
use Rattle.edit_history.specs.declared.counts.Group.TheVariants.{Outside, Running, Refused}
use Rattle.edit_history.specs.Machine.{State, first_state, refused_in}
use Rattle.editor_laws.specs.Answered.{KeepsAllBut}
use Rattle.editor_laws.proofs.KeptAnswers.{confirm_keeps}
use Rattle.editor_laws.proofs.KeptMerges.{same_kept}
use Rattle.editor_laws.proofs.KeptRuns.{job_step_keeps}
use Rattle.edit_steps.specs.declared.limits.Limits.{Limits}
use Rattle.edit_steps.specs.declared.loading.Found.{Found}
use Rattle.edit_steps.specs.declared.loading.Found.TheVariants as found
use Rattle.edit_steps.specs.Given.{Given}
use Rattle.edit_steps.specs.Groups.{is_given_up}
use Rattle.edit_steps.specs.Load.{act_found}
use Rattle.edit_session.specs.Meet.{own_machine}
use Rattle.edit_steps.specs.States.{AreSound}
use Rattle.edit_session.specs.Said.{act_says, act_tells, alone, answers_if, answers_taken, confirm_says, file_answers, file_says, file_tells, is_running, AreKept, IsKept}
use Rattle.edit_session.specs.Session.{met, run}
use Rattle.edit_steps.specs.States.{states_before}
use Rattle.edit_steps.specs.Settled.{confirmed, of_answers}
use Rattle.edit_steps.specs.Turn.{act_turn, confirm_turn, file_turn, settled_turn, skipped_turn, turn}

-- A file's answers are taken where its answers are.
by_wrong : (wrong : Option ℕ) (p patch : PatchValue) → of_answers (unless_wrong wrong p) ≡ Ok patch → p ≡ patch
by_wrong None p patch h = cc
by_wrong (Some line) p patch h = absurd cc

by_file : (file : FileAnswers) (r : Result PatchValue ConfirmFault) (patch : PatchValue) → of_answers (by_lines file r) ≡ Ok patch → r ≡ Ok patch
by_file file (Ok p) patch h = ap (λ (x : PatchValue). Ok x) (by_wrong file.wrong p patch h)
by_file file (Err fault) patch h = absurd cc

module _ (s : State) where
  -- Where the table stays all is kept.
  pub still_kept : (is_said : Key → Bool) (told : Key → Option Told) → KeepsAllBut None is_said told s.now s.now
  still_kept is_said told k e is edits free = same_kept (told k) e (entry_of s.now k) edits is

  -- and where a group is given up all of which that isn't said
  pub refused_kept : (g : Group) (told : Key → Option Told) → KeepsAllBut None (λ k. is_running g) told s.now (refused_in g s).now
  refused_kept Outside told k e is edits free = same_kept (told k) e (entry_of s.now k) edits is
  refused_kept Running told k e is edits free = absurd (true≢false free)
  refused_kept Refused told k e is edits free = same_kept (told k) e (entry_of s.now k) edits is

  pub skipped_kept : (a : Act) (is_said : Key → Bool) (told : Key → Option Told) → KeepsAllBut None is_said told s.now (skipped_turn a s).state.now
  skipped_kept (act.History history.End) is_said told = still_kept is_said told
  skipped_kept a is_said told = still_kept is_said told

  module _ (sound : IsSound s.now) where
    file_kept : (limit : ℕ) (f : Found) → KeepsAllBut None (file_says limit f s) (file_tells f) s.now (file_turn limit f s).state.now
    file_kept limit (found.Job job) k e is edits free = job_step_keeps limit job s sound k e is edits free
    file_kept limit found.Nothing k e is edits free = refused_kept s.group (file_tells found.Nothing) k e is edits free
    file_kept limit (found.Bad fault) k e is edits free = refused_kept s.group (file_tells (found.Bad fault)) k e is edits free
    file_kept limit (found.Bytes bytes) k e is edits free = refused_kept s.group (file_tells (found.Bytes bytes)) k e is edits free
    file_kept limit (found.Objects objects) k e is edits free = refused_kept s.group (file_tells (found.Objects objects)) k e is edits free

    confirmed_kept : (bytes : List ℕ) (is_said : Key → Bool) (told : Key → Option Told) (r : Result PatchValue StepRefusal) → confirmed s.now bytes ≡ r → KeepsAllBut (answers_if r (answers_of bytes).answers) is_said told s.now (settled_turn r s).state.now
    confirmed_kept bytes is_said told (Ok patch) is =
        confirm_keeps s.now (answers_of bytes).answers patch sound (by_file (answers_of bytes) (confirm s.now (answers_of bytes).answers) patch is)
    confirmed_kept bytes is_said told (Err why) is = still_kept is_said told

    confirm_kept : (f : Found) (told : Key → Option Told) → KeepsAllBut (file_answers f s) (confirm_says f s) told s.now (confirm_turn f s).state.now
    confirm_kept (found.Bytes bytes) told = confirmed_kept bytes (confirm_says (found.Bytes bytes) s) told (confirmed s.now bytes) refl
    confirm_kept (found.Job job) told = refused_kept s.group told
    confirm_kept found.Nothing told = refused_kept s.group told
    confirm_kept (found.Bad fault) told = refused_kept s.group told
    confirm_kept (found.Objects objects) told = refused_kept s.group told

    pub act_kept : (limits : Limits) (f : Found) (a : Act) → KeepsAllBut (answers_taken a f s) (act_says limits f a s) (act_tells f a) s.now (act_turn limits f a s).state.now
    act_kept limits f (act.Job job) = λ k e is edits free. job_step_keeps limits.objects job s sound k e is edits free
    act_kept limits f (act.Generate streets) = λ k e is edits free. job_step_keeps limits.objects (Merge (city streets)) s sound k e is edits free
    act_kept limits f (act.History history.Begin) = λ k e is edits free. same_kept None e (entry_of s.now k) edits is
    act_kept limits f (act.History history.End) = λ k e is edits free. same_kept None e (entry_of s.now k) edits is
    act_kept limits f (act.History (history.Undo n)) = λ k e is edits free. absurd (true≢false free)
    act_kept limits f (act.History (history.Redo n)) = λ k e is edits free. absurd (true≢false free)
    act_kept limits f (act.File name (purpose.Download area wanted)) = file_kept limits.objects f
    act_kept limits f (act.File name purpose.Import) = file_kept limits.objects f
    act_kept limits f (act.File name purpose.Confirm) = confirm_kept f (λ k. None)
    act_kept limits f (act.File name purpose.Resume) = λ k e is edits free. absurd (true≢false free)
    act_kept limits f a = λ k e is edits free. same_kept None e (entry_of s.now k) edits is

    -- One that takes no answers, in any group.
    pub turn_kept : (limits : Limits) (f : Found) (a : Act) → answers_taken a f s ≡ None → KeepsAllBut None (act_says limits f a s) (act_tells f a) s.now (turn limits f a s).state.now
    turn_kept limits f a none = by_group (is_given_up s.group)
      where
        by_group : (b : Bool) → KeepsAllBut None (act_says limits f a s) (act_tells f a) s.now (cond b (skipped_turn a s) (act_turn limits f a s)).state.now
        by_group true = skipped_kept a (act_says limits f a s) (act_tells f a)
        by_group false = subst (λ answers. KeepsAllBut answers (act_says limits f a s) (act_tells f a) s.now (act_turn limits f a s).state.now) none (act_kept limits f a)

    -- one that is skipped takes none
    nothing_kept : (limits : Limits) (a : Act) → KeepsAllBut (answers_taken a found.Nothing s) (act_says limits found.Nothing a s) (act_tells found.Nothing a) s.now (skipped_turn a s).state.now
    nothing_kept limits (act.File name purpose.Confirm) = skipped_kept (act.File name purpose.Confirm) (act_says limits found.Nothing (act.File name purpose.Confirm) s) (λ k. None)
    nothing_kept limits a = skipped_kept a (act_says limits found.Nothing a s) (act_tells found.Nothing a)

    pub given_kept : (limits : Limits) (given : Given) (a : Act) (b : Bool)
        → KeepsAllBut (answers_taken a (cond b found.Nothing (act_found limits given a)) s) (act_says limits (cond b found.Nothing (act_found limits given a)) a s) (act_tells (cond b found.Nothing (act_found limits given a)) a) s.now
        (cond b (skipped_turn a s) (act_turn limits (cond b found.Nothing (act_found limits given a)) a s)).state.now
    given_kept limits given a true = nothing_kept limits a
    given_kept limits given a false = act_kept limits (act_found limits given a) a

pub step_kept : (limits : Limits) (given : Given) (step : Step) (s : State) → IsSound s.now → IsKept limits given step s
step_kept limits given step s sound = given_kept s sound limits given step.act (is_given_up s.group)

all_kept : (limits : Limits) (steps : List (Step × Given × State)) → AreSound steps → AreKept limits steps
all_kept limits steps sound = All-weaker (λ (at : Step × Given × State). IsSound at.2.now) (λ at. IsKept limits at.1 at.0 at.2) (λ at. step_kept limits at.1 at.0 at.2) steps sound

first_by_meeting : (limits : Limits) (n : ℕ) (given : List Given) (steps : List Step) (meets : Bool) → AreSound (take n (cond meets (map own_machine (met limits given steps)) (states_before limits given steps first_state)))
    → AreKept limits (take n (cond meets [] (states_before limits given steps first_state)))
first_by_meeting limits n given steps true sound = All-take (λ (at : Step × Given × State). IsKept limits at.1 at.0 at.2) n [] (All-nil (λ (at : Step × Given × State). IsKept limits at.1 at.0 at.2))
first_by_meeting limits n given steps false sound = all_kept limits (take n (states_before limits given steps first_state)) sound

by_meeting : (limits : Limits) (given : List Given) (steps : List Step) (meets : Bool) → AreSound (cond meets (map own_machine (met limits given steps)) (states_before limits given steps first_state))
    → AreKept limits (cond meets [] (states_before limits given steps first_state))
by_meeting limits given steps true sound = All-nil (λ (at : Step × Given × State). IsKept limits at.1 at.0 at.2)
by_meeting limits given steps false sound = all_kept limits (states_before limits given steps first_state) sound

-- Where the tables of the run are sound, no edit is lost,
pub keeps_in : (limits : Limits) (given : List Given) (steps : List Step) → AreSound (run limits given steps) → AreKept limits (alone limits given steps)
keeps_in limits given steps sound = by_meeting limits given steps (is_meeting steps) sound

-- and so it is of the first of them.
pub first_keeps : (limits : Limits) (n : ℕ) (given : List Given) (steps : List Step) → AreSound (take n (run limits given steps)) → AreKept limits (take n (alone limits given steps))
first_keeps limits n given steps sound = first_by_meeting limits n given steps (is_meeting steps) sound
