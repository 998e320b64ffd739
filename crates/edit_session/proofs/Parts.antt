-- A step of a script leaves of what it names the parts that aren't asked for.
use Rattle.std.proofs.Common.{◌≡◌, ℕ, zero, suc, Bool, true, false, cond, List, [], ◌∷◌, drop, length, take, refl, sym, ap, ◌∙◌, subst, arith}
use Rattle.std.proofs.lemmas.List.{take_all}
use Rattle.std.proofs.lemmas.List.Elements.{All-nil, All-cons, All-head, All-tail, All-take}
use Rattle.osm_base.specs.declared.key.Key.{Key}
use Rattle.osm_table.specs.Table.{TableValue}
use Rattle.dataset.specs.Sound.{IsSound}
use Rattle.tool_api.specs.declared.job.Job as jobs
use Rattle.tool_api.specs.declared.reply.Reply.{Reply}
use Rattle.tool_api.specs.declared.reply.Reply.TheVariants as reply
use Rattle.tool_api.specs.Plain.{plain}
use Rattle.edit_script.specs.Order.{IsMeant, IsNoDownload, IsOrderly}
use Rattle.edit_script.specs.Place.{is_meeting}
use Rattle.edit_script.specs.declared.reply.StepReply.TheVariants.{Done, Skipped}
use Rattle.edit_script.specs.declared.step.Act.{Act}
use Rattle.edit_script.specs.declared.step.Act.TheVariants as act
use Rattle.edit_script.specs.declared.step.Step.{Step}
use Rattle.edit_history.specs.declared.counts.Group.{Group}
use Rattle.edit_history.specs.declared.counts.Group.TheVariants as group
use Rattle.edit_history.specs.Machine.{State, done_in, first_state, ran}
use Rattle.edit_history.specs.Steps.{replied}
use Rattle.editor_laws.specs.Editing.{is_merge}
use Rattle.editor_laws.specs.Listed.{LeavesParts}
use Rattle.editor_laws.proofs.KeptOwns.{job_tags}
use Rattle.editor_laws.proofs.KeptShapes.{job_shapes}
use Rattle.edit_steps.specs.declared.limits.Limits.{Limits}
use Rattle.edit_steps.specs.declared.loading.Found.{Found}
use Rattle.edit_steps.specs.Given.{Given, first_given}
use Rattle.edit_steps.specs.Groups.{is_given_up, is_open}
use Rattle.edit_steps.specs.Load.{found_in}
use Rattle.edit_steps.specs.States.{AreSound, states_before}
use Rattle.edit_steps.specs.Turn.{act_turn, job_turn, moved_answer, skipped_turn, step_turn}
use Rattle.edit_steps.proofs.Steps.{orderly_on}
use Rattle.edit_session.specs.Parts.{LeaveParts, StepLeavesParts}
use Rattle.edit_session.specs.Said.{alone}
use Rattle.edit_session.proofs.Hears.{not_refused}

no_merge : (job : jobs.Job) → IsNoDownload job → is_merge job ≡ false
no_merge (jobs.TheVariants.Merge told) none = absurd none
no_merge job none = refl

module _ (s : State) (sound : IsSound s.now) (job : jobs.Job) (none : is_merge job ≡ false) where
  parts_left : (limit : ℕ) → LeavesParts job s.now (plain job s.now limit).table
  parts_left limit = record {
    tags = λ k e is free. job_tags s.now k e is sound job limit none free;
    shape = λ k e is free. job_shapes s.now k e is sound job limit none free;
  }

  -- a table of a group that isn't given up
  its_table : (g : Group) (u : TableValue) → (g ≡ group.Refused → ⊥) → (done_in g u s).now ≡ u
  its_table group.Outside u free = refl
  its_table group.Running u free = refl
  its_table group.Refused u free = absurd (free refl)

  by_reply : (r : Reply) (u : TableValue) (made : List Key) → (s.group ≡ group.Refused → ⊥) → (moved_answer (replied r)).reply ≡ Done made → LeavesParts job s.now u → LeavesParts job s.now (ran r u s).now
  by_reply (reply.Done keys) u made free is left = subst (LeavesParts job s.now) (sym (its_table s.group u free)) left
  by_reply (reply.Refused why) u made free is left = absurd cc

  job_parts : (limit : ℕ) (made : List Key) → (s.group ≡ group.Refused → ⊥) → (job_turn limit job s).answer.reply ≡ Done made → LeavesParts job s.now (job_turn limit job s).state.now
  job_parts limit made free is = by_reply (plain job s.now limit).reply (plain job s.now limit).table made free is (parts_left limit)

  turn_parts : (limits : Limits) (f : Found) (a : Act) (made : List Key) (b : Bool) → (b ≡ false → s.group ≡ group.Refused → ⊥) → a ≡ act.Job job
      → (cond b (skipped_turn a s) (act_turn limits f a s)).answer.reply ≡ Done made → LeavesParts job s.now (cond b (skipped_turn a s) (act_turn limits f a s)).state.now
  turn_parts limits f a made true free is done = let never : Skipped ≡ Done made = ap (λ x. (skipped_turn x s).answer.reply) (sym is) ∙ done in absurd cc
  turn_parts limits f a made false free is done =
      subst (λ x. LeavesParts job s.now (act_turn limits f x s).state.now) (sym is) (job_parts limits.objects made (free refl) (ap (λ x. (act_turn limits f x s).answer.reply) (sym is) ∙ done))

step_parts : (limits : Limits) (given : Given) (step : Step) (s : State) → IsSound s.now → IsMeant step.act → StepLeavesParts limits given step s
step_parts limits given step s sound meant job made is done =
    let means : IsMeant (act.Job job) = subst IsMeant is meant in
    turn_parts s sound job (no_merge job means.1) limits (found_in limits given s.group step.act) step.act made (is_given_up s.group) (not_refused s.group) is done

first_parts : (limits : Limits) (n : ℕ) (given : List Given) (steps : List Step) (s : State) → IsOrderly (is_open s.group) steps → AreSound (take n (states_before limits given steps s)) → LeaveParts limits (take n (states_before limits given steps s))
first_parts limits zero given steps s orderly sound = All-nil (λ (at : Step × Given × State). StepLeavesParts limits at.1 at.0 at.2)
first_parts limits (suc n) given [] s orderly sound = All-nil (λ (at : Step × Given × State). StepLeavesParts limits at.1 at.0 at.2)
first_parts limits (suc n) given (step ∷ steps) s orderly sound =
    let got = first_given given in
    let next = (step_turn limits got step s).state in
    let behind = take n (states_before limits (drop 1 given) steps next) in
    All-cons (λ (at : Step × Given × State). StepLeavesParts limits at.1 at.0 at.2) (step, got, s) behind
    (step_parts limits got step s (All-head (λ (at : Step × Given × State). IsSound at.2.now) (step, got, s) behind sound) orderly.0)
    (first_parts limits n (drop 1 given) steps next (orderly_on limits (found_in limits got s.group step.act) step.act s next steps orderly.1 refl orderly.2)
    (All-tail (λ (at : Step × Given × State). IsSound at.2.now) (step, got, s) behind sound))

module _ (limits : Limits) (given : List Given) (steps : List Step) (orderly : IsOrderly false steps) where
  by_meeting : (n : ℕ) (meets : Bool) → (meets ≡ false → AreSound (take n (states_before limits given steps first_state))) → LeaveParts limits (take n (cond meets [] (states_before limits given steps first_state)))
  by_meeting n true sound = All-take (λ (at : Step × Given × State). StepLeavesParts limits at.1 at.0 at.2) n [] (All-nil (λ (at : Step × Given × State). StepLeavesParts limits at.1 at.0 at.2))
  by_meeting n false sound = first_parts limits n given steps first_state orderly (sound refl)

  -- Each job of a script leaves the parts that it isn't asked for, among the first steps,
  pub parts_first : (n : ℕ) → (is_meeting steps ≡ false → AreSound (take n (states_before limits given steps first_state))) → LeaveParts limits (take n (alone limits given steps))
  parts_first n sound = by_meeting n (is_meeting steps) sound

  -- and among all of them.
  pub parts_in : (is_meeting steps ≡ false → AreSound (states_before limits given steps first_state)) → LeaveParts limits (alone limits given steps)
  parts_in sound =
      let all = alone limits given steps in
      let every = states_before limits given steps first_state in
      let n = length all in
      subst (LeaveParts limits) (take_all n all (omega arith))
      (parts_first n (λ is. All-take (λ (at : Step × Given × State). IsSound at.2.now) n every (sound is)))
