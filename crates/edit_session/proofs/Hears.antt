-- What others changed is heard at each step of a script.
use Rattle.std.proofs.Common.{◌≡◌, ℕ, Bool, true, false, cond, List, [], ◌∷◌, drop, take, Option, None, refl, ap}
use Rattle.std.proofs.lemmas.Bool.{true≢false}
use Rattle.std.proofs.lemmas.List.Elements.{All-nil, All-cons, All-take}
use Rattle.osm_base.specs.declared.key.Key.{Key}
use Rattle.osm_table.specs.declared.told.Told.{Told}
use Rattle.sample_city.specs.City.{city}
use Rattle.tool_api.specs.declared.job.Job as jobs
use Rattle.tool_api.specs.declared.job.Job.TheVariants.{Merge}
use Rattle.edit_script.specs.declared.reply.StepReply.TheVariants.{Done, Skipped}
use Rattle.edit_script.specs.declared.step.Act.{Act}
use Rattle.edit_script.specs.declared.step.Act.TheVariants as act
use Rattle.edit_script.specs.declared.step.HistoryStep.TheVariants as history
use Rattle.edit_script.specs.declared.step.Purpose.TheVariants as purpose
use Rattle.edit_script.specs.declared.step.Step.{Step}
use Rattle.edit_script.specs.Place.{is_meeting}
use Rattle.edit_history.specs.declared.counts.Group.{Group}
use Rattle.edit_history.specs.declared.counts.Group.TheVariants as group
use Rattle.edit_history.specs.declared.edit_step.EditAnswer.{EditAnswer}
use Rattle.edit_history.specs.declared.edit_step.EditAnswer.TheVariants as edit
use Rattle.edit_history.specs.Machine.{State, first_state}
use Rattle.edit_history.specs.Steps.{job_move}
use Rattle.editor_laws.specs.Heard.{HearsAll}
use Rattle.editor_laws.specs.Steps.{tells}
use Rattle.editor_laws.specs.Texts.{BringsTexts, IsTextTable}
use Rattle.editor_laws.proofs.HeardSteps.{job_step_hears}
use Rattle.editor_laws.proofs.TextCity.{city_texts}
use Rattle.edit_steps.specs.declared.files.Fetched.{Fetched}
use Rattle.edit_steps.specs.declared.limits.Limits.{Limits}
use Rattle.edit_steps.specs.declared.loading.Found.{Found}
use Rattle.edit_steps.specs.declared.loading.Found.TheVariants as found
use Rattle.edit_steps.specs.Given.{Given, first_given}
use Rattle.edit_steps.specs.Groups.{is_given_up}
use Rattle.edit_steps.specs.Load.{act_found, found_in}
use Rattle.edit_steps.specs.States.{states_before}
use Rattle.edit_steps.specs.Turn.{Turn, act_turn, file_turn, job_turn, moved_answer, skipped_turn, step_turn}
use Rattle.edit_session.specs.Heard.{AreHeard, StepHears}
use Rattle.edit_session.specs.Said.{act_tells, alone, file_tells}
use Rattle.edit_session.specs.Session.{steps_in}
use Rattle.edit_session.proofs.Saves.{in_brings}
use Rattle.edit_session.proofs.ScriptTexts.{ActBringsTexts, StepsBringTexts}
use Rattle.edit_session.proofs.Texts.{FoundBrings, HaveTexts, first_texts, found_brings, if_given, turn_texts}

-- a step that is done by a move of the machine
pub done_move : (a : EditAnswer) (made : List Key) → (moved_answer a).reply ≡ Done made → a ≡ edit.Done made
done_move (edit.Done keys) made is = let same : keys ≡ made = cc in ap edit.Done same
done_move (edit.Refused why) made is = absurd cc

pub not_refused : (g : Group) → is_given_up g ≡ false → g ≡ group.Refused → ⊥
not_refused group.Outside free is = absurd cc
not_refused group.Running free is = absurd cc
not_refused group.Refused free is = true≢false free

-- Where a turn is done, what is told is heard.
abbrev pub TurnHears : State → (Key → Option Told) → Turn → Type 0
TurnHears s told t = (made : List Key) → t.answer.reply ≡ Done made → HearsAll told s.now t.state.now

module _ (s : State) (texts : IsTextTable s.now) where
  nothing_told : (t : Turn) → TurnHears s (λ k. None) t
  nothing_told t made is k theirs side news = absurd side

  skipped_hears : (a : Act) (told : Key → Option Told) → TurnHears s told (skipped_turn a s)
  skipped_hears (act.History history.End) told made is = let never : Skipped ≡ Done made = is in absurd cc
  skipped_hears a told made is = let never : Skipped ≡ Done made = is in absurd cc

  module _ (free : s.group ≡ group.Refused → ⊥) where
    job_heard : (limit : ℕ) (job : jobs.Job) → BringsTexts job → TurnHears s (tells job) (job_turn limit job s)
    job_heard limit job brings made is = job_step_hears limit job s free texts brings made (done_move (job_move limit job s).answer made is)

    file_heard : (limit : ℕ) (f : Found) → FoundBrings f → TurnHears s (file_tells f) (file_turn limit f s)
    file_heard limit (found.Job job) brings = job_heard limit job brings
    file_heard limit found.Nothing brings = nothing_told (file_turn limit found.Nothing s)
    file_heard limit (found.Bad fault) brings = nothing_told (file_turn limit (found.Bad fault) s)
    file_heard limit (found.Bytes bytes) brings = nothing_told (file_turn limit (found.Bytes bytes) s)
    file_heard limit (found.Objects objects) brings = nothing_told (file_turn limit (found.Objects objects) s)

    act_heard : (limits : Limits) (f : Found) (a : Act) → FoundBrings f → ActBringsTexts a → TurnHears s (act_tells f a) (act_turn limits f a s)
    act_heard limits f (act.Job job) brings own = job_heard limits.objects job own
    act_heard limits f (act.Generate streets) brings own = job_heard limits.objects (Merge (city streets)) (city_texts streets)
    act_heard limits f (act.File name (purpose.Download area wanted)) brings own = file_heard limits.objects f brings
    act_heard limits f (act.File name purpose.Import) brings own = file_heard limits.objects f brings
    act_heard limits f (act.File name purpose.Confirm) brings own = nothing_told (act_turn limits f (act.File name purpose.Confirm) s)
    act_heard limits f (act.File name purpose.Resume) brings own = nothing_told (act_turn limits f (act.File name purpose.Resume) s)
    act_heard limits f a brings own = λ made is k theirs side news. absurd side

  pub turn_heard : (limits : Limits) (f : Found) (a : Act) (b : Bool) → (b ≡ false → s.group ≡ group.Refused → ⊥) → FoundBrings f → ActBringsTexts a → TurnHears s (act_tells f a) (cond b (skipped_turn a s) (act_turn limits f a s))
  turn_heard limits f a true free brings own = skipped_hears a (act_tells f a)
  turn_heard limits f a false free brings own = act_heard (free refl) limits f a brings own

pub found_texts : (limits : Limits) (given : Given) (g : Group) (a : Act) → FoundBrings (found_in limits given g a)
found_texts limits given g a = if_given (is_given_up g) (act_found limits given a) (found_brings limits given a)

step_heard : (limits : Limits) (given : Given) (step : Step) (s : State) → IsTextTable s.now → ActBringsTexts step.act → StepHears limits given step s
step_heard limits given step s texts own =
    turn_heard s texts limits (found_in limits given s.group step.act) step.act (is_given_up s.group) (not_refused s.group) (found_texts limits given s.group step.act) own

pub run_heard : (limits : Limits) (given : List Given) (steps : List Step) (s : State) → StepsBringTexts steps → HaveTexts s → AreHeard limits (states_before limits given steps s)
run_heard limits given [] s i h = All-nil (λ (at : Step × Given × State). StepHears limits at.1 at.0 at.2)
run_heard limits given (step ∷ steps) s i h =
    let got = first_given given in
    let next : State = (step_turn limits got step s).state in
    All-cons (λ (at : Step × Given × State). StepHears limits at.1 at.0 at.2) (step, got, s) (states_before limits (drop 1 given) steps next)
    (step_heard limits got step s h.now i.0)
    (run_heard limits (drop 1 given) steps next i.1
    (turn_texts limits (found_in limits got s.group step.act) step.act s (found_texts limits got s.group step.act) i.0 h))

by_meeting : (limits : Limits) (given : List Given) (steps : List Step) (meets : Bool) → StepsBringTexts steps → AreHeard limits (cond meets [] (states_before limits given steps first_state))
by_meeting limits given steps true brings = All-nil (λ (at : Step × Given × State). StepHears limits at.1 at.0 at.2)
by_meeting limits given steps false brings = run_heard limits given steps first_state brings first_texts

-- Whatever a script is, what others changed is heard at each of its steps,
pub heard_in : (limits : Limits) (given : List Given) (f : Fetched) → AreHeard limits (alone limits given (steps_in f))
heard_in limits given f = by_meeting limits given (steps_in f) (is_meeting (steps_in f)) (in_brings f)

-- and so at the first of them.
pub first_heard : (limits : Limits) (n : ℕ) (given : List Given) (f : Fetched) → AreHeard limits (take n (alone limits given (steps_in f)))
first_heard limits n given f = All-take (λ (at : Step × Given × State). StepHears limits at.1 at.0 at.2) n (alone limits given (steps_in f)) (heard_in limits given f)
