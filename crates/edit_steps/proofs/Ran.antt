-- The steps of one editor ran, each over a sound table.
use Rattle.std.proofs.Common.{◌≡◌, ℕ, ◌+◌, ◌<◌, ◌≤◌, List, ◌∷◌, ◌++◌, Option, Ok, Err, sym, ap, ◌∙◌, subst, drop, take, get_or, length, refl}
use Rattle.std.specs.Io.KnownBytes.{Appends}
use Rattle.osm_outside.specs.Noted.{note_of}
use Rattle.osm_outside.specs.Outside.{AppendsFront, Note, Shelved}
use Rattle.dataset.specs.Sound.{IsSound}
use Rattle.edit_script.specs.declared.step.Step.{Step}
use Rattle.edit_history.specs.Machine.{State, first_state}
use Rattle.edit_steps.specs.declared.limits.Limits.{Limits}
use Rattle.edit_steps.specs.declared.loading.Found.{Found}
use Rattle.edit_steps.specs.declared.stop.Stop.{Stop}
use Rattle.edit_steps.specs.declared.stop.Stop.TheVariants as stops
use Rattle.edit_steps.specs.Given.{Given, Finds, given_by}
use Rattle.edit_steps.specs.Load.{found_in}
use Rattle.edit_steps.specs.Reads.{begins_in}
use Rattle.edit_steps.specs.States.{states_before, step_begins, texts, StepsRan}
use Rattle.edit_steps.specs.Turn.{step_turn, step_text, turn, turn_text}
use Rattle.edit_steps.proofs.Goes as run
use Rattle.edit_steps.proofs.Goes.{Ended, Goes, Stopped}

module _ (limits : Limits) (o : Option Shelved) (old : Option (List ℕ)) (seen : List Note) where
  -- the steps before this one ran
  abbrev pub StepsGo : Option (List ℕ) → List Note → ℕ → List Step → State → Type 0
  StepsGo now seen_now i steps s = Goes (states_before limits) (λ (at : Step × Given × State). step_text limits at.1 at.0 at.2) step_begins (λ (at : Step × Given × State). IsSound at.2.now) o old now seen seen_now i steps first_state s

  abbrev StepsStopped : Option (List ℕ) → Option (List ℕ) → List Note → List Step → Type 0
  StepsStopped mid new seen_new steps = Stopped (states_before limits) (λ (at : Step × Given × State). step_text limits at.1 at.0 at.2) step_begins (λ (at : Step × Given × State). IsSound at.2.now) o old mid new seen seen_new steps first_state

  abbrev StepsEnded : Option (List ℕ) → List Note → List Step → Type 0
  StepsEnded new seen_new steps = Ended (states_before limits) (λ (at : Step × Given × State). step_text limits at.1 at.0 at.2) step_begins (λ (at : Step × Given × State). IsSound at.2.now) o old new seen seen_new steps first_state

  pub steps_start : (steps : List Step) (s : State) → s ≡ first_state → StepsGo old seen 0 steps s
  steps_start steps s same = run.starts (states_before limits) (λ (at : Step × Given × State). step_text limits at.1 at.0 at.2) step_begins (λ (at : Step × Given × State). IsSound at.2.now) o old seen steps first_state s same

  ran_stopped : {T : Type 0} (mid new : Option (List ℕ)) (seen_new : List Note) (steps : List Step) (stop : Stop) → (stop ≡ stops.ReadFault → new ≡ mid) → StepsStopped mid new seen_new steps → StepsRan {T = T} limits o old new seen seen_new (Err stop) steps
  ran_stopped mid new seen_new steps stop still stopped = record {
    given = stopped.given;
    by_files = stopped.by_files;
    ok = tt;
    err = stopped.whole;
    noted = tt;
    noted_first = stopped.noted;
    sound = tt;
    reached = record {
      count = stopped.count;
      text = stopped.front;
      tables = stopped.ready;
      finished = λ is. record { count = stopped.finished; text = subst (λ t. Appends old t (texts limits (take stopped.finished (states_before limits stopped.given steps first_state)))) (sym (still is)) stopped.before };
    };
  }

  module _ (mid : Option (List ℕ)) (seen_mid : List Note) (i : ℕ) (steps : List Step) (s : State) (goes : StepsGo mid seen_mid i steps s) where
    -- All steps have run.
    pub steps_end : {T : Type 0} (x : T) → length steps ≤ i → StepsRan {T = T} limits o old mid seen seen_mid (Ok x) steps
    steps_end x past =
        let ended : StepsEnded mid seen_mid steps = run.ends (states_before limits) (λ (at : Step × Given × State). step_text limits at.1 at.0 at.2) step_begins (λ (at : Step × Given × State). IsSound at.2.now) o old seen steps first_state mid seen_mid i s goes past (λ given. refl) in
        record { given = ended.given; by_files = ended.by_files; ok = ended.written; err = tt; noted = ended.noted; noted_first = tt; sound = ended.good; reached = tt }

    module _ (step : Step) (found : Found) (h : i < length steps) (e : step ≡ get_or steps i step) (here : IsSound s.now) (finds : Finds o (λ files. given_by files step.act) found (λ given. found_in limits given s.group step.act)) where
      leads : (next : State) → next ≡ (turn limits found step.act s).state → (more : List Given)
          → states_before limits (finds.given ∷ more) (step ∷ drop (i + 1) steps) s ≡ (step, finds.given, s) ∷ states_before limits more (drop (i + 1) steps) next
      leads next after more =
          let reached : next ≡ (step_turn limits finds.given step s).state = after ∙ ap (λ what. (turn limits what step.act s).state) finds.is in
          ap (λ t. (step, finds.given, s) ∷ states_before limits more (drop (i + 1) steps) t) (sym reached)

      -- The step goes on,
      pub steps_go_on : (new : Option (List ℕ)) (seen_new : List Note) (next : State) → Appends mid new (turn_text step.line (turn limits found step.act s)) → seen_new ≡ seen_mid ++ note_of (begins_in s.group step.act) mid → next ≡ (turn limits found step.act s).state → StepsGo new seen_new (i + 1) steps next
      steps_go_on new seen_new next text notes after =
          run.goes_on (states_before limits) (λ (at : Step × Given × State). step_text limits at.1 at.0 at.2) step_begins (λ (at : Step × Given × State). IsSound at.2.now) o old seen steps first_state mid seen_mid i s goes step finds.given next h e finds.by_files (leads next after) new seen_new
          (subst (λ what. Appends mid new (turn_text step.line (turn limits what step.act s))) finds.is text) notes here

      -- or fails: what was written is a front of the whole, and where its read failed, it wrote nothing.
      pub steps_fail : {T : Type 0} (stop : Stop) (new : Option (List ℕ)) (seen_new : List Note) → (stop ≡ stops.ReadFault → new ≡ mid) → AppendsFront mid new (turn_text step.line (turn limits found step.act s)) → seen_new ≡ seen_mid ++ note_of (begins_in s.group step.act) mid → StepsRan {T = T} limits o old new seen seen_new (Err stop) steps
      steps_fail stop new seen_new still text notes =
          ran_stopped mid new seen_new steps stop still (run.fails (states_before limits) (λ (at : Step × Given × State). step_text limits at.1 at.0 at.2) step_begins (λ (at : Step × Given × State). IsSound at.2.now) o old seen steps first_state mid seen_mid i s goes step finds.given (turn limits found step.act s).state h e finds.by_files
          (leads (turn limits found step.act s).state refl) (λ (at : Step × Given × State). IsSound at.2.now) (λ at sound. sound) new seen_new
          (subst (λ what. AppendsFront mid new (turn_text step.line (turn limits what step.act s))) finds.is text) notes here)
