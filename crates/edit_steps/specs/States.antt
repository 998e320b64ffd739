-- The steps of a script of one editor: the state before each, what they write, and what holds where they ran.
--
-- For example of `begin` and `end` the first has the state that the script began with, and the second one with a group.
use Rattle.std.specs.Prelude.{◌≡◌, ℕ, List, [], ◌∷◌, flat_map, drop, take, Option, IfSome, Result, OnOk, OnErr, IfErr}
use Rattle.std.specs.List.{All}
use Rattle.std.specs.Io.KnownBytes.{Appends}
use Rattle.osm_outside.specs.Noted.{Noted, NotedFirst, Read, reads_in}
use Rattle.osm_outside.specs.Outside.{Note, Shelved, AppendsFront}
use Rattle.dataset.specs.Sound.{IsSound}
use Rattle.edit_script.specs.declared.step.Step.{Step}
use Rattle.edit_history.specs.Machine.{State, first_state}
use Rattle.edit_steps.specs.declared.limits.Limits.{Limits}
use Rattle.edit_steps.specs.declared.stop.Stop.{Stop}
use Rattle.edit_steps.specs.declared.stop.Stop.TheVariants as stops
use Rattle.edit_steps.specs.Given.{Given, first_given, all_given}
use Rattle.edit_steps.specs.Reads.{begins_in}
use Rattle.edit_steps.specs.Turn.{step_turn, step_text}

-- The steps, each with what it is given and the state before it, from a state on.
abbrev pub states_before : Limits → List Given → List Step → State → List (Step × Given × State)
states_before limits given [] s = []
states_before limits given (step ∷ steps) s = (step, first_given given, s) ∷ states_before limits (drop 1 given) steps (step_turn limits (first_given given) step s).state

-- what these steps write, one after the other
abbrev pub texts : Limits → List (Step × Given × State) → List ℕ
texts limits steps = flat_map (λ (at : Step × Given × State). step_text limits at.1 at.0 at.2) steps

-- the file that a step begins
abbrev pub step_begins : Step × Given × State → Option (List ℕ)
step_begins at = begins_in at.2.group at.0.act

-- What these steps read, one after the other: each file that is begun, and the texts of all steps before it.
abbrev pub reads : Limits → List (Step × Given × State) → List Read
reads limits steps = reads_in step_begins (λ (at : Step × Given × State). step_text limits at.1 at.0 at.2) [] steps

-- each table before a step is sound
abbrev pub AreSound : List (Step × Given × State) → Type 0
AreSound steps = All (λ (at : Step × Given × State). IsSound at.2.now) steps

-- The texts of the first of these steps were written, whole, and nothing behind them.
pub record StepsFinished (limits : Limits) (old new : Option (List ℕ)) (steps : List (Step × Given × State)) : Type 0 where
  pub count : ℕ
  pub text : Appends old new (texts limits (take count steps))

-- Where they stopped: what was written is a front of the text of the first of them, and the tables of these are sound. Where a
-- read failed, it is the whole text of the steps before.
pub record StepsReached (limits : Limits) (old new : Option (List ℕ)) (stop : Stop) (steps : List (Step × Given × State)) : Type 0 where
  pub count : ℕ
  pub text : AppendsFront old new (texts limits (take count steps))
  pub tables : AreSound (take count steps)
  pub finished : stop ≡ stops.ReadFault → StepsFinished limits old new steps

-- The run of one editor's steps where each of them ran, from the first state on: what their reads gave them, the text, what the
-- shelf noted, and the tables.
pub record StepsRan {T : Type 0} (limits : Limits) (told : Option Shelved) (old new : Option (List ℕ)) (seen seen_then : List Note) (result : Result T Stop) (steps : List Step) : Type 0 where
  pub given : List Given
  pub by_files : IfSome told (λ files. given ≡ all_given files steps)
  pub ok : OnOk result (Appends old new (texts limits (states_before limits given steps first_state)))
  pub err : OnErr result (AppendsFront old new (texts limits (states_before limits given steps first_state)))
  pub noted : OnOk result (Noted old seen seen_then (reads limits (states_before limits given steps first_state)))
  pub noted_first : OnErr result (NotedFirst old seen seen_then (reads limits (states_before limits given steps first_state)))
  pub sound : OnOk result (AreSound (states_before limits given steps first_state))
  pub reached : IfErr result (λ stop. StepsReached limits old new stop (states_before limits given steps first_state))
