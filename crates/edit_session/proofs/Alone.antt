-- The run of one editor's steps is the run of a script.
use Rattle.std.proofs.Common.{◌≡◌, ℕ, Bool, true, false, List, [], Option, Result, Ok, Err, refl, sym, subst, take, if◌then◌else◌}
use Rattle.std.specs.List.{All}
use Rattle.std.proofs.lemmas.List.Elements.{All-nil, All-take}
use Rattle.std.specs.Io.KnownBytes.{Appends}
use Rattle.std.proofs.KnownBytes.{Appends-nil}
use Rattle.osm_outside.specs.Noted.{Noted, NotedFirst, Read}
use Rattle.osm_outside.specs.Outside.{AppendsFront, Note, Shelved}
use Rattle.osm_outside.proofs.Noting.{noted_none}
use Rattle.dataset.specs.Sound.{IsSound}
use Rattle.edit_script.specs.declared.step.Act.TheVariants.{Look}
use Rattle.edit_script.specs.declared.step.Look.TheVariants.{Upload}
use Rattle.edit_script.specs.declared.step.Step.{Step}
use Rattle.edit_script.specs.Order.{IsOrderly}
use Rattle.edit_script.specs.Place.{is_meeting}
use Rattle.edit_history.specs.Machine.{State, first_state}
use Rattle.edit_steps.specs.declared.limits.Limits.{Limits}
use Rattle.edit_steps.specs.declared.stop.Stop.{Stop}
use Rattle.edit_steps.specs.Given.{Given}
use Rattle.osm_outside.specs.Lines.{AreLines}
use Rattle.osm_outside.proofs.Lines.{all_lines}
use Rattle.edit_steps.specs.Turn.{step_text}
use Rattle.edit_steps.specs.States.{reads, states_before, texts, AreSound, StepsRan, StepsReached}
use Rattle.edit_steps.proofs.Gives.{none_yet, rest_given}
use Rattle.edit_steps.proofs.LineEnds.{response_lines}
use Rattle.edit_session.specs.Meet.{Seat, meet_step_text, meet_texts}
use Rattle.edit_session.specs.Met.{AreBegun, AreMet, IsBegun, IsMet}
use Rattle.edit_session.specs.Parts.{StepLeavesParts}
use Rattle.edit_session.specs.Reads.{meet_reads, step_reads}
use Rattle.edit_session.specs.Runs.{Promised, Ran, Reached}
use Rattle.edit_session.specs.SaidMet.{AreKeptMet, IsKeptMet}
use Rattle.edit_session.specs.Session.{first_output, met, output, run}
use Rattle.edit_session.specs.Uploads.{IsUpload}
use Rattle.edit_session.proofs.Groups.{groups_first, groups_in}
use Rattle.edit_session.proofs.Parts.{parts_first, parts_in}
use Rattle.edit_session.proofs.Uploads.{alone_run, ends_sent, reached_sent}

-- the text of the first steps, of a script for one editor or of a meeting, is whole lines
pub first_lines : (limits : Limits) (given : List Given) (steps : List Step) (n : ℕ) → AreLines (first_output limits given steps n)
first_lines limits given steps n = by_test (is_meeting steps) where
  by_test : (meets : Bool) → AreLines (if meets then meet_texts limits (take n (met limits given steps)) else texts limits (take n (states_before limits given steps first_state)))
  by_test true = all_lines (λ (at : Step × Given × Seat). meet_step_text limits at.1 at.0 at.2) (take n (met limits given steps)) (λ at. response_lines at.0.line _ _)
  by_test false = all_lines (λ (at : Step × Given × State). step_text limits at.1 at.0 at.2) (take n (states_before limits given steps first_state)) (λ at. response_lines at.0.line _ _)

none_of : {X : Type 0} (P : X → Type 0) (n : ℕ) → All P (take n [])
none_of P n = All-take P n [] (All-nil P)

module _ (limits : Limits) (given : List Given) (steps : List Step) (orderly : IsOrderly false steps) (alone : is_meeting steps ≡ false) where
  -- All steps of one editor have run, over sound tables.
  promised_alone : AreSound (states_before limits given steps first_state) → Promised limits given steps
  promised_alone states =
      let sound : AreSound (run limits given steps) = subst AreSound (sym (alone_run limits given steps alone)) states in
      record {
        tables = sound;
        uploads = ends_sent limits given steps orderly alone sound;
        parts = parts_in limits given steps orderly (λ _. states);
        groups = groups_in limits given steps orderly;
        keeps = subst (λ (test : Bool). AreKeptMet limits (if test then met limits given steps else [])) (sym alone) (All-nil (λ (at : Step × Given × Seat). IsKeptMet limits at.1 at.0 at.2));
        meetings = subst (λ (test : Bool). AreMet limits (if test then met limits given steps else [])) (sym alone) (All-nil (λ (at : Step × Given × Seat). IsMet limits at.1 at.0 at.2));
      }

  -- The first steps of one editor have run, over sound tables.
  reached_alone : (old new : Option (List ℕ)) (stop : Stop) → StepsReached limits old new stop (states_before limits given steps first_state) → Reached limits old new stop given steps
  reached_alone old new stop reached =
      let n = reached.count in
      let sound : AreSound (take n (run limits given steps)) = subst (λ l. AreSound (take n l)) (sym (alone_run limits given steps alone)) reached.tables in
      record {
        count = n;
        text = subst (λ (meets : Bool). AppendsFront old new (if meets then meet_texts limits (take n (met limits given steps)) else texts limits (take n (states_before limits given steps first_state)))) (sym alone) reached.text;
        tables = sound;
        uploads = reached_sent limits n given steps orderly alone sound;
        parts = parts_first limits given steps orderly n (λ _. reached.tables);
        groups = groups_first limits given steps n orderly;
        keeps = subst (λ (test : Bool). AreKeptMet limits (take n (if test then met limits given steps else []))) (sym alone) (none_of (λ (at : Step × Given × Seat). IsKeptMet limits at.1 at.0 at.2) n);
        meetings = subst (λ (test : Bool). AreBegun limits (take n (if test then met limits given steps else []))) (sym alone) (none_of (λ (at : Step × Given × Seat). IsBegun limits at.1 at.0 at.2) n);
        finished = λ is.
            let ended = reached.finished is in
            record {
              count = ended.count;
              text = subst (λ (meets : Bool). Appends old new (if meets then meet_texts limits (take ended.count (met limits given steps)) else texts limits (take ended.count (states_before limits given steps first_state)))) (sym alone) ended.text;
              lines = first_lines limits given steps ended.count;
            };
      }

-- What its steps write is the output.
module _ (limits : Limits) (given : List Given) (steps : List Step) (alone : is_meeting steps ≡ false) (P : List ℕ → Type 0) where
  written_alone : P (texts limits (states_before limits given steps first_state)) → P (output limits given steps)
  written_alone is = subst (λ (meets : Bool). P (if meets then meet_texts limits (met limits given steps) else texts limits (states_before limits given steps first_state))) (sym alone) is

-- And what they read is what its steps do.
module _ (limits : Limits) (given : List Given) (steps : List Step) (alone : is_meeting steps ≡ false) (P : List Read → Type 0) where
  read_alone : P (reads limits (states_before limits given steps first_state)) → P (step_reads limits given steps)
  read_alone is = subst (λ (meets : Bool). P (if meets then meet_reads limits (met limits given steps) else reads limits (states_before limits given steps first_state))) (sym alone) is

pub ran_alone : {T : Type 0} (limits : Limits) (o : Option Shelved) (old new : Option (List ℕ)) (seen seen_then : List Note) (result : Result T Stop) (steps : List Step) → IsOrderly false steps → is_meeting steps ≡ false → StepsRan limits o old new seen seen_then result steps → Ran limits o old new seen seen_then result steps
ran_alone limits o old new seen seen_then (Ok x) steps orderly alone ran = record {
  given = ran.given;
  by_files = ran.by_files;
  ok = written_alone limits ran.given steps alone (Appends old new) ran.ok;
  err = tt;
  noted = read_alone limits ran.given steps alone (Noted old seen seen_then) ran.noted;
  noted_first = tt;
  promised = promised_alone limits ran.given steps orderly alone ran.sound;
  reached = tt;
}
ran_alone limits o old new seen seen_then (Err stop) steps orderly alone ran = record {
  given = ran.given;
  by_files = ran.by_files;
  ok = tt;
  err = written_alone limits ran.given steps alone (AppendsFront old new) ran.err;
  noted = tt;
  noted_first = read_alone limits ran.given steps alone (NotedFirst old seen seen_then) ran.noted_first;
  promised = tt;
  reached = reached_alone limits ran.given steps orderly alone old new stop ran.reached;
}

abbrev no_text : List ℕ
no_text = []

neither : (test : Bool) → (if test then no_text else no_text) ≡ no_text
neither true = refl
neither false = refl

-- Nothing was written.
pub reached_none : (limits : Limits) (old : Option (List ℕ)) (stop : Stop) (given : List Given) (steps : List Step) (front : (all : List ℕ) → AppendsFront old old all) → Reached limits old old stop given steps
reached_none limits old stop given steps front = record {
  count = 0;
  text = front (first_output limits given steps 0);
  tables = All-nil (λ (at : Step × Given × State). IsSound at.2.now);
  uploads = All-nil (λ (at : Step × Given × State). (size : ℕ) → at.0.act ≡ Look (Upload size) → IsUpload limits at.1 at.0 size at.2);
  parts = All-nil (λ (at : Step × Given × State). StepLeavesParts limits at.1 at.0 at.2);
  groups = tt;
  keeps = All-nil (λ (at : Step × Given × Seat). IsKeptMet limits at.1 at.0 at.2);
  meetings = All-nil (λ (at : Step × Given × Seat). IsBegun limits at.1 at.0 at.2);
  finished = λ is. record { count = 0; text = subst (Appends old old) (sym (neither (is_meeting steps))) (Appends-nil old); lines = first_lines limits given steps 0 };
}

pub nothing_noted : (taken : Option (List ℕ)) (seen : List Note) (reads : List Read) → NotedFirst taken seen seen reads
nothing_noted taken seen reads = record { count = 0; noted = noted_none taken seen }

-- Nothing was read or written.
pub ran_nothing : {T : Type 0} (limits : Limits) (o : Option Shelved) (old : Option (List ℕ)) (seen : List Note) (steps : List Step) (stop : Stop) (front : (all : List ℕ) → AppendsFront old old all) → Ran {T = T} limits o old old seen seen (Err stop) steps
ran_nothing limits o old seen steps stop front = record {
  given = rest_given o steps;
  by_files = none_yet o steps;
  ok = tt;
  err = front (output limits (rest_given o steps) steps);
  noted = tt;
  noted_first = nothing_noted old seen (step_reads limits (rest_given o steps) steps);
  promised = tt;
  reached = reached_none limits old stop (rest_given o steps) steps front;
}
