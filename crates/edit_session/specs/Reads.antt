-- What a session reads: the files in their order, each with the text that was written before it.
--
-- For example where the script s is `tag n1 Ta=1`, `download f`, `print` and `download g`, the reads are s with no text, f with that
-- of the tag, and g with the texts of the tag, the download of f and the print.
use Rattle.std.specs.Prelude.{ℕ, List, [], ◌∷◌, drop, is_some, if◌then◌else◌, Option, None, Some, Result, Ok, Err}
use Rattle.osm_outside.specs.Noted.{Noted, NotedFirst, Read, reads_in}
use Rattle.osm_outside.specs.Outside.{Note}
use Rattle.command_line.specs.Words.{CommandLineValue, command_of}
use Rattle.tool_api.specs.declared.verb.Verb.{Verb}
use Rattle.edit_script.specs.declared.step.Act.{Act}
use Rattle.edit_script.specs.declared.step.Step.{Step}
use Rattle.edit_script.specs.Place.{is_meeting}
use Rattle.edit_script.specs.Script.{steps_of}
use Rattle.edit_history.specs.Machine.{first_state}
use Rattle.many_editors.specs.Meeting.{Editor}
use Rattle.edit_steps.specs.declared.limits.Limits.{Limits}
use Rattle.edit_steps.specs.declared.files.Fetched.{Fetched}
use Rattle.edit_steps.specs.declared.files.Fetched.TheVariants.{Missing, TooLong, Whole}
use Rattle.edit_steps.specs.Fetch.{reading}
use Rattle.edit_steps.specs.Given.{Given, first_given}
use Rattle.edit_steps.specs.Limits.{limits_of}
use Rattle.edit_steps.specs.Needs.{missing_verb}
use Rattle.edit_steps.specs.Reads.{begins_in}
use Rattle.edit_steps.specs.States.{reads, states_before}
use Rattle.edit_session.specs.declared.status.Status.{Status}
use Rattle.edit_session.specs.declared.status.Status.TheVariants as status
use Rattle.edit_session.specs.Meet.{Seat, meet_step_text, own}
use Rattle.edit_session.specs.Session.{met}

-- the file that an act begins: none of an editor that waits
abbrev pub begins_by : Editor → Act → Option (List ℕ)
begins_by e act = if is_some e.waits then None else begins_in e.state.group act

abbrev pub met_begins : Step × Given × Seat → Option (List ℕ)
met_begins at = begins_by (own at.2) at.0.act

-- what these steps of a meeting read
abbrev pub meet_reads : Limits → List (Step × Given × Seat) → List Read
meet_reads limits steps = reads_in met_begins (λ (at : Step × Given × Seat). meet_step_text limits at.1 at.0 at.2) [] steps

-- What steps read that are given this, from an empty table on: each file that one begins, with the texts of all steps before it.
abbrev pub step_reads : Limits → List Given → List Step → List Read
step_reads limits given steps = if is_meeting steps then meet_reads limits (met limits given steps) else reads limits (states_before limits given steps first_state)

-- where each has its tool
abbrev pub steps_reads : Limits → List Given → List Step → Option Verb → List Read
steps_reads limits given steps (Some verb) = []
steps_reads limits given steps None = step_reads limits given steps

abbrev pub script_reads : Limits → List Verb → List Given → Result (List Step) ℕ → List Read
script_reads limits verbs given (Err line) = []
script_reads limits verbs given (Ok steps) = steps_reads limits given steps (missing_verb verbs steps)

abbrev pub file_reads : Limits → List Verb → List Given → Fetched → List Read
file_reads limits verbs given Missing = []
file_reads limits verbs given TooLong = []
file_reads limits verbs given (Whole bytes) = script_reads limits verbs given (steps_of bytes)

-- The script is read first, before anything is written.
abbrev pub name_reads : Limits → List ℕ → List Verb → List Given → List Read
name_reads limits name verbs given = (name, []) ∷ file_reads limits verbs (drop 1 given) (reading limits.script (first_given given))

abbrev pub line_reads : List Verb → List Given → Option CommandLineValue → List Read
line_reads verbs given None = []
line_reads verbs given (Some line) = name_reads (limits_of line) line.script verbs given

-- What a session reads with tools of these verbs, where its reads gave this.
abbrev pub reads_by : List Verb → List (List ℕ) → List Given → List Read
reads_by verbs words given = line_reads verbs given (command_of words)

-- The shelf noted them all; after a fault or want of memory, the first of them.
abbrev pub AreNoted : Option (List ℕ) → List Note → List Note → Status → List Read → Type 0
AreNoted taken old new status.ReadFault reads = NotedFirst taken old new reads
AreNoted taken old new status.WriteFault reads = NotedFirst taken old new reads
AreNoted taken old new status.Memory reads = NotedFirst taken old new reads
AreNoted taken old new answer reads = Noted taken old new reads
