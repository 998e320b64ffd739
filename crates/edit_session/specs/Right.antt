-- What is promised of a whole session, whatever its words, its script and its files.
--
-- For example with the words `editor s`, where no file is called s, the status is `NoScript`: the shelf answered that s isn't
-- there, no call failed, and nothing was written.
use Rattle.std.specs.Prelude.{◌≡◌, ◌≢◌, ◌≤◌, ◌⊎◌, ℕ, List, None, IfSome}
use Rattle.osm_outside.specs.Lines.{TookLines}
use Rattle.osm_outside.specs.Outside.{Rose}
use Rattle.command_line.specs.Words.{command_of}
use Rattle.tool_api.specs.declared.verb.Verb.{Verb}
use Rattle.edit_session.specs.declared.status.Status.{Status}
use Rattle.edit_session.specs.declared.status.Status.TheVariants as status
use Rattle.edit_session.specs.Confirms.{AreConfirmedBy}
use Rattle.edit_session.specs.Keeps.{AreKeptBy}
use Rattle.edit_session.specs.Met.{AreMetBy}
use Rattle.edit_session.specs.Missed.{MissesBy}
use Rattle.edit_session.specs.Moment.{Outside}
use Rattle.edit_steps.specs.Given.{Given}
use Rattle.edit_session.specs.Runs.{AreSoundBy, LineStopped}
use Rattle.edit_session.specs.Reads.{reads_by, AreNoted}
use Rattle.edit_session.specs.Saves.{AreSavesBy}
use Rattle.edit_session.specs.Session.{outcome_by, line_given, Agrees, IfStop, IsAsked, IsEarly}
use Rattle.edit_session.specs.Uploads.{AreUploadsBy}

-- What is right of a session with tools of these verbs, asked for by these words, that found the shelf and the sink so, left them
-- so, and answered this status. Each field but the first two is a promise of its own.
pub record IsRight {S K : Type 0} (verbs : List Verb) (asked_for : List (List ℕ)) (before after : Outside S K) (answer : Status) : Type 0 where
  -- What the reads gave: the script's bytes first, and then those of the file of each step. A file may have changed meanwhile. All
  -- that is said below of scripts and files is said of just this; where the shelf tells its files, it is what they hold.
  pub given : List Given
  pub by_files : IfSome before.files (λ files. given ≡ line_given (command_of asked_for) files)
  -- The status is that of the outcome and the sink took its text; after a fault or want of memory it took a front of the text.
  pub outcome : Agrees before.text after.text answer (outcome_by verbs asked_for given)
  -- That front is one of the text of the steps that were reached, for which the promises hold. After a read fault it is the whole
  -- text of some first steps.
  pub stopped : IfStop answer (λ stop. LineStopped (command_of asked_for) before.text after.text stop given)
  -- What the shelf noted of its reads: the script first, before anything was written, and then each file that a step begins, when the
  -- sink had taken the whole text of all steps before it, and no more. So each step's text is handed on before the next one reads.
  -- After a fault or want of memory these are the first reads.
  pub noted : AreNoted before.text before.noted after.noted answer (reads_by verbs asked_for given)
  -- Unless a write failed, no line is cut: a sink that had taken whole lines before has taken whole lines after it. So after a read
  -- fault, and after want of memory.
  pub lines : answer ≢ status.WriteFault → TookLines before.text → TookLines after.text
  -- It doesn't give up by itself, but for memory.
  pub complete : (outcome_by verbs asked_for given).0 ≡ status.Done
      → (Rose before.read_faults after.read_faults → ⊥) → (Rose before.write_faults after.write_faults → ⊥)
      → (answer ≡ status.Done) ⊎ (answer ≡ status.Memory)
  -- A fault is told only where a call failed.
  pub read : answer ≡ status.ReadFault → Rose before.read_faults after.read_faults
  pub write : answer ≡ status.WriteFault → Rose before.write_faults after.write_faults
  -- No fault is passed over: with any other answer no read and no write failed.
  pub read_quiet : answer ≢ status.ReadFault → after.read_faults ≡ before.read_faults
  pub write_quiet : answer ≢ status.WriteFault → after.write_faults ≡ before.write_faults
  -- No count of faults falls.
  pub later : (before.read_faults ≤ after.read_faults) × (before.write_faults ≤ after.write_faults)
  -- Words that ask for nothing are bad, unless no memory is left, and then nothing is read or written. No others are.
  pub words : answer ≡ status.BadWords → command_of asked_for ≡ None
  pub bad_words : command_of asked_for ≡ None → (answer ≡ status.BadWords) ⊎ (answer ≡ status.Memory)
  pub unread : command_of asked_for ≡ None → (after.shelf ≡ before.shelf) × (after.sink ≡ before.sink)
  -- Until the steps run nothing is written, and whether there is a script is what the shelf answered.
  pub unwritten : IsEarly answer → after.sink ≡ before.sink
  pub asked : IsAsked after.begun answer
  -- What the shelf tells of its files stays.
  pub told : after.files ≡ before.files
  -- A tool is missed only where the script's steps miss it: one of them needs it, and fewer boxes have its verb than there are editors.
  pub no_tool : (verb : Verb) → answer ≡ status.NoTool verb → MissesBy (command_of asked_for) given verbs verb
  -- Each table of the run is sound.
  pub tables : answer ≡ status.Done → AreSoundBy (command_of asked_for) given
  -- Each upload of the run replies ok exactly where nothing refuses the plan of the table. Its text is then the changes in
  -- chunks, and each sound server that has the bases, and nothing else that refers to what is deleted, takes each prefix of
  -- them whatever fresh ids it picks, and has the edited data after the last. Whatever others did meanwhile, it overwrites nothing
  -- unseen.
  pub uploads : answer ≡ status.Done → AreUploadsBy (command_of asked_for) given
  -- Each save of the run writes a text that is read back as the very table, and from which a `resume` goes on with it.
  pub saves : answer ≡ status.Done → AreSavesBy (command_of asked_for) given
  -- Each confirmation of the run by which a server tells what it took of the plan is taken, and from the table after it the
  -- upload goes on: its plan is what was left. It is taken after a refusal too, and the table is again from that server's states.
  pub confirms : AreConfirmedBy (command_of asked_for) given
  -- In a meeting nothing is overwritten unseen: the server is sound before and after each step, each base in each table of each
  -- editor is what the server had in one of its states, each positive key of it stands at the server, each change of a send
  -- that the server accepts finds there what the editor's table has as base, and no fetch is refused as a version clash. What is
  -- written there by an upload, a save or another look at a table is what `uploads` and `saves` speak of.
  pub meetings : answer ≡ status.Done → AreMetBy (command_of asked_for) given
  -- No edit is lost: each step of the run keeps what is wanted of each edited object of which it doesn't say that it changes or
  -- forgets it. It is still to be sent, or the server is told to have it, and it is there under the id that it got where answers are
  -- taken. None is made up: what is edited after a step was so before, or is new, or the step says so. And what others changed is
  -- heard: whatever a step tells in a newer version. In a meeting no step touches another editor's table.
  pub keeps : answer ≡ status.Done → AreKeptBy (command_of asked_for) given
