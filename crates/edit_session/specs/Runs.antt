-- What every session does, whatever its reads give.
use Rattle.std.specs.Prelude.{◌≡◌, ℕ, List, drop, take, Option, None, Some, IfSome, Result, OnOk, OnErr, IfErr}
use Rattle.std.specs.Io.KnownBytes.{Appends}
use Rattle.osm_outside.specs.Lines.{AreLines}
use Rattle.osm_outside.specs.Noted.{Noted, NotedFirst}
use Rattle.osm_outside.specs.Outside.{Note, Shelved, AppendsFront}
use Rattle.command_line.specs.Words.{CommandLineValue}
use Rattle.edit_script.specs.declared.step.Step.{Step}
use Rattle.edit_steps.specs.declared.limits.Limits.{Limits}
use Rattle.edit_steps.specs.declared.stop.Stop.{Stop}
use Rattle.edit_steps.specs.declared.stop.Stop.TheVariants as stops
use Rattle.edit_steps.specs.Fetch.{reading}
use Rattle.edit_steps.specs.Given.{Given, first_given, all_given}
use Rattle.edit_steps.specs.Limits.{limits_of}
use Rattle.edit_steps.specs.States.{AreSound}
use Rattle.edit_session.specs.Heard.{AreHeard, AreHeardMet}
use Rattle.edit_session.specs.Invents.{AreAsked}
use Rattle.edit_session.specs.Groups.{AreTakenBack}
use Rattle.edit_session.specs.Met.{AreBegun, AreMet}
use Rattle.edit_session.specs.Parts.{LeaveParts}
use Rattle.edit_session.specs.Reads.{step_reads}
use Rattle.edit_session.specs.Said.{AreKept, alone}
use Rattle.edit_session.specs.SaidMet.{AreKeptMet}
use Rattle.edit_session.specs.Saves.{AreSaves}
use Rattle.edit_session.specs.Session.{output, first_output, run, meetings, steps_in}
use Rattle.edit_session.specs.Uploads.{AreUploads, run_of}

-- What holds of these steps where each of them ran and was given this.
pub record Promised (limits : Limits) (given : List Given) (steps : List Step) : Type 0 where
  pub tables : AreSound (run limits given steps)
  pub uploads : AreUploads limits (run limits given steps)
  pub parts : LeaveParts limits (alone limits given steps)
  pub groups : AreTakenBack limits (alone limits given steps)
  pub keeps : AreKeptMet limits (meetings limits given steps)
  pub meetings : AreMet limits (meetings limits given steps)

-- The text of the first of these steps was written, whole, and nothing behind it; so it ends at a line's end.
pub record Finished (limits : Limits) (old new : Option (List ℕ)) (given : List Given) (steps : List Step) : Type 0 where
  pub count : ℕ
  pub text : Appends old new (first_output limits given steps count)
  pub lines : AreLines (first_output limits given steps count)

-- What holds where they stopped: what was written is a front of the text of the first of them, and the tables of these are
-- sound, their uploads sent, no job drops what it isn't asked for, a refusal takes back no more than its group, and what they do in a
-- meeting is promised up to the last of them, which may have stopped midway. Where a read failed, the texts of some first steps stand
-- whole, and nothing of the one that read.
pub record Reached (limits : Limits) (old new : Option (List ℕ)) (stop : Stop) (given : List Given) (steps : List Step) : Type 0 where
  pub count : ℕ
  pub text : AppendsFront old new (first_output limits given steps count)
  pub tables : AreSound (take count (run limits given steps))
  pub uploads : AreUploads limits (take count (run limits given steps))
  pub parts : LeaveParts limits (take count (alone limits given steps))
  pub groups : AreTakenBack limits (take count (alone limits given steps))
  pub keeps : AreKeptMet limits (take count (meetings limits given steps))
  pub meetings : AreBegun limits (take count (meetings limits given steps))
  pub finished : stop ≡ stops.ReadFault → Finished limits old new given steps

-- And of the first steps of a script the saves are read back, no edit is lost or made up, and what others changed is heard.
pub record Stopped (limits : Limits) (old new : Option (List ℕ)) (stop : Stop) (given : List Given) (steps : List Step) : Type 0 where
  pub reached : Reached limits old new stop given steps
  pub saves : AreSaves limits (take reached.count (run limits given steps))
  pub keeps : AreKept limits (take reached.count (alone limits given steps))
  pub asked : AreAsked limits (take reached.count (alone limits given steps))
  pub heard : AreHeard limits (take reached.count (alone limits given steps))
  pub heard_met : AreHeardMet limits (take reached.count (meetings limits given steps))

-- and of those of the script that was given first,
abbrev pub NamePromised : Limits → List Given → Type 0
NamePromised limits given = Promised limits (drop 1 given) (steps_in (reading limits.script (first_given given)))

abbrev pub NameReached : Limits → Option (List ℕ) → Option (List ℕ) → Stop → List Given → Type 0
NameReached limits old new stop given = Reached limits old new stop (drop 1 given) (steps_in (reading limits.script (first_given given)))

-- for which a command line asks, if the words are one
abbrev pub LinePromised : Option CommandLineValue → List Given → Type 0
LinePromised None given = Unit {0}
LinePromised (Some line) given = NamePromised (limits_of line) given

abbrev pub LineReached : Option CommandLineValue → Option (List ℕ) → Option (List ℕ) → Stop → List Given → Type 0
LineReached None old new stop given = Unit {0}
LineReached (Some line) old new stop given = NameReached (limits_of line) old new stop given

abbrev pub LineStopped : Option CommandLineValue → Option (List ℕ) → Option (List ℕ) → Stop → List Given → Type 0
LineStopped None old new stop given = Unit {0}
LineStopped (Some line) old new stop given = Stopped (limits_of line) old new stop (drop 1 given) (steps_in (reading (limits_of line).script (first_given given)))

-- The run of a script where each step ran.
pub record Ran {T : Type 0} (limits : Limits) (told : Option Shelved) (old new : Option (List ℕ)) (seen seen_then : List Note) (result : Result T Stop) (steps : List Step) : Type 0 where
  pub given : List Given
  pub by_files : IfSome told (λ files. given ≡ all_given files steps)
  pub ok : OnOk result (Appends old new (output limits given steps))
  pub err : OnErr result (AppendsFront old new (output limits given steps))
  pub noted : OnOk result (Noted old seen seen_then (step_reads limits given steps))
  pub noted_first : OnErr result (NotedFirst old seen seen_then (step_reads limits given steps))
  pub promised : OnOk result (Promised limits given steps)
  pub reached : IfErr result (λ stop. Reached limits old new stop given steps)

-- Each table of the run that a command line asks for is sound where its reads gave this, if the words are one.
abbrev pub AreSoundBy : Option CommandLineValue → List Given → Type 0
AreSoundBy None given = Unit {0}
AreSoundBy (Some line) given = AreSound (run_of (limits_of line) given)
