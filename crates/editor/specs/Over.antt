-- What is promised of a session by the files that it reads and the text that it writes alone, whatever holds them.
--
-- For example over the files of a folder that tells them, and a writer whose bytes are known: the writer has then the text of the
-- outcome of these files behind what it had before.
use Rattle.std.specs.Prelude.{ℕ, Bool, false, List, [], Option}
use Rattle.osm_outside.specs.Outside.{Note, Shelved}
use Rattle.tool_api.specs.declared.verb.Verb.{Verb}
use Rattle.edit_session.specs.declared.status.Status.{Status}
use Rattle.edit_session.specs.Moment.{Outside}
use Rattle.edit_session.specs.Right.{IsRight}

-- a moment at which these are the files and this is the text, this was noted, and as many calls have failed
abbrev pub moment : Option Shelved → Option (List ℕ) → Bool → List Note → ℕ → ℕ → Outside (Option Shelved) (Option (List ℕ))
moment files text begun noted read_faults write_faults = record {
  shelf = files;
  sink = text;
  files = files;
  begun = begun;
  noted = noted;
  text = text;
  read_faults = read_faults;
  write_faults = write_faults;
}

-- It is right of a session that found these files and this text and left that text: before it no file was begun, nothing was noted,
-- and no call had failed. How it left the files, what was noted, and how often a call failed then, is told by what is right of it.
pub record IsRightOver (verbs : List Verb) (asked_for : List (List ℕ)) (files : Option Shelved) (old new : Option (List ℕ)) (answer : Status) : Type 0 where
  pub begun : Bool
  pub noted : List Note
  pub read_faults : ℕ
  pub write_faults : ℕ
  pub right : IsRight verbs asked_for (moment files old false [] 0 0) (moment files new begun noted read_faults write_faults) answer
