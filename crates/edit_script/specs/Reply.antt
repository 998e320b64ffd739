-- The reply line of a step.
--
-- For example `7 ok w-1,w-2`, `8 refused 5 n1 w5`, `9 refused 23 2 n4` and `10 skipped`, each with its LF.
use Rattle.std.specs.Prelude.{ℕ, List, [], ◌∷◌, ◌++◌, codes, decimal}
use Rattle.osm_base.specs.Number.{key_written}
use Rattle.osm_base.specs.declared.key.Key.{Key}
use Rattle.opl_text.specs.Text.{escaped}
use Rattle.opl_line.specs.Fault as line_fault
use Rattle.opl_line.specs.Written.{listed}
use Rattle.opl_file.specs.declared.fault.FileFault.{FileFault}
use Rattle.opl_file.specs.declared.fault.FileFault.TheVariants.{Line, Twice, LineTooLong, FileTooLong}
use Rattle.tool_api.specs.declared.refusal.Refusal.{Refusal}
use Rattle.tool_api.specs.declared.refusal.Refusal.TheVariants.{Absent, IncompleteObject, DeletedObject, InConflict, InUse, WrongKind, Unfit, OutOfRange, NamedTwice, NotInWay, NothingToSplit, NotJoined, TagClash, MemberClash, NoConflict, NotMixed, VersionClash, TableFull, NotClashing, NoFinding, NotSamePlace}
use Rattle.edit_script.specs.declared.reply.StepRefusal.{StepRefusal}
use Rattle.edit_script.specs.declared.reply.StepRefusal.TheVariants.{Tool, NoFile, BadFile, NothingToUndo, NothingToRedo, OpenConflicts, IncompleteRef, CyclicNew, WrongAnswer, IdTaken, BadSaved, Unsound, BadWorld, NoState, NotWaiting, Waiting, VersionEnd}
use Rattle.edit_script.specs.declared.reply.StepReply.{StepReply}
use Rattle.edit_script.specs.declared.reply.StepReply.TheVariants.{Done, Refused, Skipped}

-- a number, a key or a text behind a space
abbrev pub number_behind : ℕ → List ℕ
number_behind number = 32 ∷ decimal number

abbrev pub key_behind : Key → List ℕ
key_behind key = 32 ∷ key_written key

abbrev pub text_behind : List ℕ → List ℕ
text_behind text = 32 ∷ escaped text

-- one word of keys behind a space, if there are any
abbrev pub keys_behind : List Key → List ℕ
keys_behind [] = []
keys_behind (key ∷ keys) = 32 ∷ listed key_written (key ∷ keys)

abbrev pub fault_text : FileFault → List ℕ
fault_text (Line line fault) = codes " line " ++ (decimal line ++ (codes " fault " ++ decimal (line_fault.number_of fault)))
fault_text (Twice line) = codes " twice " ++ decimal line
fault_text (LineTooLong line) = codes " longline " ++ decimal line
fault_text FileTooLong = codes " toolong"

-- the refusal of a job: its number, which never changes, and the objects, the tag's key, or the object and its version
abbrev pub job_refused : Refusal → List ℕ
job_refused (Absent key) = codes "1" ++ key_behind key
job_refused (IncompleteObject key) = codes "2" ++ key_behind key
job_refused (DeletedObject key) = codes "3" ++ key_behind key
job_refused (InConflict key) = codes "4" ++ key_behind key
job_refused (InUse key user) = codes "5" ++ (key_behind key ++ key_behind user)
job_refused (WrongKind key) = codes "6" ++ key_behind key
job_refused (Unfit key) = codes "7" ++ key_behind key
job_refused (OutOfRange key) = codes "8" ++ key_behind key
job_refused (NamedTwice key) = codes "9" ++ key_behind key
job_refused (NotInWay key) = codes "10" ++ key_behind key
job_refused (NothingToSplit key) = codes "11" ++ key_behind key
job_refused (NotJoined key) = codes "12" ++ key_behind key
job_refused (TagClash text) = codes "13" ++ text_behind text
job_refused (MemberClash key) = codes "14" ++ key_behind key
job_refused (NoConflict key) = codes "15" ++ key_behind key
job_refused (NotMixed key) = codes "16" ++ key_behind key
job_refused (VersionClash key version) = codes "17" ++ (key_behind key ++ number_behind version)
job_refused TableFull = codes "18"
job_refused (NotClashing text) = codes "29" ++ text_behind text
job_refused (NoFinding key) = codes "32" ++ key_behind key
job_refused (NotSamePlace key) = codes "33" ++ key_behind key

-- the refusal of a step: its number, which never changes, and what it carries
abbrev pub refused : StepRefusal → List ℕ
refused (Tool refusal) = job_refused refusal
refused NoFile = codes "19"
refused (BadFile fault) = codes "20" ++ fault_text fault
refused NothingToUndo = codes "21"
refused NothingToRedo = codes "22"
refused (OpenConflicts count first) = codes "23" ++ (number_behind count ++ key_behind first)
refused (IncompleteRef key of) = codes "24" ++ (key_behind key ++ key_behind of)
refused (CyclicNew keys) = codes "25" ++ keys_behind keys
refused (WrongAnswer line) = codes "26" ++ number_behind line
refused (IdTaken key) = codes "27" ++ key_behind key
refused (BadSaved line) = codes "30" ++ number_behind line
refused (Unsound key) = codes "31" ++ key_behind key
refused (BadWorld key) = codes "34" ++ key_behind key
refused (NoState count) = codes "35" ++ number_behind count
refused NotWaiting = codes "36"
refused Waiting = codes "37"
refused (VersionEnd key) = codes "38" ++ key_behind key

abbrev pub reply_text : StepReply → List ℕ
reply_text (Done made) = codes " ok" ++ keys_behind made
reply_text (Refused why) = codes " refused " ++ refused why
reply_text Skipped = codes " skipped"

-- The reply line of the step in that line of the script.
abbrev pub reply_line : ℕ → StepReply → List ℕ
reply_line line reply = decimal line ++ (reply_text reply ++ codes "\n")
