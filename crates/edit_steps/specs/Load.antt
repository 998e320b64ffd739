-- What a step finds on the shelf.
--
-- For example `download f` finds a job that merges what f tells, or which of its lines is bad, or nothing where the shelf has
-- no f. And `confirm f` and `resume f` find the bytes of f, or that they are too many.
use Rattle.std.specs.Prelude.{◌≡◌, ℕ, Bool, true, false, List, Option, None, Some, Result, Ok, Err, IfErr, if◌then◌else◌}
use Rattle.std.specs.Option.{option_map}
use Rattle.osm_outside.specs.Outside.{Shelved, held}
use Rattle.opl_line.specs.declared.object.OplObject.{OplObject}
use Rattle.opl_line.specs.declared.mode.Mode.{Mode}
use Rattle.opl_line.specs.declared.mode.Mode.TheVariants as mode
use Rattle.opl_file.specs.declared.fault.FileFault.{FileFault}
use Rattle.opl_file.specs.declared.fault.FileFault.TheVariants.{FileTooLong}
use Rattle.opl_file.specs.Reading.{objects_of}
use Rattle.download.specs.Filter.{filtered}
use Rattle.download.specs.Tell.{AreTellable}
use Rattle.import_tool.specs.Counted.{new_objects_of}
use Rattle.tool_api.specs.declared.job.Job as jobs
use Rattle.tool_api.specs.declared.job.Job.TheVariants.{Merge, Import}
use Rattle.tool_api.specs.declared.verb.Verb.{Verb}
use Rattle.tool_api.specs.declared.verb.Verb.TheVariants as verb
use Rattle.tool_api.specs.Plain.{IsWellFormed, verb_of}
use Rattle.edit_script.specs.declared.step.Act.{Act}
use Rattle.edit_script.specs.declared.step.Act.TheVariants.{File, Serve}
use Rattle.edit_script.specs.declared.step.Purpose.{Purpose}
use Rattle.edit_script.specs.declared.step.Purpose.TheVariants as purpose
use Rattle.edit_history.specs.declared.counts.Group.{Group}
use Rattle.edit_steps.specs.declared.stop.Stop.{Stop}
use Rattle.edit_steps.specs.declared.stop.Stop.TheVariants.{Memory}
use Rattle.edit_steps.specs.declared.limits.Limits.{Limits}
use Rattle.edit_steps.specs.declared.loading.Found.{Found}
use Rattle.edit_steps.specs.declared.loading.Found.TheVariants.{Nothing, Bad, Job, Bytes, Objects}
use Rattle.edit_steps.specs.declared.files.Fetched.{Fetched}
use Rattle.edit_steps.specs.declared.files.Fetched.TheVariants.{Missing, TooLong, Whole}
use Rattle.edit_steps.specs.Fetch.{reading}
use Rattle.edit_steps.specs.Groups.{is_given_up}
use Rattle.edit_steps.specs.Given.{Given, Finds}

-- the job that the objects of a file make, where the shelf has it and it is taken
abbrev pub job_found : (List OplObject → jobs.Job) → Option (Result (List OplObject) FileFault) → Found
job_found job None = Nothing
job_found job (Some (Err fault)) = Bad fault
job_found job (Some (Ok objects)) = Job (job objects)

-- the objects of a file, where the shelf has it and it is taken
abbrev pub objects_found : Option (Result (List OplObject) FileFault) → Found
objects_found None = Nothing
objects_found (Some (Err fault)) = Bad fault
objects_found (Some (Ok objects)) = Objects objects

-- a file whose lines are not read yet
abbrev pub bytes_found : Fetched → Found
bytes_found Missing = Nothing
bytes_found TooLong = Bad FileTooLong
bytes_found (Whole bytes) = Bytes bytes

-- what is found in a file, by what it is read for
abbrev pub file_found : Limits → Purpose → Given → Found
file_found limits (purpose.Download area wanted) given = job_found (λ objects. Merge (filtered objects area wanted)) (option_map (objects_of mode.Download limits.file) given)
file_found limits purpose.Import given = job_found (λ objects. Import (new_objects_of objects)) (option_map (objects_of mode.Import limits.file) given)
file_found limits purpose given = bytes_found (reading limits.file given)

-- what an act finds in what it was given
abbrev pub act_found : Limits → Given → Act → Found
act_found limits given (File name purpose) = file_found limits purpose given
act_found limits given (Serve name) = objects_found (option_map (objects_of mode.Download limits.file) given)
act_found limits given act = Nothing

-- What an act finds there in this group. One that was given up reads no file.
abbrev pub found_in : Limits → Given → Group → Act → Found
found_in limits given group act = if is_given_up group then Nothing else act_found limits given act

-- An act finds what comes of a read of its file, if it names one; where the shelf tells its files, the read gave what they hold.
abbrev pub IsFoundBy : Option Shelved → Limits → Act → Found → Type 0
IsFoundBy told limits (File name purpose) found = Finds told (λ files. held files name) found (file_found limits purpose)
IsFoundBy told limits (Serve name) found = Finds told (λ files. held files name) found (λ given. act_found limits given (Serve name))
IsFoundBy told limits act found = found ≡ Nothing

abbrev pub IsFoundWhen : (given_up : Bool) → Option Shelved → Limits → Act → Found → Type 0
IsFoundWhen true told limits act found = found ≡ Nothing
IsFoundWhen false told limits act found = IsFoundBy told limits act found

-- One of a group that was given up reads no file.
abbrev pub IsFoundIn : Option Shelved → Limits → Group → Act → Found → Type 0
IsFoundIn told limits group act found = IsFoundWhen (is_given_up group) told limits act found

-- these are the objects of some bytes
abbrev pub AreRead : Mode → ℕ → Result (List OplObject) FileFault → Type 0
AreRead mode limit (Ok objects) = (bytes : List ℕ) × (objects_of mode limit bytes ≡ Ok objects)
AreRead mode limit (Err fault) = Unit {0}

-- a job that was found is well formed, and one for the tool of this verb
abbrev pub IsFor : Verb → Found → Type 0
IsFor verb (Job job) = (verb_of job ≡ verb) × IsWellFormed job
IsFor verb found = Unit {0}

-- objects that were found may be told of
abbrev pub AreServable : Found → Type 0
AreServable (Objects objects) = AreTellable objects
AreServable found = Unit {0}

-- a job for the tool may be found in a file that is read for this
abbrev pub MayFindFor : Purpose → Found → Type 0
MayFindFor (purpose.Download area wanted) found = IsFor verb.Merge found
MayFindFor purpose.Import found = IsFor verb.Import found
MayFindFor purpose found = Unit {0}

-- What an act may find: a job for its tool, or objects for a server.
abbrev pub MayFind : Act → Found → Type 0
MayFind (File name purpose) found = MayFindFor purpose found
MayFind (Serve name) found = AreServable found
MayFind act found = Unit {0}

-- a reader's end fails for want of memory alone
abbrev pub FinishCause : {T : Type 0} → Result T Stop → Type 0
FinishCause result = IfErr result (λ e. e ≡ Memory)
