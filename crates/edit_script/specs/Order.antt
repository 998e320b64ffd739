-- The order of steps: groups are not nested, and nothing is undone, redone, rehearsed, uploaded, confirmed or resumed
-- inside one, nor does a meeting go to another editor or to the server.
--
-- For example `begin`, `print`, `end`, `undo 1` are in order, and `begin`, `undo 1`, `end` are not.
use Rattle.std.specs.Prelude.{◌≡◌, ◌≤◌, ◌<◌, Bool, true, false, List, [], ◌∷◌}
use Rattle.map_search.specs.Query.{depth}
use Rattle.tool_api.specs.Plain.{IsWellFormed}
use Rattle.tool_api.specs.declared.job.Job as jobs
use Rattle.tool_api.specs.declared.job.Job.TheVariants.{Merge}
use Rattle.edit_script.specs.declared.line.ScriptLine.{ScriptLine}
use Rattle.edit_script.specs.declared.line.ScriptLine.TheVariants.{Skipped, Asks}
use Rattle.edit_script.specs.declared.step.Act.{Act}
use Rattle.edit_script.specs.declared.step.Act.TheVariants.{Job, Generate, History, Look, File, Editor, Meet}
use Rattle.edit_script.specs.declared.step.HistoryStep.TheVariants.{Begin, End, Undo, Redo}
use Rattle.edit_script.specs.declared.step.Look.TheVariants.{Find, Rehearse, Upload}
use Rattle.edit_script.specs.declared.step.MeetStep.TheVariants.{Fetch, Send}
use Rattle.edit_script.specs.declared.step.Purpose.TheVariants.{Confirm, Resume}
use Rattle.edit_script.specs.declared.step.Step.{Step}

-- whether an act may stand where it does, inside a group or outside
abbrev pub may_stand : (is_inside : Bool) → Act → Bool
may_stand true (History End) = true
may_stand true (History step) = false
may_stand true (Look Rehearse) = false
may_stand true (Look (Upload size)) = false
may_stand true (File name Confirm) = false
may_stand true (File name Resume) = false
may_stand true (Editor n) = false
may_stand true (Meet (Fetch back area wanted)) = true
may_stand true (Meet step) = false
may_stand true act = true
may_stand false (History End) = false
may_stand false act = true

-- whether the next act stands inside a group
abbrev pub inside_after : (is_inside : Bool) → Act → Bool
inside_after is_inside (History Begin) = true
inside_after is_inside (History End) = false
inside_after is_inside act = is_inside

-- a download is no job of a line
abbrev pub IsNoDownload : jobs.Job → Type 0
IsNoDownload (Merge told) = ⊥
IsNoDownload job = Unit {0}

-- A job names what it has to and is no download, a city has 1 to 100,000 streets, there is something to undo or redo, a query has at most
-- 1,100 levels, a chunk has 1 to 10,000 changes and so has what is sent, there are 4 editors, and what is fetched lies
-- fewer than 10,000,000 states back.
abbrev pub IsMeant : Act → Type 0
IsMeant (Job job) = IsWellFormed job × IsNoDownload job
IsMeant (Generate streets) = (1 ≤ streets) × (streets ≤ 100000)
IsMeant (History (Undo n)) = 1 ≤ n
IsMeant (History (Redo n)) = 1 ≤ n
IsMeant (Look (Find query)) = depth query ≤ 1100
IsMeant (Look (Upload size)) = (1 ≤ size) × (size ≤ 10000)
IsMeant (Editor n) = (1 ≤ n) × (n ≤ 4)
IsMeant (Meet (Fetch back area wanted)) = back < 10000000
IsMeant (Meet (Send count)) = (1 ≤ count) × (count ≤ 10000)
IsMeant act = Unit {0}

abbrev pub IsMeantLine : ScriptLine → Type 0
IsMeantLine Skipped = Unit {0}
IsMeantLine (Asks act) = IsMeant act

-- Each act is meant and may stand where it does; the first stands inside a group or outside.
abbrev pub IsOrderly : (is_inside : Bool) → List Step → Type 0
IsOrderly is_inside [] = Unit {0}
IsOrderly is_inside (step ∷ steps) = IsMeant step.act × (may_stand is_inside step.act ≡ true) × IsOrderly (inside_after is_inside step.act) steps
