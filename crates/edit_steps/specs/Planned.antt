-- What `upload` and `rehearse` answer of the changes that bring the edits to a server, or why nothing is sent.
--
-- For example over a table with two objects in conflict, of which n4 is the least, both reply `refused 23 2 n4`. Where one
-- node is to be made and one to be deleted, `rehearse` writes `rehearse accepted 2` behind its reply.
use Rattle.std.specs.Prelude.{ℕ, ◌≤◌, List, [], length, Result, Ok, Err, codes}
use Rattle.std.specs.Result.{result_map_both}
use Rattle.osm_table.specs.Table.{TableValue}
use Rattle.upload_order.specs.declared.change.Change.{Change}
use Rattle.upload_order.specs.declared.refusal.PlanRefusal.{PlanRefusal}
use Rattle.upload_order.specs.declared.refusal.PlanRefusal.TheVariants as plan
use Rattle.upload_order.specs.Refused.{upload}
use Rattle.edit_script.specs.declared.reply.StepReply.TheVariants.{Done, Refused}
use Rattle.edit_script.specs.declared.reply.StepRefusal.{StepRefusal}
use Rattle.edit_script.specs.declared.reply.StepRefusal.TheVariants.{OpenConflicts, IncompleteRef, CyclicNew}
use Rattle.edit_steps.specs.Counted.{count_line}
use Rattle.edit_steps.specs.declared.looks.Behind.{Behind}
use Rattle.edit_steps.specs.declared.looks.Behind.TheVariants as behind
use Rattle.edit_steps.specs.declared.response.Response.{Response}

-- why nothing is sent, as the refusal of a step; want of memory is no table's refusal
abbrev pub plan_refused : PlanRefusal → StepRefusal
plan_refused (plan.Conflicts count first) = OpenConflicts count first
plan_refused (plan.IncompleteRef key of) = IncompleteRef key of
plan_refused (plan.Cyclic keys) = CyclicNew keys
plan_refused plan.Memory = CyclicNew []

abbrev pub planned : Result (List Change) PlanRefusal → Result (List Change) StepRefusal
planned changes = result_map_both (λ changes. changes) plan_refused changes

-- done, with a text of the changes behind the reply, or refused
abbrev pub on_plan : (List Change → Behind) → Result (List Change) StepRefusal → Response
on_plan text (Ok changes) = record { reply = Done []; behind = text changes }
on_plan text (Err why) = record { reply = Refused why; behind = behind.Nothing }

-- The changes stand behind the reply of `upload`, in chunks of the size.
unfoldable pub upload_answer : ℕ → TableValue → Response
upload_answer size t = on_plan (λ changes. behind.Changes changes size) (planned (upload t))

-- Behind that of `rehearse` stands how many changes a server accepts that has the bases: all of them.
unfoldable pub rehearse_answer : TableValue → Response
rehearse_answer t = on_plan (λ changes. behind.Rehearsed (length changes)) (planned (upload t))

abbrev pub rehearsed_text : ℕ → List ℕ
rehearsed_text count = count_line (codes "rehearse accepted ") count

-- a chunk has 1 to 10,000 changes
abbrev pub IsSized : Behind → Type 0
IsSized (behind.Changes changes size) = (1 ≤ size) × (size ≤ 10000)
IsSized text = Unit {0}
