-- What each look at a table answers, and the text that stands behind a reply.
--
-- For example `count` answers ok, and behind its reply stands the line that counts the table.
use Rattle.std.specs.Prelude.{ℕ, List, []}
use Rattle.osm_table.specs.Table.{TableValue}
use Rattle.chunking.specs.Chunks.{chunks}
use Rattle.conflict.specs.Shown.{conflicts_text}
use Rattle.saved_session.specs.Saved.{saved}
use Rattle.map_search.specs.Meets as queries
use Rattle.map_checks.specs.Findings.{findings}
use Rattle.edit_script.specs.declared.reply.StepReply.TheVariants.{Done}
use Rattle.edit_script.specs.declared.step.Look as looks
use Rattle.edit_script.specs.declared.step.Look.TheVariants.{Print, Count, Conflicts, Save, Find, Check, Rehearse, Upload}
use Rattle.edit_steps.specs.declared.looks.Behind.{Behind}
use Rattle.edit_steps.specs.declared.looks.Behind.TheVariants as behind
use Rattle.edit_steps.specs.declared.response.Response.{Response}
use Rattle.edit_steps.specs.Counted.{count_text}
use Rattle.edit_steps.specs.Planned.{upload_answer, rehearse_answer, rehearsed_text}
use Rattle.edit_steps.specs.Printed.{table_text}
use Rattle.edit_steps.specs.Searched.{findings_text, found_text}
use Rattle.edit_steps.specs.Sent.{sent_text}

-- done, with a text behind the reply
abbrev pub looked : Behind → Response
looked text = record { reply = Done []; behind = text }

-- What a look at a table answers. It changes nothing.
abbrev pub look_answer : looks.Look → TableValue → Response
look_answer Print t = looked behind.Table
look_answer Count t = looked behind.Counts
look_answer Conflicts t = looked behind.Conflicts
look_answer Save t = looked behind.Saved
look_answer (Find query) t = looked (behind.Found (queries.found t query))
look_answer Check t = looked (behind.Findings (findings t))
look_answer Rehearse t = rehearse_answer t
look_answer (Upload size) t = upload_answer size t

-- the text behind a reply
abbrev pub behind_text : Behind → TableValue → List ℕ
behind_text behind.Nothing t = []
behind_text behind.Table t = table_text t
behind_text behind.Counts t = count_text t
behind_text behind.Conflicts t = conflicts_text t
behind_text behind.Saved t = saved t
behind_text (behind.Changes changes size) t = chunks changes size
behind_text (behind.Rehearsed count) t = rehearsed_text count
behind_text (behind.Found keys) t = found_text keys
behind_text (behind.Findings findings) t = findings_text findings
behind_text (behind.Sent count refused) t = sent_text count refused
