-- What each job does: its reply and the new table.
--
-- For example over a table with n1 and w5 Nn1 `delete n1` replies `refused 5 n1 w5` and leaves the table, and
-- `delete n1,w5` replies done, without keys, with a table that has neither of them living.
use Rattle.std.specs.Prelude.{ℕ, ◌≤◌, Bool, List, [], ◌∷◌, codes, length, Result, Ok, Err}
use denote.Enum.Bare.{sameb}
use Rattle.osm_base.specs.declared.content.Content.TheVariants as content
use Rattle.osm_table.specs.Table.{TableValue}
use Rattle.tool_api.specs.contracts.verb.Verb.{the_type}
use Rattle.tool_api.specs.declared.verb.Verb.{Verb}
use Rattle.tool_api.specs.declared.verb.Verb.TheVariants as verb
use Rattle.tool_api.specs.declared.job.Job.{Job}
use Rattle.tool_api.specs.declared.job.Job.TheVariants as job
use Rattle.tool_api.specs.declared.refusal.Refusal.{Refusal}
use Rattle.tool_api.specs.declared.reply.Reply.{Reply}
use Rattle.tool_api.specs.declared.reply.Reply.TheVariants.{Done, Refused}
use Rattle.tool_api.specs.Changes.{Outcome}
use Rattle.tool_api.specs.Basic.{add, set_tags, shift, place, set_nodes, set_members, reversed}
use Rattle.tool_api.specs.Gone.{delete_all, erase, purge}
use Rattle.tool_api.specs.Split.{split}
use Rattle.tool_api.specs.Combine.{combine}
use Rattle.tool_api.specs.Merged.{merge}
use Rattle.tool_api.specs.Import.{import}
use Rattle.tool_api.specs.Resolve.{resolve}
use Rattle.tool_api.specs.Squeeze.{squeeze}
use Rattle.tool_api.specs.Fuse.{fuse}

-- a job that names what it has to: at least two ways to combine or nodes to fuse
abbrev pub IsWellFormed : Job → Type 0
IsWellFormed (job.Combine ways) = 2 ≤ length ways
IsWellFormed (job.Fuse nodes) = 2 ≤ length nodes
IsWellFormed j = Unit {0}

-- the verb of a job, and what the job makes of a table with a limit of entries
abbrev pub meant : Job → Verb × (TableValue → ℕ → Result Outcome Refusal)
meant (job.AddNode tags at) = (verb.Add, λ t limit. add t limit (content.Node tags at))
meant (job.AddWay tags refs) = (verb.Add, λ t limit. add t limit (content.Way tags refs))
meant (job.AddRelation tags members) = (verb.Add, λ t limit. add t limit (content.Relation tags members))
meant (job.SetTags keys tags) = (verb.Tag, λ t limit. set_tags t limit keys tags)
meant (job.Shift keys dx dy) = (verb.Move, λ t limit. shift t limit keys dx dy)
meant (job.Place key at) = (verb.Change, λ t limit. place t limit key at)
meant (job.SetNodes key refs) = (verb.Change, λ t limit. set_nodes t limit key refs)
meant (job.SetMembers key members) = (verb.Change, λ t limit. set_members t limit key members)
meant (job.Delete keys) = (verb.Delete, λ t limit. delete_all t keys)
meant (job.Erase keys) = (verb.Erase, λ t limit. erase t limit keys)
meant (job.Purge keys) = (verb.Purge, λ t limit. purge t keys)
meant (job.Split way nodes) = (verb.Split, λ t limit. split t limit way nodes)
meant (job.Combine ways) = (verb.Combine, λ t limit. combine t limit ways)
meant (job.Reverse way) = (verb.Reverse, λ t limit. reversed t limit way)
meant (job.Merge told) = (verb.Merge, λ t limit. merge t limit told)
meant (job.Import objects) = (verb.Import, λ t limit. import t limit objects)
meant (job.Resolve key choice) = (verb.Resolve, λ t limit. resolve t limit key choice)
meant (job.Squeeze keys) = (verb.Squeeze, λ t limit. squeeze t limit keys)
meant (job.Fuse nodes) = (verb.Fuse, λ t limit. fuse t limit nodes)

-- the verb of the tool that runs a job
abbrev pub verb_of : Job → Verb
verb_of j = (meant j).0

-- a reply, and the table after it
pub record Answer : Type 0 where
  pub reply : Reply
  pub table : TableValue

-- a refusal leaves the table
abbrev pub answered : TableValue → Result Outcome Refusal → Answer
answered t (Ok new) = record { reply = Done new.keys; table = new.table }
answered t (Err r) = record { reply = Refused r; table = t }

-- what a job makes of a table with a limit of entries, or its refusal
abbrev pub outcome : Job → TableValue → ℕ → Result Outcome Refusal
outcome j t limit = (meant j).1 t limit

-- The reply and the new table of a job.
abbrev pub plain : Job → TableValue → ℕ → Answer
plain j t limit = answered t (outcome j t limit)

-- what `==` answers at verbs
abbrev pub same_verb : Verb → Verb → Bool
same_verb a b = sameb the_type a b

-- the name of a verb
abbrev pub verb_name : Verb → List ℕ
verb_name verb.Add = codes "Add"
verb_name verb.Tag = codes "Tag"
verb_name verb.Move = codes "Move"
verb_name verb.Change = codes "Change"
verb_name verb.Delete = codes "Delete"
verb_name verb.Erase = codes "Erase"
verb_name verb.Purge = codes "Purge"
verb_name verb.Split = codes "Split"
verb_name verb.Combine = codes "Combine"
verb_name verb.Reverse = codes "Reverse"
verb_name verb.Merge = codes "Merge"
verb_name verb.Import = codes "Import"
verb_name verb.Resolve = codes "Resolve"
verb_name verb.Squeeze = codes "Squeeze"
verb_name verb.Fuse = codes "Fuse"

-- all verbs, in the order of `Verb`
abbrev pub all_verbs : List Verb
all_verbs = verb.Add ∷ verb.Tag ∷ verb.Move ∷ verb.Change ∷ verb.Delete ∷ verb.Erase ∷ verb.Purge ∷ verb.Split ∷ verb.Combine ∷ verb.Reverse ∷ verb.Merge ∷ verb.Import ∷ verb.Resolve ∷ verb.Squeeze ∷ verb.Fuse ∷ []
