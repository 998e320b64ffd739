-- What resolving a conflict does.
--
-- The state of the server that the conflict holds becomes the base, mine is as chosen, and the conflict goes. For example
-- where n1 is in conflict, `resolve n1 theirs` is refused as InUse n1 w5 if theirs is deleted and w5 refers to n1.
use Rattle.std.specs.Prelude.{ℕ, not, if◌then◌else◌, [], ◌∷◌, Option, Some, None, is_some, Result, Ok}
use Rattle.std.specs.Option.{option_map, option_or}
use Rattle.osm_base.specs.Rank.{is_key}
use Rattle.osm_base.specs.declared.key.Key.{Key}
use Rattle.osm_base.specs.declared.content.Content.{Content}
use Rattle.osm_table.specs.declared.entry.Entry.{Entry}
use Rattle.osm_table.specs.declared.entry.Entry.TheVariants.{Incomplete, Known}
use Rattle.osm_table.specs.Table.{TableValue, entry_of, held_by}
use Rattle.dataset.specs.Exact.{mine_at}
use Rattle.merge_cases.specs.declared.choice.Choice.{Choice}
use Rattle.merge_cases.specs.declared.choice.Choice.TheVariants.{Parts}
use Rattle.merge_cases.specs.Resolve.{resolved, can_choose, unclashing}
use Rattle.tool_api.specs.declared.refusal.Refusal.{Refusal}
use Rattle.tool_api.specs.declared.refusal.Refusal.TheVariants.{Absent, DeletedObject, Unfit, NoConflict, NotMixed, NotClashing}
use Rattle.tool_api.specs.Checks.{◌>>◌, first_of, when, use_test}
use Rattle.tool_api.specs.Changes.{Outcome, done, changed}
use Rattle.tool_api.specs.Closing.{makes_unfit, room_test}
use Rattle.tool_api.specs.Staged.{refs_by}

-- NotClashing with the first listed key whose tag doesn't clash
abbrev pub clashing_test : Choice → Option Content → Option Content → Option Content → Option Refusal
clashing_test (Parts body listed) (Some base) (Some mine) (Some theirs) = option_map NotClashing (unclashing listed base mine theirs)
clashing_test choice base mine theirs = None

-- The object is there and in conflict, and can be settled so: Absent, NoConflict, NotMixed, NotClashing.
abbrev pub choice_test : Choice → Key → Option Entry → Option Refusal
choice_test choice k None = Some (Absent k)
choice_test choice k (Some (Known base mine (Some conflict))) = option_or (when (not (can_choose choice base mine conflict)) (NotMixed k)) (clashing_test choice (held_by base) mine (held_by conflict.theirs))
choice_test choice k (Some e) = Some (NoConflict k)

-- Of an object that goes: InUse with the least user besides itself
abbrev pub unused_test : TableValue → Key → Option Content → Option Refusal
unused_test t k mine = if is_some mine then None else use_test t (k ∷ []) k

-- a reference that isn't known may enter; what is deleted may not be referred to
abbrev pub gone_test : Key → Option Entry → Option Refusal
gone_test r (Some (Known base None conflict)) = Some (DeletedObject r)
gone_test r e = None

-- DeletedObject with the first reference, to another object, that is deleted
abbrev pub references_gone_test : TableValue → Key → Option Content → Option Refusal
references_gone_test t k mine = first_of (λ r. if is_key k r then None else gone_test r (entry_of t r)) (refs_by mine)

-- Unfit where mine is not what the server has, and doesn't fit
abbrev pub settled_fit_test : Key → Option Entry → Option Refusal
settled_fit_test k (Some (Known base mine conflict)) = when (makes_unfit (held_by base) mine) (Unfit k)
settled_fit_test k e = None

-- the object has another entry, and what isn't there enters
abbrev pub settled_entry : TableValue → Key → Option Entry → Key → Option Entry
settled_entry t k e q = if is_key k q then e else option_or (entry_of t q) (Some Incomplete)

-- the table in which the object has another entry, to whose references all are there
abbrev pub settled_table : TableValue → Key → Option Entry → TableValue
settled_table t k e = changed t (settled_entry t k e) (k ∷ refs_by (mine_at e))

-- the object gets an entry: InUse, DeletedObject, Unfit, TableFull
abbrev pub settle : TableValue → ℕ → Key → Option Entry → Result Outcome Refusal
settle t limit k e = do
  unused_test t k (mine_at e)
  references_gone_test t k (mine_at e)
  settled_fit_test k e
  room_test limit (settled_table t k e)
  Ok (done (settled_table t k e))

-- A conflict is resolved: Absent, NoConflict, NotMixed, NotClashing, then what the entry is refused for.
abbrev pub resolve : TableValue → ℕ → Key → Choice → Result Outcome Refusal
resolve t limit k choice = do
  choice_test choice k (entry_of t k)
  settle t limit k (option_map (resolved choice) (entry_of t k))
