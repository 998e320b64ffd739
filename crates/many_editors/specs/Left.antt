-- What want of memory leaves of a meeting.
--
-- For example an editor sends three changes, and no memory is left at the third. Then the server has what the first two make,
-- each whole, and two states more than before; nothing of the third stands there.
use Rattle.std.specs.Prelude.{◌≡◌, ◌≢◌, ◌-◌, ℕ, List, [], length, take, slice_get, Result, Ok, Err}
use Rattle.osm_table.specs.Table.{TableValue}
use Rattle.upload_order.specs.declared.change.Change.{Change}
use Rattle.upload_order.specs.declared.refusal.PlanRefusal.{PlanRefusal}
use Rattle.upload_order.specs.Refused.{upload}
use Rattle.many_editors.specs.declared.act.MeetAct.{MeetAct}
use Rattle.many_editors.specs.declared.act.MeetAct.TheVariants as act
use Rattle.many_editors.specs.Meeting.{Editor, Meeting, IsEditor}
use Rattle.many_editors.specs.Sending.{TookFirst}

-- the first changes of a plan, if there is one
abbrev pub first_planned : ℕ → Result (List Change) PlanRefusal → List Change
first_planned count (Ok changes) = take count changes
first_planned count (Err why) = []

-- the changes that an act of an editor with this table sends
abbrev pub changes_sent : MeetAct → TableValue → List Change
changes_sent (act.Send count) t = first_planned count (upload t)
changes_sent other t = []

-- Of the changes that the n-th editor sends the server took the first, as many as it has states more; and the other editors
-- are as they were.
pub record IsLeft (n : ℕ) (sends : TableValue → List Change) (old new : Meeting) : Type 0 where
  pub took : (e : Editor) → IsEditor old n e
      → TookFirst (length new.earlier - length old.earlier) e.state.now (sends e.state.now) old.world old.earlier new.world new.earlier
  pub others : (k : ℕ) → k ≢ n → slice_get new.editors k ≡ slice_get old.editors k
