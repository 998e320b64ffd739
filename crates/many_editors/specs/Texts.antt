-- Meetings in which all texts may be written.
use Rattle.std.specs.Prelude.{◌≡◌, Some}
use Rattle.std.specs.List.{AllByRecursion}
use Rattle.std.specs.FinMap as fin
use Rattle.osm_base.specs.declared.key.Key.{Key}
use Rattle.osm_table.specs.Table.{IfContent}
use Rattle.upload_order.specs.World.{WorldEntry}
use Rattle.server_world.specs.Codes.{Objects}
use Rattle.editor_laws.specs.Editing.{EachTable}
use Rattle.many_editors.specs.declared.act.MeetAct.{MeetAct}
use Rattle.many_editors.specs.declared.act.MeetAct.TheVariants as act
use Rattle.many_editors.specs.Meeting.{Editor, Meeting, states}
use Rattle.editor_laws.specs.Texts.{HasTexts, IsTextTable, StepBringsTexts}

-- so of each content that stands in a state of a server
pub record IsTextState (objects : Objects) : Type 0 where
  pub contents : (k : Key) (e : WorldEntry) → fin.get objects k ≡ Some e → IfContent e.content HasTexts

-- and of each table of an editor
abbrev pub IsTextEditor : Editor → Type 0
IsTextEditor e = EachTable IsTextTable e.state

-- All states of the server, and all tables of all editors, have texts that may be written.
pub record IsTextMeeting (m : Meeting) : Type 0 where
  pub servers : AllByRecursion IsTextState (states m)
  pub editors : AllByRecursion IsTextEditor m.editors

-- the step of an act brings such texts
abbrev pub MeetActBringsTexts : MeetAct → Type 0
MeetActBringsTexts (act.Own step) = StepBringsTexts step
MeetActBringsTexts other = Unit {0}
