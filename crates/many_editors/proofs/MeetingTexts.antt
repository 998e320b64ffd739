-- Each act of a meeting keeps texts that may be written.
use Rattle.std.proofs.Common.{◌≡◌, ℕ, zero, suc, ℤ, Bool, true, false, cond, List, [], ◌∷◌, map, take, Option, None, Some, Result, Ok, Err, refl, sym, subst, arith}
use Rattle.std.specs.Prelude.{slice_get}
use mathlib.Core.Logic.{inl, inr}
use Rattle.std.specs.List.{AllByRecursion}
use Rattle.std.specs.Option.{option_map}
use Rattle.std.specs.FinMap as fin
use Rattle.osm_base.specs.Rank.{is_key, rank_cmp}
use Rattle.osm_base.specs.RankLaws.{rank_total}
use Rattle.osm_base.specs.Tags.{Pair}
use Rattle.osm_base.specs.Meta.{empty_meta}
use Rattle.osm_base.specs.declared.meta.Meta.{Meta}
use Rattle.osm_base.specs.declared.area.Area.{Area}
use Rattle.osm_base.specs.declared.key.Key.{Key}
use Rattle.osm_base.specs.declared.content.Content.{Content}
use Rattle.osm_base.proofs.Lists.{all_taken}
use Rattle.osm_table.specs.Table.{TableValue, IfContent, entry_of}
use Rattle.dataset.specs.Patch.{PatchValue, after_of}
use Rattle.download.specs.Tell.{told_side}
use Rattle.opl_line.specs.declared.object.OplObject.{OplObject}
use Rattle.opl_line.specs.Writable.{IsMeta}
use Rattle.tool_api.specs.declared.job.Job.TheVariants.{Merge}
use Rattle.upload_order.specs.declared.change.Change.{Change}
use Rattle.upload_order.specs.declared.change.Change.TheVariants.{Create, Modify, Delete}
use Rattle.upload_order.specs.declared.refusal.PlanRefusal.{PlanRefusal}
use Rattle.upload_order.specs.Plan.{plan}
use Rattle.upload_order.specs.Refused.{upload_refusal}
use Rattle.upload_order.specs.Pieces.{unless}
use Rattle.upload_order.specs.Rename.{called, with_id}
use Rattle.upload_order.specs.World.{World, WorldEntry, after}
use Rattle.upload_order.specs.declared.world.WorldRefusal.{WorldRefusal}
use Rattle.upload_order.proofs.Basics.{none_some}
use Rattle.upload_order.proofs.Entries.{IsIn, has_listed}
use Rattle.server_world.specs.Codes.{Objects}
use Rattle.placeholder.specs.declared.answer.Answer.{Answer}
use Rattle.placeholder.specs.declared.fault.ConfirmFault.{ConfirmFault}
use Rattle.placeholder.specs.Confirm.{confirm}
use Rattle.edit_history.specs.declared.edit_step.EditAnswer.{EditAnswer}
use Rattle.edit_history.specs.Machine.{State, fresh}
use Rattle.edit_history.specs.Moved.{Move}
use Rattle.edit_history.specs.Steps.{edited, job_move}
use Rattle.editor_laws.specs.Editing.{EachTable}
use Rattle.editor_laws.proofs.SeenSteps.{refused_tables}
use Rattle.many_editors.specs.declared.act.MeetAct.{MeetAct}
use Rattle.many_editors.specs.declared.act.MeetAct.TheVariants as act
use Rattle.many_editors.specs.Acts.{changes_met, fetch_met, lifted, met, met_at_work, met_by, met_of, send_met}
use Rattle.many_editors.specs.Own.{own_wait}
use Rattle.many_editors.specs.Meeting.{Editor, Meeting, answered, at_editor, confirmed_state, first_editors, first_meeting, lost, served, states, stepped, waiting_for, with_editor}
use Rattle.many_editors.specs.Sending.{Sent, sent, sent_on, version_end}
use Rattle.many_editors.specs.Serving.{entry_served, objects_served, told_object, told_objects, told_of_state, with_served}
use Rattle.editor_laws.specs.Texts.{HasTexts, IsTextSide, IsTextTable, IsTextTold}
use Rattle.editor_laws.proofs.TextConfirming.{ChangeHasTexts, LeadsToTexts, confirm_texts, plan_texts}
use Rattle.editor_laws.proofs.TextContents.{renamed_kept}
use Rattle.editor_laws.proofs.TextFiles.{IsTextObject, filtered_texts}
use Rattle.editor_laws.proofs.TextSteps.{job_texts, steps_keep}
use Rattle.many_editors.specs.Texts.{IsTextEditor, IsTextMeeting, IsTextState, MeetActBringsTexts}

-- States of the server.

abbrev IfObject : Option WorldEntry → Type 0
IfObject None = Unit {0}
IfObject (Some e) = IfContent e.content HasTexts

object_at : (m : Objects) (k : Key) (o : Option WorldEntry) → IsTextState m → fin.get m k ≡ o → IfObject o
object_at m k None h is = tt
object_at m k (Some e) h is = h.contents k e is

either_object : (b : Bool) (o p : Option WorldEntry) → IfObject o → IfObject p → IfObject (cond b o p)
either_object true o p h i = h
either_object false o p h i = i

put_texts : (m : Objects) (q : Key) (x : WorldEntry) → IfContent x.content HasTexts → IsTextState m → IsTextState (fin.insert m q x)
put_texts m q x i h = record {
  contents = λ k e is. subst IfObject is (subst IfObject (sym (fin.get-insert rank_total m q x k)) (either_object (is_key k q) (Some x) (fin.get m k) i (object_at m k (fin.get m k) h refl)));
}

after_texts : (w : World) (c : Change) (p : ℤ) → ChangeHasTexts c → IsTextState w.entries → IsTextState (after w c p).entries
after_texts w (Create k c) p i h = put_texts w.entries (with_id k p) _ (renamed_kept (called w.names) c i) h
after_texts w (Modify k v c) p i h = put_texts w.entries (called w.names k) _ (renamed_kept (called w.names) c i) h
after_texts w (Delete k v) p i h = put_texts w.entries (called w.names k) _ tt h

empty_texts : IsTextState fin.empty
empty_texts = record { contents = λ k e is. none_some e (fin.get fin.empty k) (fin.get-empty rank_cmp k) is }

side_has : (version : ℕ) (side : Option Content) (meta : Meta) → IsTextSide (told_side version side meta) → IfContent side HasTexts
side_has version None meta h = tt
side_has version (Some c) meta h = h.0

with_served_texts : (objects : List OplObject) (m : Objects) → AllByRecursion IsTextObject objects → IsTextState m → IsTextState (with_served m objects)
with_served_texts [] m i h = h
with_served_texts (o ∷ os) m i h = with_served_texts os (fin.insert m o.key (entry_served o)) i.1 (put_texts m o.key (entry_served o) (side_has o.version o.side o.meta i.0) h)

-- What a state tells.

none_known : IsMeta empty_meta
none_known = record { changeset = omega arith; time = tt; uid = omega arith; user = (([], (refl, refl)), refl) }

side_texts : (version : ℕ) (o : Option Content) → IfContent o HasTexts → IsTextSide (told_side version o empty_meta)
side_texts version None h = none_known
side_texts version (Some c) h = (h, none_known)

listed_texts : (m : Objects) → IsTextState m → (es : List (Key × WorldEntry)) → ((e : Key × WorldEntry) → IsIn e es → fin.get m e.0 ≡ Some e.1) → AllByRecursion IsTextObject (map told_object es)
listed_texts m h [] in_m = tt
listed_texts m h (x ∷ xs) in_m = (side_texts x.1.version x.1.content (h.contents x.0 x.1 (in_m x (inl refl))), listed_texts m h xs (λ e i. in_m e (inr i)))

pub told_texts : (m : Objects) (area : Option Area) (wanted : Option (List Pair)) → IsTextState m → IsTextTold (told_of_state m area wanted)
told_texts m area wanted h = filtered_texts (told_objects m) area wanted (listed_texts m h (fin.entries m) (has_listed m))

pub state_at : (ms : List Objects) (back : ℕ) (m : Objects) → AllByRecursion IsTextState ms → slice_get ms back ≡ Some m → IsTextState m
state_at [] back m h at = cc
state_at (l ∷ ls) zero m h at = subst IsTextState (let same : l ≡ m = cc in same) h.0
state_at (l ∷ ls) (suc n) m h at = state_at ls n m h.1 at

-- Editors.

with_texts : (n : ℕ) (f : Editor → Editor) (es : List Editor) → ((e : Editor) → IsTextEditor e → IsTextEditor (f e)) → AllByRecursion IsTextEditor es → AllByRecursion IsTextEditor (with_editor n f es)
with_texts n f [] keeps h = h
with_texts zero f (e ∷ es) keeps h = (keeps e h.0, h.1)
with_texts (suc n) f (e ∷ es) keeps h = (h.0, with_texts n f es keeps h.1)

pub at_texts : (n : ℕ) (f : Editor → Editor) (m : Meeting) → ((e : Editor) → IsTextEditor e → IsTextEditor (f e)) → IsTextMeeting m → IsTextMeeting (at_editor n f m)
at_texts n f m keeps h = record { servers = h.servers; editors = with_texts n f m.editors keeps h.editors }

step_texts : (n : ℕ) (move : State → Move EditAnswer) (m : Meeting) → ((s : State) → EachTable IsTextTable s → EachTable IsTextTable (move s).state) → IsTextMeeting m → IsTextMeeting (at_editor n (stepped move) m)
step_texts n move m keeps h = at_texts n (stepped move) m (λ e t. keeps e.state t) h

fresh_texts : (t : TableValue) → IsTextTable t → EachTable IsTextTable (fresh t)
fresh_texts t h = record { past = tt; now = h; undone = tt; start = h }

confirmed_texts : (r : Result PatchValue ConfirmFault) (s : State) → LeadsToTexts s.now r → EachTable IsTextTable s → EachTable IsTextTable (confirmed_state r s)
confirmed_texts (Ok patch) s i h = fresh_texts (after_of patch s.now) i
confirmed_texts (Err fault) s i h = h

pub answered_texts : (answers : List Answer) (e : Editor) → IsTextEditor e → IsTextEditor (answered (Some answers) e)
answered_texts answers e h = confirmed_texts (confirm e.state.now answers) e.state (confirm_texts e.state.now answers h.now) h

-- A send.

record SentTexts (s : Sent) : Type 0 where
  world : IsTextState s.world.entries
  earlier : AllByRecursion IsTextState s.earlier

on_texts : (o : Option WorldRefusal) (w : World) (ms : List Objects) (a : Answer) (others : Sent) → IsTextState w.entries → AllByRecursion IsTextState ms → SentTexts others → SentTexts (sent_on o w ms a others)
on_texts None w ms a others h i j = record { world = j.world; earlier = j.earlier }
on_texts (Some r) w ms a others h i j = record { world = h; earlier = i }

sent_texts : (t : TableValue) (cs : List Change) (w : World) (ms : List Objects) → AllByRecursion ChangeHasTexts cs → IsTextState w.entries → AllByRecursion IsTextState ms → SentTexts (sent t w ms cs)
sent_texts t [] w ms c h i = record { world = h; earlier = i }
sent_texts t (x ∷ xs) w ms c h i =
    on_texts _ w ms _ _ h i (sent_texts t xs (after w x _) (w.entries ∷ ms) c.1 (after_texts w x _ c.0 h) (h, i))

changes_texts : (n : ℕ) (cs : List Change) (s : State) (o : Option Key) (m : Meeting) → AllByRecursion ChangeHasTexts cs → IsTextMeeting m → IsTextMeeting (changes_met n cs s o m).meeting
changes_texts n cs s (Some k) m c h = h
changes_texts n cs s None m c h =
    let came = sent_texts s.now cs m.world m.earlier c h.servers.0 h.servers.1 in
    record { servers = (came.world, came.earlier); editors = with_texts n (waiting_for (sent s.now m.world m.earlier cs).answers) m.editors (λ e t. t) h.editors }

pub send_texts : (n count : ℕ) (s : State) (o : Option PlanRefusal) (m : Meeting) → IsTextTable s.now → IsTextMeeting m → IsTextMeeting (send_met n count s (unless o (plan s.now)) m).meeting
send_texts n count s (Some why) m t h = h
send_texts n count s None m t h = changes_texts n (take count (plan s.now)) s (version_end (take count (plan s.now))) m (all_taken ChangeHasTexts count (plan s.now) (plan_texts s.now t)) h

pub fetch_texts : (limit n : ℕ) (area : Option Area) (wanted : Option (List Pair)) (s : State) (back : ℕ) (o : Option Objects) (m : Meeting) → slice_get (states m) back ≡ o → IsTextMeeting m → IsTextMeeting (fetch_met limit n area wanted s o m).meeting
fetch_texts limit n area wanted s back None m at h = at_texts n _ m (λ e t. refused_tables IsTextTable e.state.group e.state t) h
fetch_texts limit n area wanted s back (Some objects) m at h =
    let told = told_of_state objects area wanted in
    step_texts n (job_move limit (Merge told)) m (λ s t. job_texts limit (Merge told) s (told_texts objects area wanted (state_at (states m) back objects h.servers at)) t) h

-- An act.

work_texts : (limit n : ℕ) (a : MeetAct) (s : State) (m : Meeting) → MeetActBringsTexts a → IsTextTable s.now → IsTextMeeting m → IsTextMeeting (met_at_work limit n a s m).meeting
work_texts limit n (act.Fetch back area wanted) s m i t h = fetch_texts limit n area (option_map (λ tags. tags.now) wanted) s back (slice_get (states m) back) m refl h
work_texts limit n (act.Own step) s m i t h = step_texts n (edited limit step) m (λ s t. steps_keep limit step s i t) h
work_texts limit n (act.Send count) s m i t h = send_texts n count s (upload_refusal s.now) m t h
work_texts limit n act.Answer s m i t h = h
work_texts limit n act.Lost s m i t h = h

wait_texts : (n : ℕ) (a : MeetAct) (answers : List Answer) (e : Editor) (m : Meeting) → IsTextMeeting m → IsTextMeeting (lifted n (own_wait a answers) e m).meeting
wait_texts n act.Answer answers e m h = at_texts n (answered (Some answers)) m (answered_texts answers) h
wait_texts n act.Lost answers e m h = at_texts n lost m (λ x t. t) h
wait_texts n a answers e m h = at_texts n (λ x. x) m (λ x t. t) h

by_texts : (limit n : ℕ) (a : MeetAct) (e : Editor) (o : Option (List Answer)) (m : Meeting) → MeetActBringsTexts a → IsTextEditor e → IsTextMeeting m → IsTextMeeting (met_by limit n a e o m).meeting
by_texts limit n a e None m i t h = work_texts limit n a e.state m i t.now h
by_texts limit n a e (Some answers) m i t h = wait_texts n a answers e m h

editor_at : (es : List Editor) (n : ℕ) (e : Editor) → AllByRecursion IsTextEditor es → slice_get es n ≡ Some e → IsTextEditor e
editor_at [] n e h at = cc
editor_at (x ∷ xs) zero e h at = subst IsTextEditor (let same : x ≡ e = cc in same) h.0
editor_at (x ∷ xs) (suc n) e h at = editor_at xs n e h.1 at

of_texts : (limit n : ℕ) (a : MeetAct) (o : Option Editor) (m : Meeting) → slice_get m.editors n ≡ o → MeetActBringsTexts a → IsTextMeeting m → IsTextMeeting (met_of (λ e. met_by limit n a e e.waits) o m).meeting
of_texts limit n a None m at i h = h
of_texts limit n a (Some e) m at i h = by_texts limit n a e e.waits m i (editor_at m.editors n e h.editors at) h

pub met_texts : (limit n : ℕ) (a : MeetAct) (m : Meeting) → MeetActBringsTexts a → IsTextMeeting m → IsTextMeeting (met limit n a m).meeting
met_texts limit n a m i h = of_texts limit n a (slice_get m.editors n) m refl i h

-- The start.

nothing_known : IsTextTable (record { entries = fin.empty; next = 1 })
nothing_known = record { entries = λ k e is. none_some e (entry_of (record { entries = fin.empty; next = 1 }) k) (fin.get-empty rank_cmp k) is }

all_first : (n : ℕ) → AllByRecursion IsTextEditor (first_editors n)
all_first zero = tt
all_first (suc n) = (fresh_texts (record { entries = fin.empty; next = 1 }) nothing_known, all_first n)

-- a server with the objects of a file
pub served_texts : (objects : List OplObject) (n : ℕ) → AllByRecursion IsTextObject objects → IsTextMeeting (served (objects_served objects) n)
served_texts objects n i = record { servers = (with_served_texts objects fin.empty i empty_texts, tt); editors = all_first n }

pub first_texts : (n : ℕ) → IsTextMeeting (first_meeting n)
first_texts n = record { servers = (empty_texts, tt); editors = all_first n }
