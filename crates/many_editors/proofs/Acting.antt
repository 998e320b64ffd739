-- A meeting stays sound by each act.
use Rattle.std.proofs.Common.{◌≡◌, ℕ, zero, suc, List, [], ◌∷◌, take, slice_get, Option, Some, None, Result, Ok, Err, refl, sym, ap, subst}
use Rattle.std.specs.List.{AllByRecursion}
use Rattle.std.specs.Option.{option_map}
use Rattle.std.specs.FinMap as fin
use Rattle.osm_base.specs.Rank.{rank_cmp}
use Rattle.osm_base.specs.Tags.{Pair}
use Rattle.osm_base.specs.declared.area.Area.{Area}
use Rattle.osm_base.specs.declared.key.Key.{Key}
use Rattle.osm_table.specs.declared.entry.Entry.{Entry}
use Rattle.osm_table.specs.Table.{TableValue, entry_of}
use Rattle.dataset.specs.Sound.{IsSound}
use Rattle.tool_api.specs.declared.job.Job.TheVariants as job
use Rattle.edit_history.specs.declared.counts.Group.TheVariants.{Outside}
use Rattle.edit_history.specs.declared.edit_step.EditAnswer.{EditAnswer}
use Rattle.edit_history.specs.Machine.{State, refused_in}
use Rattle.edit_history.specs.Moved.{Move}
use Rattle.edit_history.specs.Steps.{edited, job_move}
use Rattle.upload_order.specs.declared.change.Change.{Change}
use Rattle.upload_order.specs.declared.refusal.PlanRefusal.{PlanRefusal}
use Rattle.upload_order.specs.Refused.{upload}
use Rattle.upload_order.specs.Pieces.{content_in}
use Rattle.upload_order.proofs.Basics.{none_some}
use Rattle.placeholder.specs.declared.answer.Answer.{Answer}
use Rattle.server_world.specs.Codes.{Objects}
use Rattle.server_world.specs.Sent.{pick_for}
use Rattle.editor_laws.specs.Bases.{Mentions}
use Rattle.editor_laws.specs.Bases.Mentions.{has_key}
use Rattle.editor_laws.specs.Editing.{EachTable}
use Rattle.editor_laws.proofs.SeenLists.{all_more}
use Rattle.editor_laws.proofs.SeenSteps.{job_tables, kept_tables, refused_tables}
use Rattle.many_editors.specs.declared.act.MeetAct.{MeetAct}
use Rattle.many_editors.specs.declared.act.MeetAct.TheVariants as act
use Rattle.many_editors.specs.States.{IsFromStates, IsServer}
use Rattle.many_editors.specs.Serving.{told_of_state}
use Rattle.many_editors.specs.Sending.{version_end}
use Rattle.many_editors.specs.Meeting.{Editor, Meeting, states, at_editor, at_work, first_editor, first_editors, served, stepped}
use Rattle.many_editors.specs.Acts.{lifted, fetch_met, changes_met, send_met, met_at_work, met_by, met_of, met}
use Rattle.many_editors.specs.Own.{own_wait}
use Rattle.many_editors.specs.Laws.{AllKeysStand, IsAbsent, IsNewId, IsUnmentioned, KeysStand, MayKeepSound, OfEachTable}
use Rattle.many_editors.specs.Sound.{MayWait, IsFrom, IsSoundMeeting, KeepsSound}
use Rattle.many_editors.proofs.Fetching.{tells_state}
use Rattle.many_editors.proofs.Lifting.{all_at}
use Rattle.many_editors.proofs.Stating.{keeps_states, empty_states, mentioned_stands, unmentioned}
use Rattle.many_editors.proofs.Merging.{fetched_states}
use Rattle.many_editors.proofs.Sends.{least_ids}
use Rattle.many_editors.proofs.Waiting.{each_map, here, at_sound, answered_sound, lost_sound, sent_sound}

module _ (m : Meeting) (s : IsSoundMeeting m) (n : ℕ) (e : Editor) (at : slice_get m.editors n ≡ Some e) where
  tables : EachTable (IsFromStates (states m)) e.state
  tables = (here m s n e at).tables

  -- An editor at work.
  module _ (idle : e.waits ≡ None) where
    -- a step of its machine after which its tables are from the states
    step_sound : (move : State → Move EditAnswer) → EachTable (IsFromStates (states m)) (move e.state).state → IsSoundMeeting (at_editor n (stepped move) m)
    step_sound move from = at_sound m s n e at (stepped move) (record { tables = from; waits = subst (MayWait (states m) (move e.state).state) (sym idle) tt })

    module _ (is : IsSound e.state.now) (limit : ℕ) where
      fetch_sound : (area : Option Area) (wanted : Option (List Pair)) (back : ℕ) (o : Option Objects) → slice_get (states m) back ≡ o → IsSoundMeeting (fetch_met limit n area wanted e.state o m).meeting
      fetch_sound area wanted back None get = at_sound m s n e at (λ e. at_work (refused_in e.state.group e.state)) (record { tables = refused_tables (IsFromStates (states m)) e.state.group e.state tables; waits = tt })
      fetch_sound area wanted back (Some objects) get =
          let told = told_of_state objects area wanted in
          step_sound (job_move limit (job.Merge told)) (job_tables (IsFromStates (states m)) limit (job.Merge told) e.state (fetched_states (states m) back objects told e.state.now limit s.servers get (tells_state objects (all_at IsServer (states m) back objects s.servers get) area wanted) is tables.now) tables)

      changes_sound : (count : ℕ) (changes : List Change) → upload e.state.now ≡ Ok changes → e.state.group ≡ Outside → (end : Option Key) → version_end (take count changes) ≡ end → IsSoundMeeting (changes_met n (take count changes) e.state end m).meeting
      changes_sound count changes ok outside None end = sent_sound m s n e at changes count is ok (λ w c. pick_for w e.state.now c) (least_ids e.state.now) outside end
      changes_sound count changes ok outside (Some k) end = s

      send_sound : (count : ℕ) → e.state.group ≡ Outside → (r : Result (List Change) PlanRefusal) → upload e.state.now ≡ r → IsSoundMeeting (send_met n count e.state r m).meeting
      send_sound count may (Err why) plan = s
      send_sound count may (Ok changes) plan = changes_sound count changes plan may (version_end (take count changes)) refl

      work_sound : (act : MeetAct) → KeepsSound act e.state → IsSoundMeeting (met_at_work limit n act e.state m).meeting
      work_sound (act.Fetch back area wanted) may = fetch_sound area (option_map (λ tags. tags.now) wanted) back (slice_get (states m) back) refl
      work_sound (act.Own step) may = step_sound (edited limit step) (kept_tables (IsFromStates (states m)) (keeps_states (states m)) limit step e.state may tables)
      work_sound (act.Send count) may = send_sound count may (upload e.state.now) refl
      work_sound act.Answer may = s
      work_sound act.Lost may = s

  -- An editor that waits.
  wait_sound : (act : MeetAct) (answers : List Answer) → e.waits ≡ Some answers → IsSoundMeeting (lifted n (own_wait act answers) e m).meeting
  wait_sound act.Answer answers waits = answered_sound m s n e at answers waits
  wait_sound act.Lost answers waits = lost_sound m s n e at
  wait_sound act answers waits = at_sound m s n e at (λ x. x) (here m s n e at)

  by_sound : (limit : ℕ) (act : MeetAct) → IsSound e.state.now → (e.waits ≡ None → KeepsSound act e.state) → (o : Option (List Answer)) → e.waits ≡ o → IsSoundMeeting (met_by limit n act e o m).meeting
  by_sound limit act is may None waits = work_sound waits is limit act (may waits)
  by_sound limit act is may (Some answers) waits = wait_sound act answers waits

of_sound : (limit n : ℕ) (act : MeetAct) (m : Meeting) → IsSoundMeeting m → (o : Option Editor) → slice_get m.editors n ≡ o → ((e : Editor) → o ≡ Some e → IsSound e.state.now × (e.waits ≡ None → KeepsSound act e.state)) → IsSoundMeeting (met_of (λ e. met_by limit n act e e.waits) o m).meeting
of_sound limit n act m s None at may = s
of_sound limit n act m s (Some e) at may = let x = may e refl in by_sound m s n e at limit act x.0 x.1 e.waits refl

-- A meeting stays sound by each act of an editor whose table is sound.
pub met_sound : (limit n : ℕ) (act : MeetAct) (m : Meeting) → IsSoundMeeting m → MayKeepSound n act m → IsSoundMeeting (met limit n act m).meeting
met_sound limit n act m s may = of_sound limit n act m s (slice_get m.editors n) refl (λ e at. (may.table e at, may.keeps e at))

-- The start.

abbrev nothing : Objects
nothing = fin.empty

none_stands : (k : Key) → fin.get nothing k ≡ None
none_stands k = fin.get-empty rank_cmp k

pub empty_server : IsServer nothing
empty_server = record {
  sound = λ k r c h used. none_some c (content_in (fin.get nothing k)) (ap content_in (none_stands k)) h;
  served = λ k e h. none_some e (fin.get nothing k) (none_stands k) h;
}

pub first_from : (ms : List Objects) → IsFrom ms first_editor
first_from ms = record { tables = record { past = tt; now = empty_states ms; undone = tt; start = empty_states ms }; waits = tt }

all_first : (ms : List Objects) (n : ℕ) → AllByRecursion (IsFrom ms) (first_editors n)
all_first ms zero = tt
all_first ms (suc n) = (first_from ms, all_first ms n)

-- A meeting at a server begins sound.
pub served_sound : (objects : Objects) (n : ℕ) → IsServer objects → IsSoundMeeting (served objects n)
served_sound objects n server = record { servers = (server, tt); history = (tt, tt); editors = all_first (objects ∷ []) n }

pub first_sound : (n : ℕ) → IsSoundMeeting (served fin.empty n)
first_sound n = served_sound fin.empty n empty_server

-- A key that a server may give and that doesn't stand in the world is mentioned in no table.
pub new_to_tables : (m : Meeting) (k : Key) → IsSoundMeeting m → IsNewId m k → OfEachTable (IsUnmentioned k) m
new_to_tables m k s new =
    all_more (IsFrom (states m)) (λ e. EachTable (IsUnmentioned k) e.state)
    (λ e h. each_map (IsFromStates (states m)) (IsUnmentioned k) e.state (λ t from. unmentioned m.earlier m.world.entries t k s.history.0 from new.positive new.absent) h.tables) m.editors s.editors

not_there : (t : TableValue) (k : Key) (o : Option Entry) → entry_of t k ≡ o → (Mentions t k → ⊥) → o ≡ None
not_there t k None is h = refl
not_there t k (Some e) is h = absurd (h (has_key e is))

-- So it stands in none.
pub absent_from_tables : (m : Meeting) (k : Key) → IsSoundMeeting m → IsNewId m k → OfEachTable (IsAbsent k) m
absent_from_tables m k s new =
    all_more (λ e. EachTable (IsUnmentioned k) e.state) (λ e. EachTable (IsAbsent k) e.state)
    (λ e h. each_map (IsUnmentioned k) (IsAbsent k) e.state (λ t none. not_there t k (entry_of t k) refl none) h) m.editors (new_to_tables m k s new)

-- Each positive key of a table stands in the world.
pub keys_stand : (m : Meeting) → IsSoundMeeting m → AllKeysStand m
keys_stand m s =
    all_more (IsFrom (states m)) (λ e. EachTable (KeysStand m.world) e.state)
    (λ e h. each_map (IsFromStates (states m)) (KeysStand m.world) e.state (λ t from k entry is positive. mentioned_stands m.earlier m.world.entries t k s.history.0 from positive (has_key entry is)) h.tables) m.editors s.editors
