-- A sound meeting has the keys of its tables at its server, and no fetch of it clashes.
use Rattle.std.proofs.Common.{◌≡◌, ℕ, Bool, true, false, is_some, if◌then◌else◌, List, Option, None, Some, refl, sym, ap, ◌∙◌}
use Rattle.std.specs.Prelude.{slice_get}
use Rattle.osm_base.specs.Tags.{Pair}
use Rattle.osm_base.specs.declared.area.Area.{Area}
use Rattle.osm_base.specs.declared.key.Key.{Key}
use Rattle.tool_api.specs.declared.refusal.Refusal.{Refusal}
use Rattle.tool_api.specs.declared.refusal.Refusal.TheVariants.{VersionClash}
use Rattle.edit_history.specs.declared.edit_step.EditRefusal.TheVariants as own_why
use Rattle.edit_script.specs.declared.reply.StepRefusal.TheVariants as refusal
use Rattle.edit_script.specs.declared.reply.StepReply.{StepReply}
use Rattle.edit_script.specs.declared.reply.StepReply.TheVariants as reply_of
use Rattle.edit_script.specs.declared.step.Act.{Act}
use Rattle.edit_script.specs.declared.step.Act.TheVariants as act
use Rattle.edit_script.specs.declared.step.MeetStep.TheVariants as meet
use Rattle.placeholder.specs.declared.answer.Answer.{Answer}
use Rattle.upload_order.specs.declared.refusal.PlanRefusal.{PlanRefusal}
use Rattle.upload_order.specs.declared.refusal.PlanRefusal.TheVariants as plan
use Rattle.many_editors.specs.declared.act.MeetAct.TheVariants as meet_act
use Rattle.many_editors.specs.declared.reply.MeetRefusal.{MeetRefusal}
use Rattle.many_editors.specs.declared.reply.MeetRefusal.TheVariants as why
use Rattle.many_editors.specs.declared.reply.MeetReply.{MeetReply}
use Rattle.many_editors.specs.declared.reply.MeetReply.TheVariants as met_reply
use Rattle.many_editors.specs.Acts.{Met, fetch_met, met}
use Rattle.many_editors.specs.Meeting.{Meeting, states}
use Rattle.many_editors.specs.Sound.{IsSoundMeeting}
use Rattle.many_editors.proofs.Acting.{keys_stand}
use Rattle.many_editors.proofs.Replying.{met_calm}
use Rattle.edit_steps.specs.declared.limits.Limits.{Limits}
use Rattle.edit_steps.specs.declared.loading.Found.{Found}
use Rattle.edit_steps.specs.Groups.{is_given_up}
use Rattle.edit_session.specs.Meet.{Seat, meet_turn, met_response, met_turn, own, still, wait_turn, work_turn}
use Rattle.edit_session.specs.Met.{IsWhole}
use Rattle.edit_steps.specs.Turn.{reply_alone}
use Rattle.edit_session.proofs.Seats.{Here, met_working}

pub is_whole : (m : Meeting) → IsSoundMeeting m → IsWhole m
is_whole m s = record { sound = s; keys = keys_stand m s }

-- the reply is that versions clash
abbrev IsClash : StepReply → Type 0
IsClash reply = (k : Key) × (version : ℕ) × (reply ≡ reply_of.Refused (refusal.Tool (VersionClash k version)))

abbrev MetClash : MeetReply → Type 0
MetClash reply = (k : Key) × (version : ℕ) × (reply ≡ met_reply.Refused (why.Own (own_why.Tool (VersionClash k version))))

by_plan : (r : PlanRefusal) → IsClash (met_response (met_reply.Refused (why.Plan r))).reply → MetClash (met_reply.Refused (why.Plan r))
by_plan (plan.Conflicts count first) h = let e = h.2 in cc
by_plan (plan.IncompleteRef key of) h = let e = h.2 in cc
by_plan (plan.Cyclic keys) h = let e = h.2 in cc
by_plan plan.Memory h = let e = h.2 in cc

by_why : (r : MeetRefusal) → IsClash (met_response (met_reply.Refused r)).reply → MetClash (met_reply.Refused r)
by_why (why.Own (own_why.Tool reason)) h = let e = h.2 in (h.0, h.1, ap (λ (x : Refusal). met_reply.Refused (why.Own (own_why.Tool x))) (let same : reason ≡ VersionClash h.0 h.1 = cc in same))
by_why (why.Own own_why.NothingToUndo) h = let e = h.2 in cc
by_why (why.Own own_why.NothingToRedo) h = let e = h.2 in cc
by_why (why.Plan reason) h = by_plan reason h
by_why (why.NoState count) h = let e = h.2 in cc
by_why why.NotWaiting h = let e = h.2 in cc
by_why why.Waiting h = let e = h.2 in cc
by_why (why.VersionEnd key) h = let e = h.2 in cc

-- a step is refused so where the meeting refuses it so
by_met : (r : MeetReply) → IsClash (met_response r).reply → MetClash r
by_met (met_reply.Done made) h = let e = h.2 in cc
by_met (met_reply.Sent count refused) h = let e = h.2 in cc
by_met (met_reply.Refused r) h = by_why r h

module _ (limits : Limits) (found : Found) (seat : Seat) (here : Here seat) (s : IsSoundMeeting seat.meeting) (back : ℕ) (area : Option Area) where
  calm_by : (wanted : _) (m : Met) → met limits.objects seat.editor (meet_act.Fetch back area wanted) seat.meeting ≡ m → MetClash m.reply → ⊥
  calm_by wanted m is h = met_calm seat.meeting s limits.objects seat.editor (meet_act.Fetch back area wanted) h.0 h.1 (ap (λ (x : Met). x.reply) is ∙ h.2)

  calm_fetch : (wanted : Option (List Pair)) → (own seat).waits ≡ None → MetClash (fetch_met limits.objects seat.editor area wanted (own seat).state (slice_get (states seat.meeting) back) seat.meeting).reply → ⊥
  calm_fetch None idle h = calm_by None _ (met_working seat here limits.objects (meet_act.Fetch back area None) idle) h
  calm_fetch (Some tags) idle h = calm_by (Some (record { ref_ptr = (0, 0); now = tags })) _ (met_working seat here limits.objects (meet_act.Fetch back area (Some (record { ref_ptr = (0, 0); now = tags }))) idle) h

  calm_work : (wanted : Option (List Pair)) (given_up : Bool) → (own seat).waits ≡ None
      → IsClash (if given_up then still (reply_alone reply_of.Skipped) seat else met_turn (fetch_met limits.objects seat.editor area wanted (own seat).state (slice_get (states seat.meeting) back) seat.meeting) seat).answer.reply → ⊥
  calm_work wanted true idle h = let e = h.2 in cc
  calm_work wanted false idle h = calm_fetch wanted idle (by_met (fetch_met limits.objects seat.editor area wanted (own seat).state (slice_get (states seat.meeting) back) seat.meeting).reply h)

  calm_turn : (wanted : Option (List Pair)) (waits : Option (List Answer)) → (own seat).waits ≡ waits
      → IsClash (if is_some waits then wait_turn (act.Meet (meet.Fetch back area wanted)) seat else work_turn limits found (act.Meet (meet.Fetch back area wanted)) seat).answer.reply → ⊥
  calm_turn wanted (Some answers) is h = let e = h.2 in cc
  calm_turn wanted None is h = calm_work wanted (is_given_up (own seat).state.group) is h

  -- No fetch is refused since versions clash.
  pub calm : (wanted : Option (List Pair)) (a : Act) → a ≡ act.Meet (meet.Fetch back area wanted) → (k : Key) (version : ℕ) → (meet_turn limits found a seat).answer.reply ≡ reply_of.Refused (refusal.Tool (VersionClash k version)) → ⊥
  calm wanted a is k version e =
      calm_turn wanted (own seat).waits refl (k, version, ap (λ x. (meet_turn limits found x seat).answer.reply) (sym is) ∙ e)
