-- A step leaves a group open where one was open, but for `begin` and `end`.
use Rattle.std.proofs.Common.{◌≡◌, ℕ, Bool, true, false, Result, Ok, Err, refl, sym, ap, if◌then◌else◌}
use Rattle.osm_table.specs.Table.{TableValue}
use Rattle.dataset.specs.Patch.{PatchValue}
use Rattle.tool_api.specs.declared.reply.Reply.{Reply}
use Rattle.tool_api.specs.declared.reply.Reply.TheVariants as reply
use Rattle.edit_script.specs.declared.step.Act.{Act}
use Rattle.edit_script.specs.declared.step.Act.TheVariants.{Job, Generate, History, File}
use Rattle.edit_script.specs.declared.step.HistoryStep.TheVariants.{Begin, Undo, Redo}
use Rattle.edit_script.specs.declared.step.Purpose.TheVariants.{Download, Import, Confirm, Resume}
use Rattle.edit_script.specs.declared.reply.StepRefusal.{StepRefusal}
use Rattle.edit_script.specs.Order.{inside_after, may_stand}
use Rattle.edit_history.specs.declared.counts.Group.{Group}
use Rattle.edit_history.specs.declared.counts.Group.TheVariants.{Outside, Running, Refused}
use Rattle.edit_history.specs.Machine.{State, done_in, refused_in, ran}
use Rattle.edit_history.specs.Moved.{Move}
use Rattle.edit_history.specs.declared.edit_step.EditAnswer.{EditAnswer}
use Rattle.edit_steps.specs.declared.limits.Limits.{Limits}
use Rattle.edit_steps.specs.declared.loading.Found.{Found}
use Rattle.edit_steps.specs.declared.loading.Found.TheVariants as found
use Rattle.edit_steps.specs.Groups.{is_open, is_given_up}
use Rattle.edit_steps.proofs.Tests.{either}
use Rattle.edit_steps.specs.Turn.{turn, act_turn, file_turn, settled_turn, confirm_turn, resume_turn, skipped_turn}
use Rattle.edit_steps.specs.Settled.{confirmed, resumed}

done_open : (g : Group) (u : TableValue) (s : State) → s.group ≡ g → is_given_up g ≡ false → is_open (done_in g u s).group ≡ is_open g
done_open Outside u s e going = refl
done_open Running u s e going = refl
done_open Refused u s e going = absurd cc

pub refused_open : (g : Group) (s : State) → s.group ≡ g → is_given_up g ≡ false → is_open (refused_in g s).group ≡ is_open g
refused_open Outside s e going = ap is_open e
refused_open Running s e going = refl
refused_open Refused s e going = absurd cc

pub ran_open : (r : Reply) (u : TableValue) (s : State) → is_given_up s.group ≡ false → is_open (ran r u s).group ≡ is_open s.group
ran_open (reply.Done keys) u s going = done_open s.group u s refl going
ran_open (reply.Refused why) u s going = refused_open s.group s refl going

file_open : (limit : ℕ) (found : Found) (s : State) → is_given_up s.group ≡ false → is_open (file_turn limit found s).state.group ≡ is_open s.group
file_open limit (found.Job job) s going = ran_open _ _ s going
file_open limit f s going = refused_open s.group s refl going

settled_open : (answer : Result PatchValue StepRefusal) (s : State) → is_open s.group ≡ false → is_open (settled_turn answer s).state.group ≡ is_open s.group
settled_open (Ok patch) s outside = sym outside
settled_open (Err why) s outside = refl

confirm_open : (found : Found) (s : State) → is_given_up s.group ≡ false → is_open s.group ≡ false → is_open (confirm_turn found s).state.group ≡ is_open s.group
confirm_open (found.Bytes bytes) s going outside = settled_open (confirmed s.now bytes) s outside
confirm_open f s going outside = refused_open s.group s refl going

resume_open : (limit : ℕ) (found : Found) (s : State) → is_given_up s.group ≡ false → is_open s.group ≡ false → is_open (resume_turn limit found s).state.group ≡ is_open s.group
resume_open limit (found.Bytes bytes) s going outside = settled_open (resumed limit s.now bytes) s outside
resume_open limit f s going outside = refused_open s.group s refl going

-- what may not stand in a group stands outside
pub taken_outside : (is_inside : Bool) (a : Act) → may_stand true a ≡ false → may_stand is_inside a ≡ true → is_inside ≡ false
taken_outside true a never stands = absurd cc
taken_outside false a never stands = refl

act_open : (limits : Limits) (found : Found) (act : Act) (s : State) → may_stand (is_open s.group) act ≡ true → is_given_up s.group ≡ false → is_open (act_turn limits found act s).state.group ≡ inside_after (is_open s.group) act
act_open limits found (Job job) s stands going = ran_open _ _ s going
act_open limits found (Generate streets) s stands going = ran_open _ _ s going
act_open limits found (History (Undo n)) s stands going = either (λ (m : Move EditAnswer). is_open m.state.group ≡ is_open s.group) _ _ _ refl refl
act_open limits found (History (Redo n)) s stands going = either (λ (m : Move EditAnswer). is_open m.state.group ≡ is_open s.group) _ _ _ refl refl
act_open limits found (File name (Download area wanted)) s stands going = file_open limits.objects found s going
act_open limits found (File name Import) s stands going = file_open limits.objects found s going
act_open limits found (File name Confirm) s stands going = confirm_open found s going (taken_outside (is_open s.group) (File name Confirm) refl stands)
act_open limits found (File name Resume) s stands going = resume_open limits.objects found s going (taken_outside (is_open s.group) (File name Resume) refl stands)
act_open limits found act s stands going = refl

pub given_up_open : (g : Group) → is_given_up g ≡ true → is_open g ≡ true
given_up_open Outside e = absurd cc
given_up_open Running e = refl
given_up_open Refused e = refl

skipped_open : (act : Act) (s : State) → is_given_up s.group ≡ true → is_open (skipped_turn act s).state.group ≡ inside_after (is_open s.group) act
skipped_open (History Begin) s given_up = given_up_open s.group given_up
skipped_open act s given_up = refl

turn_open_by : (limits : Limits) (found : Found) (act : Act) (s : State) (given_up : Bool) → may_stand (is_open s.group) act ≡ true → is_given_up s.group ≡ given_up → is_open (if given_up then skipped_turn act s else act_turn limits found act s).state.group ≡ inside_after (is_open s.group) act
turn_open_by limits found act s true stands e = skipped_open act s e
turn_open_by limits found act s false stands e = act_open limits found act s stands e

pub turn_open : (limits : Limits) (found : Found) (act : Act) (s : State) → may_stand (is_open s.group) act ≡ true → is_open (turn limits found act s).state.group ≡ inside_after (is_open s.group) act
turn_open limits found act s stands = turn_open_by limits found act s (is_given_up s.group) stands refl
