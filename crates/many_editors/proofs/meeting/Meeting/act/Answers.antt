use Rattle.std.proofs.Common.{false, refl, sym, true, ◌∙◌, ap}
use Rattle.edit_history.specs.Steps.{edited}
use Rattle.many_editors.specs.declared.act.MeetAct.TheVariants as act
use Rattle.many_editors.specs.Left.{changes_sent}
use Rattle.many_editors.specs.Own.{own_step, own_waiting}
use Rattle.many_editors.proofs.Going.{fetch_asked, fetch_moved, none_waits, own_fits, own_moved, send_asked, send_moved, waiting_fits, waiting_moved}
use Rattle.many_editors.proofs.Lifting.{lifts_left, sends_as, there_at}
use Rattle.many_editors.proofs.Outgoing.{same_table, same_test}
use Rattle.many_editors.proofs.meeting.Meeting.act.Goals as goal

pub wait-requires : goal.wait-requires
wait-requires g c =
    let x = c.index-2.result.now in
    let y = c.index_mut.result.now in
    let at = there_at _ _ c.args.self.now c.args.editor y c.requires.asked.there c.index_mut.ensures.value in
    let test = same_test c.args.self.now c.args.editor x y true (there_at _ _ c.args.self.now c.args.editor x c.requires.asked.there c.index-2.ensures) at (sym c.is_some.ensures ∙ c.if-is_some.true) in
    waiting_fits _ _ _ c.args.self.now c.args.editor c.args.act.now y at c.requires test

pub returns-then-is_some : goal.returns-then-is_some
returns-then-is_some g c =
    let x = c.index-2.result.now in
    let y = c.index_mut.result.now in
    let at = there_at _ _ c.args.self.now c.args.editor y c.requires.asked.there c.index_mut.ensures.value in
    let test = same_test c.args.self.now c.args.editor x y true (there_at _ _ c.args.self.now c.args.editor x c.requires.asked.there c.index-2.ensures) at (sym c.is_some.ensures ∙ c.if-is_some.true) in
    let table = same_table c.args.self.now c.args.editor y c.index.result.now c.ds.result.now at (there_at _ _ c.args.self.now c.args.editor c.index.result.now c.requires.asked.there c.index.ensures) c.ds.ensures in
    record {
      moved = waiting_moved _ _ _ c.args.self.now c.args.editor c.args.act.now y at c.requires c.ds.result.now table c.sound.ensures c.args.limit _ c.wait.result c.wait.new.self refl refl refl test c.wait.ensures;
      left = lifts_left _ _ _ c.args.self.now _ c.wait.result c.args.editor y c.wait.new.self (own_waiting c.args.act.now) at refl refl refl c.requires.valid.histories c.wait.ensures (changes_sent c.args.act.now);
    }

pub step-requires : goal.step-requires
step-requires g c =
    let x = c.index-2.result.now in
    let y = c.index_mut-in-Own.result.now in
    let at = there_at _ _ c.args.self.now c.args.editor y c.requires.asked.there c.index_mut-in-Own.ensures.value in
    let test = same_test c.args.self.now c.args.editor x y false (there_at _ _ c.args.self.now c.args.editor x c.requires.asked.there c.index-2.ensures) at (sym c.is_some.ensures ∙ c.if-is_some.false) in
    own_fits _ _ _ c.args.self.now c.args.editor c.args.act.now y at c.requires test c.in-Own.step c.in-Own.is

pub returns-in-Own : goal.returns-in-Own
returns-in-Own g c =
    let x = c.index-2.result.now in
    let y = c.index_mut-in-Own.result.now in
    let at = there_at _ _ c.args.self.now c.args.editor y c.requires.asked.there c.index_mut-in-Own.ensures.value in
    let test = same_test c.args.self.now c.args.editor x y false (there_at _ _ c.args.self.now c.args.editor x c.requires.asked.there c.index-2.ensures) at (sym c.is_some.ensures ∙ c.if-is_some.false) in
    let table = same_table c.args.self.now c.args.editor y c.index.result.now c.ds.result.now at (there_at _ _ c.args.self.now c.args.editor c.index.result.now c.requires.asked.there c.index.ensures) c.ds.ensures in
    record {
      moved = own_moved _ _ _ c.args.self.now c.args.editor c.args.act.now y at c.requires c.ds.result.now table c.sound.ensures c.args.limit _ c.step.result c.step.new.self refl refl refl test c.in-Own.step c.in-Own.is c.step.ensures;
      left = lifts_left _ _ _ c.args.self.now _ c.step.result c.args.editor y c.step.new.self (own_step (edited c.args.limit c.in-Own.step)) at refl refl refl c.requires.valid.histories c.step.ensures (changes_sent c.args.act.now);
    }

pub fetch-requires-clause-asked : goal.fetch-requires-clause-asked
fetch-requires-clause-asked g c =
    let y = c.index-2.result.now in
    let at = there_at _ _ c.args.self.now c.args.editor y c.requires.asked.there c.index-2.ensures in
    fetch_asked _ _ _ c.args.self.now c.args.editor c.args.act.now y at c.requires (sym c.is_some.ensures ∙ c.if-is_some.false) c.in-Fetch.back c.in-Fetch.area c.in-Fetch.wanted c.in-Fetch.is

pub returns-in-Fetch : goal.returns-in-Fetch
returns-in-Fetch g c =
    let y = c.index-2.result.now in
    let at = there_at _ _ c.args.self.now c.args.editor y c.requires.asked.there c.index-2.ensures in
    let table = same_table c.args.self.now c.args.editor y c.index.result.now c.ds.result.now at (there_at _ _ c.args.self.now c.args.editor c.index.result.now c.requires.asked.there c.index.ensures) c.ds.ensures in
    record {
      moved = fetch_moved _ _ _ c.args.self.now c.args.editor c.args.act.now y at c.requires c.ds.result.now table c.sound.ensures c.args.limit c.fetch.new.self c.fetch.result (sym c.is_some.ensures ∙ c.if-is_some.false) c.in-Fetch.back c.in-Fetch.area c.in-Fetch.wanted c.in-Fetch.is c.fetch.ensures.comes;
      left = sends_as _ _ _ c.args.self.now c.fetch.new.self c.fetch.result c.args.editor _ (changes_sent c.args.act.now) (λ e h. ap (λ a. changes_sent a e.state.now) (sym c.in-Fetch.is)) c.fetch.ensures.left;
    }

pub send-requires-clause-asked : goal.send-requires-clause-asked
send-requires-clause-asked g c =
    let y = c.index-2.result.now in
    let at = there_at _ _ c.args.self.now c.args.editor y c.requires.asked.there c.index-2.ensures in
    send_asked _ _ _ c.args.self.now c.args.editor c.args.act.now y at c.requires (sym c.is_some.ensures ∙ c.if-is_some.false) c.in-Send.count c.in-Send.is

pub returns-in-Send : goal.returns-in-Send
returns-in-Send g c =
    let y = c.index-2.result.now in
    let at = there_at _ _ c.args.self.now c.args.editor y c.requires.asked.there c.index-2.ensures in
    let table = same_table c.args.self.now c.args.editor y c.index.result.now c.ds.result.now at (there_at _ _ c.args.self.now c.args.editor c.index.result.now c.requires.asked.there c.index.ensures) c.ds.ensures in
    record {
      moved = send_moved _ _ _ c.args.self.now c.args.editor c.args.act.now y at c.requires c.ds.result.now table c.sound.ensures c.args.limit c.send.new.self c.send.result (sym c.is_some.ensures ∙ c.if-is_some.false) c.in-Send.count c.in-Send.is c.send.ensures.comes;
      left = sends_as _ _ _ c.args.self.now c.send.new.self c.send.result c.args.editor _ (changes_sent c.args.act.now) (λ e h. ap (λ a. changes_sent a e.state.now) (sym c.in-Send.is)) c.send.ensures.left;
    }

pub returns-in-Answer-clause-moved : goal.returns-in-Answer-clause-moved
returns-in-Answer-clause-moved g c =
    let y = c.index-2.result.now in
    let at = there_at _ _ c.args.self.now c.args.editor y c.requires.asked.there c.index-2.ensures in
    none_waits _ _ _ c.args.self.now c.args.editor c.args.act.now y at c.requires c.args.limit act.Answer (sym c.is_some.ensures ∙ c.if-is_some.false) c.in-Answer.is refl

pub returns-in-Lost-clause-moved : goal.returns-in-Lost-clause-moved
returns-in-Lost-clause-moved g c =
    let y = c.index-2.result.now in
    let at = there_at _ _ c.args.self.now c.args.editor y c.requires.asked.there c.index-2.ensures in
    none_waits _ _ _ c.args.self.now c.args.editor c.args.act.now y at c.requires c.args.limit act.Lost (sym c.is_some.ensures ∙ c.if-is_some.false) c.in-Lost.is refl
