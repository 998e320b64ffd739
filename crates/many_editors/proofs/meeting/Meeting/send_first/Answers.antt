use Rattle.std.proofs.Common.{refl, ◌∙◌, ap, take, arith}
use Rattle.std.proofs.lemmas.Result.{err_from_is_err_and}
use Rattle.many_editors.specs.Sending.{version_end}
use Rattle.many_editors.proofs.Lifting.{there_at}
use Rattle.many_editors.proofs.Outgoing.{first_sent, same_table, send_comes, send_left, taken_first}
use Rattle.many_editors.proofs.meeting.Meeting.send_first.Goals as goal

pub send-requires : goal.send-requires
send-requires g c = ap version_end (c.first_changes-first.ensures ∙ ap (take c.args.count) c.as_slice.ensures) ∙ c.requires.before_end

pub returns : goal.returns
returns g c =
    let at = there_at _ _ c.args.self.now c.args.editor c.index_mut.result.now c.requires.asked c.index_mut.ensures.value in
    record {
      comes = send_comes _ _ _ c.args.self.now c.args.editor c.index_mut.result.now at _ (take c.args.count c.args.changes) (record { plan = c.args.changes; answers = c.in_ok-outcome.outcome.answers }) c.len-accepted.result c.in_ok-outcome.outcome.refused c.ds-ds.result.now
          refl c.requires.valid (omega (arith, c.len-accepted.ensures, c.in_ok-outcome.outcome.answers.ok.0))
          (same_table c.args.self.now c.args.editor c.index_mut.result.now c.index.result.now c.ds-ds.result.now at (there_at _ _ c.args.self.now c.args.editor c.index.result.now c.requires.asked c.index.ensures) c.ds-ds.ensures) c.requires.planned
          (first_sent c.ds-ds.result.now c.args.self.now c.in_ok-outcome.outcome c.send.new.world c.send.new.log c.first_changes-first.result.now (take c.args.count c.args.changes) (c.first_changes-first.ensures ∙ ap (take c.args.count) c.as_slice.ensures) c.in_ok-outcome.ensures.ok);
      left = tt;
    }

pub returns-in_err-outcome : goal.returns-in_err-outcome
returns-in_err-outcome g c =
    let p = err_from_is_err_and c.from_residual.result c.from_residual.ensures.1 in
    rw p.1 (record {
      comes = record { histories = tt; verbs = tt; reply = tt; meeting = tt };
      left = send_left _ _ _ c.args.self.now c.args.editor c.index.result.now (there_at _ _ c.args.self.now c.args.editor c.index.result.now c.requires.asked c.index.ensures)
          (record { world = c.send.new.world; log = c.send.new.log; editors = c.args.self.now.editors }) (take c.args.count c.args.changes) c.ds-ds.result.now refl c.requires.valid c.ds-ds.ensures
          (taken_first c.ds-ds.result.now c.args.self.now c.send.new.world c.send.new.log c.first_changes-first.result.now (take c.args.count c.args.changes) (c.first_changes-first.ensures ∙ ap (take c.args.count) c.as_slice.ensures) c.in_err-outcome.ensures.err);
    })
