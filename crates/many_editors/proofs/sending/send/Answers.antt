use Rattle.std.proofs.Common.{◌<◌, ◌+◌, ◌∷◌, drop, length, refl, sym, ◌∙◌, ap, subst, arith}
use Rattle.std.proofs.lemmas.List.{drop_more}
use Rattle.std.proofs.lemmas.Option.{slice_get_read}
use Rattle.many_editors.specs.Logged.{IsOneOutcome}
use Rattle.many_editors.proofs.Lifting.{always_err}
use Rattle.many_editors.proofs.Logging.{sends_left, sends_more, sends_taken, sends_up_to}
use Rattle.many_editors.proofs.Sends.{none_ends}
use Rattle.many_editors.proofs.sending.send.Goals as goal

pub send_one-requires : goal.send_one-requires
send_one-requires c =
    none_ends c.args.changes.now c.loop-change.change-index c.change-item.result c.requires (slice_get_read c.args.changes.now (length c.args.changes.now) c.loop-change.change-index c.change-item.result refl (omega arith) c.change-item.is)

pub returns-in_err-answer-clause-err : goal.returns-in_err-answer-clause-err
returns-in_err-answer-clause-err c =
    let cs = c.args.changes.now in
    let i = c.loop-change.change-index in
    let within : i < length cs = omega arith in
    always_err c.from_residual.result _
    (sends_left c.args.ds.now cs c.args.world.now c.args.log.now.items c.loop-change.world c.loop-change.log.items c.loop-change.answers.items c.change-item.result (drop i cs) (drop (i + 1) cs)
    (drop_more cs i c.change-item.result within ∙ ap (λ x. x ∷ drop (i + 1) cs) (sym c.change-item.is)) c.loop-change.invariant c.send_one.new.world c.send_one.new.log.items c.in_err-answer.ensures.err)

pub returns-in_err-push-in-Ok-clause-err : goal.returns-in_err-push-in-Ok-clause-err
returns-in_err-push-in-Ok-clause-err c =
    let cs = c.args.changes.now in
    let i = c.loop-change.change-index in
    let within : i < length cs = omega arith in
    always_err c.from_residual-in_err-push-in-Ok.result _
    (sends_taken c.args.ds.now cs c.args.world.now c.args.log.now.items c.loop-change.world c.loop-change.log.items c.loop-change.answers.items c.change-item.result (drop i cs) (drop (i + 1) cs)
    (drop_more cs i c.change-item.result within ∙ ap (λ x. x ∷ drop (i + 1) cs) (sym c.change-item.is)) c.loop-change.invariant c.send_one.new.world c.send_one.new.log.items c.in-Ok.answer
    (subst (λ r. IsOneOutcome c.args.ds.now c.change-item.result c.loop-change.world c.loop-change.log c.send_one.new.world c.send_one.new.log r) c.in-Ok.is c.in_ok-answer.ensures.ok))

pub returns-in-Err-clause-ok : goal.returns-in-Err-clause-ok
returns-in-Err-clause-ok c =
    let cs = c.args.changes.now in
    let i = c.loop-change.change-index in
    let within : i < length cs = omega arith in
    sends_up_to c.args.ds.now cs c.args.world.now c.args.log.now.items c.loop-change.world c.loop-change.log.items c.loop-change.answers.items c.change-item.result (drop i cs) (drop (i + 1) cs)
    (drop_more cs i c.change-item.result within ∙ ap (λ x. x ∷ drop (i + 1) cs) (sym c.change-item.is)) c.loop-change.invariant c.send_one.new.world c.send_one.new.log.items c.in-Err.why
    (subst (λ r. IsOneOutcome c.args.ds.now c.change-item.result c.loop-change.world c.loop-change.log c.send_one.new.world c.send_one.new.log r) c.in-Err.is c.in_ok-answer.ensures.ok)

pub loop-change-preserved : goal.loop-change-preserved
loop-change-preserved c =
    let cs = c.args.changes.now in
    let i = c.loop-change.change-index in
    let within : i < length cs = omega arith in
    sends_more c.args.ds.now cs c.args.world.now c.args.log.now.items c.loop-change.world c.loop-change.log.items c.loop-change.answers.items c.change-item.result (drop i cs) (drop (i + 1) cs)
    (drop_more cs i c.change-item.result within ∙ ap (λ x. x ∷ drop (i + 1) cs) (sym c.change-item.is)) c.loop-change.invariant c.send_one.new.world c.send_one.new.log.items c.in-Ok.answer c.push.new.self.items c.in_ok-push-in-Ok.ensures.items
    (subst (λ r. IsOneOutcome c.args.ds.now c.change-item.result c.loop-change.world c.loop-change.log c.send_one.new.world c.send_one.new.log r) c.in-Ok.is c.in_ok-answer.ensures.ok)
