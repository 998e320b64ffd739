use Rattle.std.proofs.Common.{◌∙◌, ap, sym, subst, arith, rules, drop, ◌+◌}
use Rattle.std.proofs.lemmas.Result.{err_from_is_err_and}
use Rattle.edit_steps.proofs.Ran.{steps_end, steps_fail, steps_go_on, steps_start}
use Rattle.edit_steps.proofs.Steps.{orderly_first, orderly_on, orderly_at, there_at, NoneMissing}
use Rattle.edit_steps.proofs.run.run_steps.Goals as goal

pub loop-step-init : goal.loop-step-init
loop-step-init g c = record {
  told = search rules;
  read_quiet = search rules;
  write_quiet = search rules;
  valid = c.requires.fits.valid;
  orderly = orderly_first c.args.steps.now _ c.requires.fits.asked.first c.requires.orderly;
  there = record { editor = 1; some = omega arith; none = c.requires.fits.asked.there };
  lines = λ told. told;
  goes = steps_start c.args.limits _ _ _ c.args.steps.now _ c.requires.fits.asked.first;
}

pub run_next-requires : goal.run_next-requires
run_next-requires g c =
    let before = c.loop-step.invariant in
    let here = orderly_at _ c.loop-step.step-index c.args.steps.now c.step-item.result (omega arith) c.step-item.is before.orderly in
    record {
      valid = before.valid;
      asked = record {
        meant = here.0;
        stands = here.1;
        there = (there_at _ c.loop-step.step-index c.args.steps.now c.step-item.result (omega arith) c.step-item.is here.0 before.there).0;
      };
    }

pub loop-step-preserved : goal.loop-step-preserved
loop-step-preserved g c =
    let next = c.in_ok-run_next.ensures in
    let runs = next.runs in
    let before = c.loop-step.invariant in
    let here = orderly_at _ c.loop-step.step-index c.args.steps.now c.step-item.result (omega arith) c.step-item.is before.orderly in
    let tools = there_at _ c.loop-step.step-index c.args.steps.now c.step-item.result (omega arith) c.step-item.is here.0 before.there in
    record {
      told = next.told ∙ before.told;
      read_quiet = next.cause.read_quiet (λ e. cc) ∙ before.read_quiet;
      write_quiet = next.cause.write_quiet (λ e. cc) ∙ before.write_quiet;
      lines = λ told. next.lines.lines (λ e. cc) (before.lines told);
      valid = runs.plays.valid;
      orderly = orderly_on c.args.limits runs.found c.step-item.result.act _ _ (drop (c.loop-step.step-index + 1) c.args.steps.now) here.1 runs.plays.state here.2;
      there = subst (λ verbs. NoneMissing verbs (drop (c.loop-step.step-index + 1) c.args.steps.now)) (sym runs.plays.verbs) tools.1;
      goes = steps_go_on c.args.limits _ _ _ _ _ c.loop-step.step-index c.args.steps.now _ before.goes c.step-item.result runs.found (omega arith) c.step-item.is runs.table (rw before.told at runs.finds) _ _ _ runs.plays.ok next.noted runs.plays.state;
    }

pub returns-in_err-run_next-clause-ran : goal.returns-in_err-run_next-clause-ran
returns-in_err-run_next-clause-ran g c =
    let before = c.loop-step.invariant in
    let runs = c.in_err-run_next.ensures.runs in
    let p = err_from_is_err_and c.from_residual.result c.from_residual.ensures.1 in
    rw p.1 (steps_fail c.args.limits _ _ _ _ _ c.loop-step.step-index c.args.steps.now _ before.goes c.step-item.result runs.found (omega arith) c.step-item.is runs.table (rw before.told at runs.finds) p.0 _ _ (λ is. ap g.K.Sink.taken (c.in_err-run_next.ensures.unwritten (search rules))) runs.plays.err c.in_err-run_next.ensures.noted)

pub returns-clause-ran : goal.returns-clause-ran
returns-clause-ran g c = steps_end c.args.limits _ _ _ _ _ c.loop-step.step-index c.args.steps.now _ c.loop-step.invariant.goes _ (omega arith)

pub returns-in_err-run_next-clause-lines : goal.returns-in_err-run_next-clause-lines
returns-in_err-run_next-clause-lines g c =
    let p = err_from_is_err_and c.from_residual.result c.from_residual.ensures.1 in
    rw p.1 (record { lines = λ quiet told. c.in_err-run_next.ensures.lines.lines (λ is. quiet (search rules)) (c.loop-step.invariant.lines told) })

pub returns-clause-lines : goal.returns-clause-lines
returns-clause-lines g c = record { lines = λ quiet. c.loop-step.invariant.lines }
