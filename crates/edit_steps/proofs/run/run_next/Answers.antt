use Rattle.std.proofs.Common.{None, refl, subst}
use Rattle.std.proofs.lemmas.Result.{err_from_is_err_and}
use Rattle.dataset.specs.Sound.{IsSound}
use Rattle.edit_history.specs.Shown.{shown}
use Rattle.edit_steps.specs.Given.{given_by}
use Rattle.edit_steps.specs.Load.{found_in}
use Rattle.edit_steps.specs.Turn.{turn, turn_text}
use Rattle.edit_steps.proofs.Gives.{finds_in, would_find}
use Rattle.edit_steps.proofs.Steps.{nothing_yet}
use Rattle.edit_steps.proofs.run.run_next.Goals as goal

pub returns-in_err-found-clause-runs : goal.returns-in_err-found-clause-runs
returns-in_err-found-clause-runs g c =
    let p = err_from_is_err_and c.from_residual.result c.from_residual.ensures.1 in
    let s = shown (λ b. (goal.Tool-dyn g (b.vtable, b.value)).done b.value) (λ b. (goal.Tool-dyn g (b.vtable, b.value)).undone b.value) c.args.history.now in
    let would = would_find (g.S.Shelf.told c.args.shelf.now) (λ files. given_by files c.args.step.now.act) None (λ given. found_in c.args.limits given s.group c.args.step.now.act) in
    rw p.1 (record {
      table = subst IsSound c.ds.ensures c.sound.ensures;
      found = would.0;
      finds = would.1;
      plays = record { valid = c.requires.valid; verbs = refl; state = tt; ok = tt; err = nothing_yet (g.K.Sink.taken c.args.out.now) (turn_text c.args.step.now.line (turn c.args.limits would.0 c.args.step.now.act s)) };
    })

pub returns-clause-runs : goal.returns-clause-runs
returns-clause-runs g c = record {
  table = subst IsSound c.ds.ensures c.sound.ensures;
  found = c.in_ok-found.found;
  finds = finds_in _ c.args.limits _ c.args.step.now.act c.in_ok-found.found (rw c.group.ensures at c.in_ok-found.ensures.found);
  plays = c.run_step-ran.ensures.plays;
}

pub returns-clause-cause : goal.returns-clause-cause
returns-clause-cause g c =
    let read = c.in_ok-found.ensures.cause in
    let written = c.run_step-ran.ensures.cause in
    record {
      read_later = read.later;
      write_later = written.later;
      read = λ is. absurd (written.apart is);
      write = written.failed;
      read_quiet = λ other. read.quiet (λ is. cc);
      write_quiet = written.quiet;
    }
