use Rattle.std.proofs.Common.{◌≡◌, Option, None, Some, arith, refl, subst}
use Rattle.std.proofs.lemmas.Result.{err_from_is_err_and}
use Rattle.dataset.specs.Sound.{IsSound}
use Rattle.many_editors.specs.Shown.{shown_meeting}
use Rattle.edit_steps.specs.Given.{Finds, given_by}
use Rattle.edit_steps.proofs.Steps.{nothing_yet}
use Rattle.edit_session.specs.Meet.{found_by, meet_text, meet_turn, own}
use Rattle.edit_session.proofs.Meets.{seat_at}
use Rattle.edit_session.proofs.Seats.{own_fact, seated}
use Rattle.edit_session.proofs.meeting.run_next.Goals as goal

-- what a read would have given, and what comes of it
would_find : {F G X : Type 0} (o : Option F) (there : F → G) (other : G) (comes : G → X) → (found : X) × Finds o there found comes
would_find None there other comes = (comes other, record { given = other; is = refl; by_files = tt })
would_find (Some files) there other comes = (comes (there files), record { given = there files; is = refl; by_files = refl })

pub ds-requires : goal.ds-requires
ds-requires g c = let s = c.requires.asked.sits in omega (arith, s.there, s.four)

pub find_for-requires : goal.find_for-requires
find_for-requires g c = let s = c.requires.asked.sits in omega (arith, s.there, s.four)

pub returns-in_err-found-clause-table : goal.returns-in_err-found-clause-table
returns-in_err-found-clause-table g c =
    let m = (shown_meeting (λ b. (goal.Tool-dyn g (b.vtable, b.value)).done b.value) (λ b. (goal.Tool-dyn g (b.vtable, b.value)).undone b.value) c.args.meeting.now) in
    subst IsSound (own_fact (λ e. c.ds.result.now ≡ e.state.now) (seat_at c.args.editor m) (seated c.args.editor m (record { there = c.requires.asked.sits.there; four = c.requires.asked.sits.four })) c.ds.ensures) c.sound.ensures

pub returns-in_err-found-clause-runs : goal.returns-in_err-found-clause-runs
returns-in_err-found-clause-runs g c =
    let p = err_from_is_err_and c.from_residual.result c.from_residual.ensures.1 in
    let seat = seat_at c.args.editor (shown_meeting (λ b. (goal.Tool-dyn g (b.vtable, b.value)).done b.value) (λ b. (goal.Tool-dyn g (b.vtable, b.value)).undone b.value) c.args.meeting.now) in
    let would = would_find (g.S.Shelf.told c.args.shelf.now) (λ files. given_by files c.args.step.now.act) None (λ given. found_by c.args.limits given (own seat) c.args.step.now.act) in
    rw p.1 (record {
      found = would.0;
      finds = would.1;
      plays = record { valid = tt; verbs = tt; seat = tt; ok = tt; err = nothing_yet (g.K.Sink.taken c.args.out.now) (meet_text c.args.step.now.line (meet_turn c.args.limits would.0 c.args.step.now.act seat)) };
    })

pub returns-clause-table : goal.returns-clause-table
returns-clause-table g c =
    let m = (shown_meeting (λ b. (goal.Tool-dyn g (b.vtable, b.value)).done b.value) (λ b. (goal.Tool-dyn g (b.vtable, b.value)).undone b.value) c.args.meeting.now) in
    subst IsSound (own_fact (λ e. c.ds.result.now ≡ e.state.now) (seat_at c.args.editor m) (seated c.args.editor m (record { there = c.requires.asked.sits.there; four = c.requires.asked.sits.four })) c.ds.ensures) c.sound.ensures

pub returns-clause-runs : goal.returns-clause-runs
returns-clause-runs g c = record { found = c.in_ok-found.found; finds = c.in_ok-found.ensures.found; plays = c.run_met_step.ensures.plays }

pub returns-clause-cause : goal.returns-clause-cause
returns-clause-cause g c =
    let read = c.in_ok-found.ensures.cause in
    let written = c.run_met_step.ensures.cause in
    record {
      read_later = read.later;
      write_later = written.later;
      read = λ is. absurd (written.apart is);
      write = written.failed;
      read_quiet = λ other. read.quiet (λ is. cc);
      write_quiet = written.quiet;
    }
