use Rattle.std.proofs.Common.{◌≡◌, ◌+◌, ◌∙◌, Bool, true, false, not, cond, ap, refl}
use Rattle.ref_index.specs.Bag.{is_pair}
use Rattle.std.proofs.lemmas.Result.{err_from_is_err_and}
use Rattle.ref_index.specs.Users.{is_listed}
use Rattle.ref_index.proofs.Agreement.{first_repeats, first_times, again_repeats, again_times, kept_listed, same_times}
use Rattle.ref_index.proofs.index.add.Goals as goal

old_user : (there first : Bool) → first ≡ not there → first ≡ false → there ≡ true
old_user true first e f = refl
old_user false first e f = cc

new_user : (there first : Bool) → first ≡ not there → first ≡ true → there ≡ false
new_user true first e f = cc
new_user false first e f = refl

pub returns-in_err-count_again-clause-err : goal.returns-in_err-count_again-clause-err
returns-in_err-count_again-clause-err c =
    let p = err_from_is_err_and c.from_residual-in_err-count_again.result c.from_residual-in_err-count_again.ensures.1 in
    let there = old_user (is_listed c.args.lists.now.entries c.args.pair) c.in_ok-first.first c.in_ok-first.ensures.first c.if-not-first.true in
    let kept = kept_listed c.args.lists.now.entries c.list_user.new.lists.entries c.args.pair there c.in_ok-first.ensures.ok in
    rw p.1 (same_times c.args.repeats.now.entries c.count_again.new.repeats.entries c.args.lists.now.entries c.list_user.new.lists.entries c.in_err-count_again.ensures.err kept)

pub returns-in_ok-count_again-clause-repeats : goal.returns-in_ok-count_again-clause-repeats
returns-in_ok-count_again-clause-repeats c =
    let there = old_user (is_listed c.args.lists.now.entries c.args.pair) c.in_ok-first.first c.in_ok-first.ensures.first c.if-not-first.true in
    let a = first_repeats c.args.repeats.now.entries c.args.lists.now.entries c.list_user.new.lists.entries c.args.pair c.requires.repeats c.in_ok-first.ensures.ok in
    again_repeats c.args.repeats.now.entries c.count_again.new.repeats.entries c.list_user.new.lists.entries c.args.pair a c.in_ok-count_again.ensures.ok
    (kept_listed c.args.lists.now.entries c.list_user.new.lists.entries c.args.pair there c.in_ok-first.ensures.ok c.args.pair ∙ there)

pub returns-in_ok-count_again-clause-ok : goal.returns-in_ok-count_again-clause-ok
returns-in_ok-count_again-clause-ok c =
    let there = old_user (is_listed c.args.lists.now.entries c.args.pair) c.in_ok-first.first c.in_ok-first.ensures.first c.if-not-first.true in
    let kept = kept_listed c.args.lists.now.entries c.list_user.new.lists.entries c.args.pair there c.in_ok-first.ensures.ok in
    λ q. again_times c.args.repeats.now.entries c.count_again.new.repeats.entries c.list_user.new.lists.entries c.args.pair c.in_ok-count_again.ensures.ok (kept c.args.pair ∙ there) q
    ∙ ap (λ n. cond (is_pair q c.args.pair) 1 0 + n) (same_times c.args.repeats.now.entries c.args.repeats.now.entries c.args.lists.now.entries c.list_user.new.lists.entries (λ p. refl) kept q)

pub returns-else-not-first-clause-repeats : goal.returns-else-not-first-clause-repeats
returns-else-not-first-clause-repeats c = first_repeats c.args.repeats.now.entries c.args.lists.now.entries c.list_user.new.lists.entries c.args.pair c.requires.repeats c.in_ok-first.ensures.ok

pub returns-else-not-first-clause-ok : goal.returns-else-not-first-clause-ok
returns-else-not-first-clause-ok c =
    let none = new_user (is_listed c.args.lists.now.entries c.args.pair) c.in_ok-first.first c.in_ok-first.ensures.first c.if-not-first.false in
    first_times c.args.repeats.now.entries c.args.lists.now.entries c.list_user.new.lists.entries c.args.pair c.requires.repeats none c.in_ok-first.ensures.ok
