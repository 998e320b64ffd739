use Rattle.std.proofs.Common.{◌≡◌, ◌-◌, arith}
use Rattle.std.specs.Prelude.{Some, None}
use Rattle.ref_index.specs.Repeats.{number_of}
use Rattle.ref_index.proofs.Agreement.{last_repeats, last_times, sets_repeats, less_times, listed}
use Rattle.ref_index.proofs.index.take.Goals as goal

pub returns-then-number-eq1-clause-repeats : goal.returns-then-number-eq1-clause-repeats
returns-then-number-eq1-clause-repeats c =
    let one : number_of c.args.repeats.now.entries c.args.pair ≡ 1 = grind (arith, c.number_of-number.ensures, c.if-number-eq1.true) in
    last_repeats c.args.repeats.now.entries c.args.lists.now.entries c.unlist_user.new.lists.entries c.args.pair c.requires.repeats one c.unlist_user.ensures

pub returns-then-number-eq1-clause-count : goal.returns-then-number-eq1-clause-count
returns-then-number-eq1-clause-count c =
    let one : number_of c.args.repeats.now.entries c.args.pair ≡ 1 = grind (arith, c.number_of-number.ensures, c.if-number-eq1.true) in
    last_times c.args.repeats.now.entries c.args.lists.now.entries c.unlist_user.new.lists.entries c.args.pair one (listed c.args.repeats.now.entries c.args.lists.now.entries c.args.pair c.requires.there) c.unlist_user.ensures

pub returns-then-number-eq2-clause-repeats : goal.returns-then-number-eq2-clause-repeats
returns-then-number-eq2-clause-repeats c = sets_repeats c.args.repeats.now.entries c.remove.new.self.entries c.args.lists.now.entries c.args.pair None c.requires.repeats c.remove.ensures.updates.0 tt

pub returns-then-number-eq2-clause-count : goal.returns-then-number-eq2-clause-count
returns-then-number-eq2-clause-count c =
    let two : 2 ≡ number_of c.args.repeats.now.entries c.args.pair = grind (arith, c.number_of-number.ensures, c.if-number-eq2.true) in
    less_times c.args.repeats.now.entries c.remove.new.self.entries c.args.lists.now.entries c.args.pair None c.remove.ensures.updates.0 two (listed c.args.repeats.now.entries c.args.lists.now.entries c.args.pair c.requires.there)

pub returns-else-number-eq2-clause-count : goal.returns-else-number-eq2-clause-count
returns-else-number-eq2-clause-count c =
    let there = listed c.args.repeats.now.entries c.args.lists.now.entries c.args.pair c.requires.there in
    less_times c.args.repeats.now.entries c.set_number.new.repeats.entries c.args.lists.now.entries c.args.pair (Some (c.number_of-number.result - 1)) c.set_number.ensures
    (grind (arith, c.number_of-number.ensures)) there
