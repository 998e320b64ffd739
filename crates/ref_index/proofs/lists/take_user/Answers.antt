use Rattle.std.proofs.Common.{rules, ◌≡◌, ◌∙◌, ap}
use Rattle.osm_base.specs.RisingKeys.{without_key}
use Rattle.ref_index.specs.Users.{users_of}
use Rattle.ref_index.proofs.ListViews.{taken, not_there}
use Rattle.ref_index.proofs.lists.take_user.Goals as goal

pub returns-in-Some-clause-taken : goal.returns-in-Some-clause-taken
returns-in-Some-clause-taken c =
    let old : c.in-Some.users.now ≡ users_of c.args.lists.now.entries c.args.of = search rules in
    taken c.args.lists.now.entries _ (record { of = c.args.of; user = c.args.user }) c.take.new.self (c.take.ensures ∙ ap (without_key c.args.user) old) (λ q. search rules)

pub returns-in-None-clause-taken : goal.returns-in-None-clause-taken
returns-in-None-clause-taken c = not_there c.args.lists.now.entries _ (record { of = c.args.of; user = c.args.user }) (search rules) (search rules)
