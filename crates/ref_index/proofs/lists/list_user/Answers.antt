use Rattle.std.proofs.Common.{rules, ◌≡◌, ◌∙◌, ap}
use Rattle.std.specs.Prelude.{Some}
use Rattle.std.proofs.lemmas.Result.{err_from_is_err_and}
use Rattle.osm_base.specs.RisingKeys.{with_key}
use Rattle.ref_index.specs.Users.{users_of}
use Rattle.ref_index.proofs.ListViews.{put, same_users}
use Rattle.ref_index.proofs.lists.list_user.Goals as goal

pub returns-in_err-first-clause-err : goal.returns-in_err-first-clause-err
returns-in_err-first-clause-err c =
    let p = err_from_is_err_and c.from_residual-in_err-first.result c.from_residual-in_err-first.ensures.1 in
    let old : c.or_insert-users.result.now ≡ users_of c.args.lists.now.entries c.args.of = search rules in
    rw p.1 (same_users c.args.lists.now.entries _ c.args.of (Some c.put.new.self) (c.in_err-first.ensures.err ∙ old) (λ q. search (rules, (c.in_ok-lists.ensures.update.0 c.put.new.self).0 q)))

pub returns-clause-ok : goal.returns-clause-ok
returns-clause-ok c =
    let old : c.or_insert-users.result.now ≡ users_of c.args.lists.now.entries c.args.of = search rules in
    put c.args.lists.now.entries _ (record { of = c.args.of; user = c.args.user }) c.put.new.self (c.in_ok-first.ensures.ok ∙ ap (with_key c.args.user) old) (λ q. search (rules, (c.in_ok-lists.ensures.update.0 c.put.new.self).0 q))
