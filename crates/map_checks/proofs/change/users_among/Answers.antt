use Rattle.std.proofs.Common.{◌≡◌, List, ap, ◌∙◌, subst, IfOk}
use Rattle.osm_base.specs.declared.key.Key.{Key}
use Rattle.osm_base.specs.Order.{ranked}
use Rattle.map_checks.proofs.Users.{users_ranked}
use Rattle.map_checks.proofs.change.users_among.Goals as goal

pub returns : goal.returns
returns c = subst (λ (ks : List Key). IfOk c.ranked.result (λ keys. keys.items ≡ ks)) (ap ranked c.in_ok-all_users.ensures ∙ users_ranked c.args.ds.now c.args.nodes.now) c.ranked.ensures
