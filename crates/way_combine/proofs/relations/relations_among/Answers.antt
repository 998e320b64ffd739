use Rattle.std.proofs.Common.{◌≡◌, List, ap, ◌∙◌, subst, IfOk}
use Rattle.osm_base.specs.declared.key.Key.{Key}
use Rattle.osm_base.specs.Order.{ranked}
use Rattle.way_combine.proofs.Among.{among_users}
use Rattle.way_combine.proofs.relations.relations_among.Goals as goal

pub returns : goal.returns
returns c = subst (λ (ks : List Key). IfOk c.ranked.result (λ keys. keys.items ≡ ks)) (ap ranked c.in_ok-all_users.ensures ∙ among_users c.args.ds.now c.args.ways.now c.requires) c.ranked.ensures
