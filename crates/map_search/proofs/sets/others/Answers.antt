use Rattle.std.proofs.Common.{◌≡◌, not, IfOk, List, subst}
use Rattle.std.specs.List.{filter}
use Rattle.closure.specs.Closure.{has}
use Rattle.osm_base.specs.Rank.{is_key}
use Rattle.osm_base.specs.declared.key.Key.{Key}
use Rattle.map_search.proofs.sets.others.Goals as goal

pub returns : goal.returns
returns c = subst (λ (ks : List Key). IfOk c.outside.result (λ rest. rest.items ≡ filter (λ k. not (has is_key ks k)) c.args.keys.now)) c.in_ok-found.ensures c.outside.ensures
