use Rattle.std.proofs.Common.{◌≡◌, IfOk, List, subst}
use Rattle.std.specs.List.{filter, list_any}
use Rattle.closure.specs.Closure.{has}
use Rattle.dataset.specs.Exact.{refs_at}
use Rattle.osm_base.specs.Rank.{is_key}
use Rattle.osm_base.specs.declared.key.Key.{Key}
use Rattle.osm_table.specs.Table.{entry_of}
use Rattle.map_search.proofs.relatives.parents.Goals as goal

pub returns : goal.returns
returns c =
    subst (λ (ks : List Key). IfOk c.users_of.result (λ met. met.items ≡ filter (λ k. list_any (has is_key ks) (refs_at (entry_of c.args.ds.now k))) c.args.keys.now)) c.in_ok-found.ensures c.users_of.ensures
