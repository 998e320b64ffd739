use Rattle.std.proofs.Common.{◌≡◌, ◌||◌, IfOk, List, subst}
use Rattle.std.specs.List.{filter}
use Rattle.closure.specs.Closure.{has}
use Rattle.osm_base.specs.Rank.{is_key}
use Rattle.osm_base.specs.declared.key.Key.{Key}
use Rattle.map_search.proofs.sets.those_of.Goals as goal

pub returns : goal.returns
returns c =
    let P : List Key → List Key → Type 0 = λ ls rs. IfOk c.inside.result (λ both. both.items ≡ filter (λ k. has is_key ls k || has is_key rs k) c.args.keys.now) in
    subst (λ (ls : List Key). P ls c.args.right.now) c.in_ok-left.ensures (subst (λ (rs : List Key). P c.in_ok-left.left rs) c.in_ok-right.ensures c.inside.ensures)
