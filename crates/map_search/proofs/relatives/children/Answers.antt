use Rattle.std.proofs.Common.{◌≡◌, Bool, IfOk, List, subst, ap, ◌∙◌}
use Rattle.std.specs.List.{filter}
use Rattle.dataset.specs.Exact.{refs_at}
use Rattle.osm_base.specs.RisingKeys.{is_in}
use Rattle.osm_base.specs.declared.key.Key.{Key}
use Rattle.osm_table.specs.Table.{entry_of}
use Rattle.map_search.proofs.Found.{in_each}
use Rattle.map_search.proofs.relatives.children.Goals as goal

pub returns : goal.returns
returns c =
    let of = λ (k : Key). refs_at (entry_of c.args.ds.now k) in
    let all = c.in_ok-set.ensures ∙ c.in_ok-refs.ensures in
    let P : (Key → Bool) → Type 0 = λ p. IfOk c.those_among.result (λ met. met.items ≡ filter p c.args.keys.now) in
    subst P (λ i k. (ap (λ (ks : List Key). is_in k ks) all ∙ in_each of k c.args.found.now) i) c.those_among.ensures
