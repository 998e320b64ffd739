use Rattle.std.proofs.Common.{◌∙◌, List, sym, subst}
use Rattle.std.specs.List.{IsDistinct}
use Rattle.std.specs.List.Sorted.{IsPermutation}
use Rattle.std.specs.Prelude.{T}
use Rattle.osm_base.specs.KeyEq.{eq}
use Rattle.osm_base.specs.RisingKeys.{rises}
use Rattle.osm_base.specs.declared.key.Key.{Key}
use Rattle.osm_base.proofs.ByRank.{by_rank}
use Rattle.osm_table.proofs.InPlace.{in_place_distinct, kept_keys}
use Rattle.osm_table.proofs.Standing.{standing_keys}
use Rattle.osm_table.proofs.keyed_entries.KeyedEntries.ordered.Goals as goal

pub returns-then-rise : goal.returns-then-rise
returns-then-rise c =
    let keys = kept_keys c.self.inside.keys c.self.inside.entries c.self.invariant.1 c.self.view_is in
    let standing = c.deref-then-rise.ensures.value in
    c.standing.ensures
    ∙ standing_keys c.args.self.now c.deref-then-rise.result.now (standing ∙ keys)
    (subst (λ (ks : List Key). T (rises ks)) (c.deref.ensures.value ∙ sym standing) (c.rise.ensures c.if-rise.true))

pub returns : goal.returns
returns c =
    let keys = kept_keys c.self.inside.keys c.self.inside.entries c.self.invariant.1 c.self.view_is in
    let sorted = c.in_ok-listed_by_rank.field-0 in
    c.sorted.ensures
    ∙ by_rank c.args.self.now sorted c.in_ok-listed_by_rank.ensures.sorted
    (subst (λ (ks : List Key). IsPermutation ks sorted) (c.deref-2.ensures.value ∙ keys) c.in_ok-listed_by_rank.ensures.permutation)
    (subst (λ (ks : List Key). IsDistinct eq ks) keys (in_place_distinct c.self.inside.keys.items c.self.inside.places c.self.invariant.0))
