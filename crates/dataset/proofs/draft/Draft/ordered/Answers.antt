use Rattle.dataset.specs.Draft.{DraftValue}
use Rattle.std.proofs.Common.{ap, ◌∙◌, subst, List}
use Rattle.std.specs.List.Sorted.{IsPermutation}
use Rattle.osm_base.specs.declared.key.Key.{Key}
use Rattle.std.specs.FinMap as map
use Rattle.osm_base.proofs.ByRank.{by_rank}
use Rattle.dataset.proofs.Results.{and_ok}
use Rattle.dataset.proofs.draft.Draft.ordered.Goals as goal

pub returns : goal.returns
returns c =
    and_ok _ c.sort.result c.sort.new.self c.and.result c.and.ensures
    (λ sorted.
    by_rank c.self.inside.puts.entries c.sort.new.self.items sorted
    (subst (λ (ks : List Key). IsPermutation ks c.sort.new.self.items) c.in_ok-keys.ensures.listed c.sort.ensures.permutation)
    c.in_ok-keys.ensures.unique
    ∙ ap (λ (d : DraftValue). map.keys d.puts) c.self.view_is)
    c.sort.ensures.sorted
