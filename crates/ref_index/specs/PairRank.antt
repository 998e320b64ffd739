-- The order of pairs is total, and only equal pairs tie.
use Rattle.std.proofs.Common.{◌≡◌, ◌&&◌, refl, sym, ◌∙◌}
use Rattle.std.specs.Ordering.{ordering_then, is_eq}
use Rattle.std.specs.Cmp.{IsTotalOrder, then_total, on_total}
use Rattle.std.specs.FinMap.{IsAntisymmetric}
use Rattle.std.specs.declared.cmp.Ordering.{Ordering}
use Rattle.std.specs.declared.cmp.Ordering.TheVariants.{Less, Equal, Greater}
use Rattle.osm_base.specs.Rank.{rank_cmp}
use Rattle.osm_base.specs.RankLaws.{rank_total, rank_exact, rank_ties, both_equal}
use Rattle.ref_index.specs.declared.pair.Pair.{Pair}
use Rattle.ref_index.specs.Bag.{pair_cmp, pair_eq}

pub pair_total : IsTotalOrder pair_cmp
pair_total = then_total (on_total (λ p. p.of) rank_total) (on_total (λ p. p.user) rank_total)

pub pair_exact : IsAntisymmetric pair_cmp
pair_exact p q h =
    let e = both_equal (rank_cmp p.of q.of) (rank_cmp p.user q.user) h in
    λ i. record { of = rank_exact p.of q.of e.0 i; user = rank_exact p.user q.user e.1 i }

pub eq_then : (a b : Ordering) → is_eq (ordering_then a b) ≡ (is_eq a && is_eq b)
eq_then Less b = refl
eq_then Equal b = refl
eq_then Greater b = refl

pub pair_ties : (p q : Pair) → pair_eq p q ≡ is_eq (pair_cmp p q)
pair_ties p q = (λ i. rank_ties p.of q.of i && rank_ties p.user q.user i) ∙ sym (eq_then (rank_cmp p.of q.of) (rank_cmp p.user q.user))
