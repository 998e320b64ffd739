-- The rank order is a total order, and only equal keys tie.
use Rattle.std.proofs.Common.{◌≡◌, ℤ, pos, negsuc, refl, ap, subst, rules, Decides}
use Rattle.std.specs.Ordering.{nat_cmp, ordering_then, is_eq, int_eq}
use Rattle.std.specs.Cmp.{IsTotalOrder, then_total, on_total, nat_cmp_total, both_ways, signed_Decides, Equal-is}
use Rattle.std.specs.FinMap.{IsAntisymmetric, nat_cmp-IsAntisymmetric}
use Rattle.std.specs.declared.cmp.Ordering.{Ordering}
use Rattle.std.specs.declared.cmp.Ordering.TheVariants.{Less, Equal, Greater}
use Rattle.std.proofs.lemmas.Cmp.{tied_itself}
use Rattle.std.proofs.lemmas.Bool.{and_parts, and_from}
use denote.Enum.Bare.{sameb, same_true, true_same}
use Rattle.osm_base.specs.contracts.key.Kind.{the_type}
use Rattle.osm_base.specs.declared.key.Kind.{Kind}
use Rattle.osm_base.specs.declared.key.Kind.TheVariants.{Node, Way, Relation}
use Rattle.osm_base.specs.declared.key.Key.{Key}
use Rattle.osm_base.specs.Rank.{rank_cmp, kind_place, side, size}
use Rattle.osm_base.specs.KeyEq.{eq}

pub rank_total : IsTotalOrder rank_cmp
rank_total = then_total (on_total (λ k. kind_place k.kind) nat_cmp_total) (then_total (on_total (λ k. side k.id) nat_cmp_total) (on_total (λ k. size k.id) nat_cmp_total))

-- only one id has its side and its size
id_exact : (a b : ℤ) → side a ≡ side b → size a ≡ size b → a ≡ b
id_exact (pos m) (pos n) e f = ap pos f
id_exact (pos m) (negsuc n) e f = cc
id_exact (negsuc m) (pos n) e f = cc
id_exact (negsuc m) (negsuc n) e f = ap negsuc f

kind_exact : (a b : Kind) → kind_place a ≡ kind_place b → a ≡ b
kind_exact Node Node e = refl
kind_exact Node Way e = cc
kind_exact Node Relation e = cc
kind_exact Way Node e = cc
kind_exact Way Way e = refl
kind_exact Way Relation e = cc
kind_exact Relation Node e = cc
kind_exact Relation Way e = cc
kind_exact Relation Relation e = refl

-- a tie of two orders is a tie of each
pub both_equal : (p q : Ordering) → ordering_then p q ≡ Equal → (p ≡ Equal) × (q ≡ Equal)
both_equal Less q e = cc
both_equal Equal q e = (refl, e)
both_equal Greater q e = cc

pub same_key : (a b : Key) → a.kind ≡ b.kind → a.id ≡ b.id → a ≡ b
same_key a b e f i = record { kind = e i; id = f i }

-- keys that rank alike are one
pub rank_exact : IsAntisymmetric rank_cmp
rank_exact a b h =
    let e = both_equal (nat_cmp (kind_place a.kind) (kind_place b.kind)) _ h in
    let f = both_equal (nat_cmp (side a.id) (side b.id)) (nat_cmp (size a.id) (size b.id)) e.1 in
    same_key a b
    (kind_exact a.kind b.kind (nat_cmp-IsAntisymmetric _ _ e.0))
    (id_exact a.id b.id (nat_cmp-IsAntisymmetric _ _ f.0) (nat_cmp-IsAntisymmetric _ _ f.1))

-- `==` on keys decides equality
pub eq_decides : (x y : Key) → Decides (eq x y) (x ≡ y)
eq_decides x y = (
  λ e. let h = and_parts (sameb the_type x.kind y.kind) (int_eq x.id y.id) e in
      same_key x y (same_true the_type (search rules) _ _ h.0) ((signed_Decides x.id y.id).0 h.1),
  λ same. and_from _ _ (true_same the_type _ _ (λ i. (same i).kind)) ((signed_Decides x.id y.id).1 (λ i. (same i).id)),
)

-- `==` on keys answers as the rank order does
pub rank_ties : (x y : Key) → eq x y ≡ is_eq (rank_cmp x y)
rank_ties x y =
    both_ways _ _
    (λ e. ap is_eq (subst (λ (k : Key). rank_cmp x k ≡ Equal) ((eq_decides x y).0 e) (tied_itself rank_total x)))
    (λ e. (eq_decides x y).1 (rank_exact x y ((Equal-is (rank_cmp x y)).0 e)))
