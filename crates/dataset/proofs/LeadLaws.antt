-- A data set led by a patch: the index stays exact, and the table is the patch's.
use Rattle.std.proofs.Common.{◌≡◌, ℕ, ◌+◌, ◌≤◌, not, Bool, true, false, List, sym, ◌∙◌, ap, subst}
use Rattle.std.specs.Prelude.{T}
use Rattle.osm_table.specs.Table.{TableValue}
use Rattle.ref_index.specs.declared.pair.Pair.{Pair}
use Rattle.ref_index.specs.Bag.{times}
use Rattle.dataset.specs.Edit.{Edit}
use Rattle.dataset.specs.Patch.{PatchValue, in_order, after_of, before_of}
use Rattle.dataset.specs.Exact.{IsExact, pairs_by}
use Rattle.dataset.specs.Sides.{side, led}
use Rattle.dataset.proofs.Exactness.{gone_there, stays_exact, kept_refs}
use Rattle.dataset.proofs.SideLaws.{Stands, stands_found}

-- what goes is there
pub lead_gone : (t : TableValue) (number : Pair → ℕ) (forth : Bool) (es : List Edit) → T (in_order es) → Stands (side (not forth)) es t → IsExact t number → (p : Pair) → times p (pairs_by (side (not forth)) es) ≤ number p
lead_gone t number forth es h a exact p = gone_there (side (not forth)) es t number h (stands_found (side (not forth)) es t a) exact p

pub lead_exact : (t u : TableValue) (old new : Pair → ℕ) (forth : Bool) (es : List Edit) → T (in_order es) → Stands (side (not forth)) es t
    → u ≡ led (side forth) es t → IsExact t old → ((p : Pair) → times p (pairs_by (side (not forth)) es) + new p ≡ times p (pairs_by (side forth) es) + old p) → IsExact u new
lead_exact t u old new forth es h a is exact changed =
    stays_exact (side (not forth)) (side forth) es t u old new h (kept_refs forth) (stands_found (side (not forth)) es t a) (ap (λ (x : TableValue). x.entries) is) exact changed

pub exact_as_it_was : (t u : TableValue) (old new : Pair → ℕ) → u ≡ t → ((p : Pair) → new p ≡ old p) → IsExact t old → IsExact u new
exact_as_it_was t u old new et same h of user = same (record { of = of; user = user }) ∙ subst (λ (v : TableValue). IsExact v old) (sym et) h of user

-- the table of the exit, by the code's equations
pub applied : (p : PatchValue) (after : ℕ) (t t₀ new : TableValue) → after ≡ p.next_after → t ≡ t₀ → new ≡ record { entries = (led (side true) p.edits t).entries; next = after } → new ≡ after_of p t₀
applied p after t t₀ new ea et en = en ∙ (λ i. record { entries = (led (side true) p.edits (et i)).entries; next = ea i })

pub reverted : (p : PatchValue) (before : ℕ) (t t₀ new : TableValue) → before ≡ p.next_before → t ≡ t₀ → new ≡ record { entries = (led (side false) p.edits t).entries; next = before } → new ≡ before_of p t₀
reverted p before t t₀ new eb et en = en ∙ (λ i. record { entries = (led (side false) p.edits (et i)).entries; next = eb i })
