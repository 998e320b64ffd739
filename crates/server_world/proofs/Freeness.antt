-- The search for a free id.
use Rattle.std.proofs.Common.{◌≡◌, ◌<◌, ◌≤◌, ℕ, zero, suc, ◌+◌, ◌-◌, pos, Bool, true, false, cond, ◌||◌, Option, Some, None, is_some, refl, sym, ◌∙◌, ap, arith, inl, inr}
use Rattle.std.specs.Prelude.{◌⊎◌}
use Rattle.std.specs.Option.{option_map}
use Rattle.std.proofs.Math.Nat.{eq-or-lt_of_le}
use Rattle.osm_base.specs.declared.key.Kind.{Kind}
use Rattle.osm_table.specs.Table.{TableValue}
use Rattle.upload_order.specs.World.{World}
use Rattle.server_world.specs.Free.{is_taken, first_free, last_id, free_id, IsStart}

-- it ends at a number that isn't taken, or behind the last, where all before it are taken
found : (taken : ℕ → Bool) (more n id : ℕ) → ((m : ℕ) → n ≤ m → m < id → taken m ≡ true) → n ≤ id → id ≤ n + more → (id ≡ n + more) ⊎ (taken id ≡ false) → first_free taken more n ≡ id
found taken zero n id below least most end = omega (arith, least, most)
found taken (suc more) n id below least most end =
    let later : (id ≡ n + 1 + more) ⊎ (taken id ≡ false) = elim end [ inl at ↦ inl (omega (arith, at)) | inr free ↦ inr free ] in
    elim (eq-or-lt_of_le least) [
      | inl same ↦ elim end [
        | inl at ↦ absurd (omega (arith, same, at))
        | inr free ↦ ap (λ b. cond b (first_free taken more (n + 1)) n) (ap taken same ∙ free) ∙ same
      ]
      | inr less ↦ ap (λ b. cond b (first_free taken more (n + 1)) n) (below n (omega arith) less) ∙ found taken more (n + 1) id (λ m l g. below m (omega (arith, l)) g) (omega (arith, less)) (omega (arith, most)) later
    ]

-- a start that isn't taken, or is the greatest id, is the free one
pub free_found : (w : World) (t : TableValue) (kind : Kind) (id : ℕ) → IsStart w t kind id → (id ≡ last_id) ⊎ (is_taken w t kind id ≡ false) → pos id ≡ free_id w t kind
unfolding free_id
free_found w t kind id start end =
    let most : id ≤ 1 + (last_id - 1) = omega (arith, start.most) in
    let ends : (id ≡ 1 + (last_id - 1)) ⊎ (is_taken w t kind id ≡ false) = elim end [ inl at ↦ inl (omega (arith, at)) | inr free ↦ inr free ] in
    ap pos (sym (found (is_taken w t kind) (last_id - 1) 1 id start.below start.least most ends))

-- a start that is taken can be passed
pub start_on : (w : World) (t : TableValue) (kind : Kind) (id : ℕ) → IsStart w t kind id → id < last_id → is_taken w t kind id ≡ true → IsStart w t kind (id + 1)
start_on w t kind id start less taken = record {
  least = omega (arith, start.least);
  most = omega (arith, less);
  below = λ n l g. passed n l (eq-or-lt_of_le (omega (arith, g)));
} where
  passed : (n : ℕ) → 1 ≤ n → (n ≡ id) ⊎ (n < id) → is_taken w t kind n ≡ true
  passed n l (inl same) = ap (is_taken w t kind) same ∙ taken
  passed n l (inr less) = start.below n l less

-- 1 is a start
pub first_start : (w : World) (t : TableValue) (kind : Kind) → IsStart w t kind 1
first_start w t kind = record { least = omega arith; most = omega arith; below = λ n l g. absurd (omega (arith, l, g)) }

-- of neither there is one
pub neither : {A B : Type 0} (a : Option A) (b : Option B) → (is_some a || is_some b) ≡ false → (a ≡ None) × (b ≡ None)
neither None None e = (refl, refl)
neither None (Some y) e = cc
neither (Some x) b e = cc

-- what is found of an entry is found where there is one
pub found_there : {A B : Type 0} (f : A → B) (o : Option A) (p : Option B) → option_map f o ≡ p → is_some o ≡ true → is_some p ≡ true
found_there f None p e h = cc
found_there f (Some x) p e h = ap is_some (sym e)
