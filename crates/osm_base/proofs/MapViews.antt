-- The entries of a hashed map, and the finite map that they make. Each lemma holds for any order `R` of keys that is
-- total and exact, and for the `==` of keys that answers as that order does.
use Rattle.std.proofs.Common.{◌≡◌, ◌+◌, Bool, false, cond, List, [], ◌∷◌, length, Option, Some, None, refl, sym, ◌∙◌, ap, arith}
use Rattle.std.specs.Map.{lookup, keys_of}
use Rattle.std.specs.List.{IsDistinct, AllByRecursion}
use Rattle.std.specs.Ordering.{eq_by_cmp, is_eq}
use Rattle.std.specs.declared.cmp.Ordering.{Ordering}
use Rattle.std.specs.FinMap as map
use Rattle.std.specs.Cmp.{IsTotalOrder, eq_by_cmp_equiv}

module _ {K V : Type 0} {R : K → K → Ordering} {E : K → K → Bool} (total : IsTotalOrder R) (exact : map.IsAntisymmetric R) (ties : (x y : K) → E x y ≡ is_eq (R x y)) where
  find_lookup : (es : List (K × V)) (q : K) → lookup (E q) es ≡ map.find R q es
  find_lookup [] q = refl
  find_lookup (e ∷ es) q = ap (λ b. cond b (Some e.1) (lookup (E q) es)) (ties q e.0) ∙ ap (cond (eq_by_cmp R q e.0) (Some e.1)) (find_lookup es q)

  -- a look-up in the entries is one in the map that they make
  pub get_view : (es : List (K × V)) (q : K) → lookup (E q) es ≡ map.get (map.from_entries {R = R} es) q
  get_view es q = find_lookup es q ∙ sym (map.get-from_entries total es q)

  -- entries that differ at one key make maps that differ there
  pub updated : (es fs : List (K × V)) (k : K) (v : Option V) → ((q : K) → lookup (E q) fs ≡ cond (E k q) v (lookup (E q) es)) → (q : K) → map.get (map.from_entries {R = R} fs) q ≡ cond (eq_by_cmp R q k) v (map.get (map.from_entries {R = R} es) q)
  updated es fs k v h q =
      sym (get_view fs q) ∙ h q ∙ ap (λ o. cond (E k q) v o) (get_view es q)
      ∙ ap (λ b. cond b v (map.get (map.from_entries {R = R} es) q)) (ties k q ∙ (eq_by_cmp_equiv total).symm k q)

  -- entries with one more, or with another value at one key
  pub inserted : (es fs : List (K × V)) (k : K) (v : V) → ((q : K) → lookup (E q) fs ≡ cond (E k q) (Some v) (lookup (E q) es)) → map.from_entries {R = R} fs ≡ map.insert (map.from_entries es) k v
  inserted es fs k v h = map.same_map total exact _ _ (λ q. updated es fs k (Some v) h q ∙ sym (map.get-insert total (map.from_entries es) k v q))

  -- entries with one fewer
  pub removed : (es fs : List (K × V)) (k : K) → ((q : K) → lookup (E q) fs ≡ cond (E k q) None (lookup (E q) es)) → map.from_entries {R = R} fs ≡ map.remove (map.from_entries es) k
  removed es fs k h = map.same_map total exact _ _ (λ q. updated es fs k None h q ∙ sym (map.get-remove total (map.from_entries es) k q))

  no_entry : (k : K) (es : List (K × V)) → AllByRecursion (λ y. E k y ≡ false) (keys_of es) → lookup (E k) es ≡ None
  no_entry k [] h = refl
  no_entry k (e ∷ es) h = rw h.0 (no_entry k es h.1)

  -- entries under distinct keys make a map of their number
  pub distinct_len : (es : List (K × V)) → IsDistinct E (keys_of es) → length es ≡ map.len (map.from_entries {R = R} es)
  unfolding IsDistinct
  distinct_len [] h = sym (map.len-empty R V)
  distinct_len (e ∷ es) h =
      let none : map.get (map.from_entries {R = R} es) e.0 ≡ None = sym (get_view es e.0) ∙ no_entry e.0 es h.0 in
      let rest = distinct_len es h.1 in
      let more : map.len (map.from_entries {R = R} (e ∷ es)) ≡ map.len (map.from_entries {R = R} es) + 1 =
      map.len-insert total (map.from_entries es) e.0 e.1 ∙ rw none refl in
      omega arith
