-- Ids don't run out: the search for a free one ends within the ids, and at one that is free where memory has room for all that stands.
use Rattle.std.proofs.Common.{◌≡◌, ◌<◌, ◌≤◌, ℕ, zero, suc, ◌+◌, ◌-◌, pos, Bool, true, false, cond, ◌||◌, None, is_some, refl, sym, ◌∙◌, ap, subst, arith, inl, inr}
use Rattle.std.specs.Prelude.{◌⊎◌}
use Rattle.std.specs.FinMap as fin
use Rattle.std.proofs.Math.Nat.{eq-or-lt_of_le}
use Rattle.std.proofs.lemmas.Bool.{cases_Bool, lt-ltb}
use Rattle.osm_base.specs.Rank.{rank_cmp, is_key}
use Rattle.osm_base.specs.RankLaws.{rank_total}
use Rattle.osm_base.specs.declared.key.Kind.{Kind}
use Rattle.osm_base.specs.declared.key.Key.{Key}
use Rattle.osm_base.proofs.RisingKeys.{one_key}
use Rattle.osm_table.specs.Table.{TableValue, IsPositive, entry_of}
use Rattle.upload_order.specs.World.{World, stands}
use Rattle.server_world.specs.Free.{is_taken, first_free, last_id, most_objects, free_id, IsFreeId, FitsMemory}
use Rattle.server_world.specs.Starts.{key_at}
use Rattle.server_world.proofs.Freeness.{neither}

module _ (taken : ℕ → Bool) where
  -- the search ends at its start or behind
  from_start : (more n : ℕ) → n ≤ first_free taken more n
  from_start zero n = omega arith
  from_start (suc more) n = elim (cases_Bool (taken n)) [
    | inl t ↦ (let later = from_start more (n + 1) in subst (λ b. n ≤ cond b (first_free taken more (n + 1)) n) (sym t) (omega (arith, later)))
    | inr f ↦ subst (λ b. n ≤ cond b (first_free taken more (n + 1)) n) (sym f) (omega arith)
  ]

  -- and no further than it may go
  to_end : (more n : ℕ) → first_free taken more n ≤ n + more
  to_end zero n = omega arith
  to_end (suc more) n = elim (cases_Bool (taken n)) [
    | inl t ↦ (let later = to_end more (n + 1) in subst (λ b. cond b (first_free taken more (n + 1)) n ≤ n + suc more) (sym t) (omega (arith, later)))
    | inr f ↦ subst (λ b. cond b (first_free taken more (n + 1)) n ≤ n + suc more) (sym f) (omega arith)
  ]

  -- it ends at a number that isn't taken, or all are
  ends : (more n : ℕ) → (taken (first_free taken more n) ≡ false) ⊎ ((m : ℕ) → n ≤ m → m ≤ n + more → taken m ≡ true)
  ends zero n = elim (cases_Bool (taken n)) [
    | inl t ↦ inr (λ m l g. let same : n ≡ m = omega (arith, l, g) in ap taken (sym same) ∙ t)
    | inr f ↦ inl f
  ]
  ends (suc more) n = elim (cases_Bool (taken n)) [
    | inl t ↦ elim (ends more (n + 1)) [
      | inl free ↦ inl (ap (λ b. taken (cond b (first_free taken more (n + 1)) n)) t ∙ free)
      | inr all ↦ inr (λ m l g. elim (eq-or-lt_of_le l) [ inl same ↦ ap taken (sym same) ∙ t | inr less ↦ all m (omega (arith, less)) (omega (arith, g)) ])
    ]
    | inr f ↦ inl (ap (λ b. taken (cond b (first_free taken more (n + 1)) n)) f ∙ f)
  ]

-- a map with a key isn't empty
some_there : {V : Type 0} (m : fin.FinMap rank_cmp V) (k : Key) (n : ℕ) → fin.len m ≡ n → is_some (fin.get m k) ≡ true → 1 ≤ n
some_there {V = V} m k zero e has =
    let none : fin.get m k ≡ None = ap (λ (x : fin.FinMap rank_cmp V). fin.get x k) (fin.empty_of_len m e) ∙ fin.get-empty rank_cmp k in
    let never : false ≡ true = sym (ap is_some none) ∙ has in
    cc
some_there m k (suc n) e has = omega arith

-- a key taken out of a map: how many are left, and that the others stay
left_over : {V : Type 0} (m : fin.FinMap rank_cmp V) (k : Key) (b : Bool) → is_some (fin.get m k) ≡ b → fin.len (fin.remove m k) + cond b 1 0 ≡ fin.len m
left_over m k true e =
    let l : fin.len (fin.remove m k) ≡ fin.len m - 1 = fin.len-remove rank_total m k ∙ ap (λ b. cond b (fin.len m - 1) (fin.len m)) e in
    let some : 1 ≤ fin.len m = some_there m k _ refl e in
    omega (arith, l, some)
left_over m k false e =
    let l : fin.len (fin.remove m k) ≡ fin.len m = fin.len-remove rank_total m k ∙ ap (λ b. cond b (fin.len m - 1) (fin.len m)) e in
    omega (arith, l)

stays : {V : Type 0} (m : fin.FinMap rank_cmp V) (k q : Key) → is_key q k ≡ false → fin.get (fin.remove m k) q ≡ fin.get m q
stays m k q e = fin.get-remove rank_total m k q ∙ ap (λ b. cond b None (fin.get m q)) e

apart : (kind : Kind) (i n : ℕ) → i < n → is_key (key_at kind i) (key_at kind n) ≡ false
apart kind i n less = elim (cases_Bool (is_key (key_at kind i) (key_at kind n))) [
  | inl t ↦ (
      let one : pos i ≡ pos n = ap (λ (k : Key). k.id) (one_key (key_at kind i) (key_at kind n) t) in
      let same : i ≡ n = cc in
      absurd (omega (arith, same, less)))
  | inr f ↦ f
]

less_by : (a b : Bool) (m u l r : ℕ) → (a || b) ≡ true → l + cond a 1 0 ≡ m → r + cond b 1 0 ≡ u → l + r + 1 ≤ m + u
less_by true true m u l r h e f = omega (arith, e, f)
less_by true false m u l r h e f = omega (arith, e, f)
less_by false true m u l r h e f = omega (arith, e, f)
less_by false false m u l r h e f = cc

-- of which so many ids of a kind stand in one of two maps, these have so many keys
taken_many : {V W : Type 0} (kind : Kind) (n : ℕ) (m : fin.FinMap rank_cmp V) (u : fin.FinMap rank_cmp W) → ((i : ℕ) → 1 ≤ i → i ≤ n → (is_some (fin.get m (key_at kind i)) || is_some (fin.get u (key_at kind i))) ≡ true) → n ≤ fin.len m + fin.len u
taken_many kind zero m u h = omega arith
taken_many kind (suc n) m u h =
    let k = key_at kind (suc n) in
    let others : n ≤ fin.len (fin.remove m k) + fin.len (fin.remove u k) =
    taken_many kind n (fin.remove m k) (fin.remove u k) (λ i l g.
    let a = apart kind i (suc n) (omega (arith, g)) in
    (λ j. is_some (stays m k (key_at kind i) a j) || is_some (stays u k (key_at kind i) a j)) ∙ h i l (omega (arith, g))) in
    let fewer = less_by _ _ (fin.len m) (fin.len u) _ _ (h (suc n) (omega arith) (omega arith)) (left_over m k _ refl) (left_over u k _ refl) in
    omega (arith, others, fewer)

-- a search that may go so far ends within
within : (taken : ℕ → Bool) (more last : ℕ) → last ≡ 1 + more → (1 ≤ first_free taken more 1) × (first_free taken more 1 ≤ last)
within taken more last e = let most = to_end taken more 1 in (from_start taken more 1, omega (arith, most, e))

too_many : (m n : ℕ) → last_id ≤ m + n → m ≤ most_objects → n ≤ most_objects → ⊥
too_many m n many a b = omega (arith, many, a, b)

-- what isn't taken is free
of_free : (w : World) (t : TableValue) (kind : Kind) (id : ℕ) → 1 ≤ id → is_taken w t kind id ≡ false → IsFreeId w t kind (pos id)
of_free w t kind id least free = let n = neither (stands w (key_at kind id)) (entry_of t (key_at kind id)) free in (lt-ltb 0 id (omega (arith, least)), n.0, n.1)

-- the search finds what isn't taken, where fewer stand than it may go over
free_or_many : (w : World) (t : TableValue) (kind : Kind) (more last : ℕ) → last ≡ 1 + more → IsFreeId w t kind (pos (first_free (is_taken w t kind) more 1)) ⊎ (last ≤ fin.len w.entries + fin.len t.entries)
free_or_many w t kind more last e = elim (ends (is_taken w t kind) more 1) [
  | inl free ↦ inl (of_free w t kind (first_free (is_taken w t kind) more 1) (from_start (is_taken w t kind) more 1) free)
  | inr all ↦ inr (taken_many kind last w.entries t.entries (λ i l g. all i l (omega (arith, e, g))))
]

last_next : last_id ≡ 1 + (last_id - 1)
last_next = omega arith

module _ (w : World) (t : TableValue) (kind : Kind) where
  -- the free id is from 1 to the greatest
  pub id_given : IsPositive (free_id w t kind)
  unfolding free_id
  id_given = within (is_taken w t kind) (last_id - 1) last_id last_next

  -- and it stands nowhere
  pub id_free : FitsMemory w t → IsFreeId w t kind (free_id w t kind)
  unfolding free_id
  id_free fits = elim (free_or_many w t kind (last_id - 1) last_id last_next) [
    | inl free ↦ free
    | inr many ↦ absurd (too_many (fin.len w.entries) (fin.len t.entries) many fits.0 fits.1)
  ]
