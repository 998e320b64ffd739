-- The least set that a monotone rule adds nothing to: what it has, and that it is closed.
use Rattle.std.proofs.Common.{◌≡◌, ℕ, zero, suc, ◌≤◌, ◌<◌, Bool, true, false, ◌||◌, List, [], ◌∷◌, length, cond, refl, sym, ◌∙◌, ap, subst, arith, inl, inr, ◌⊎◌, filter}
use Rattle.std.proofs.lemmas.Bool.{or_cases, or_left, or_right, true≢false}
use Rattle.osm_base.proofs.Lists.{length-filter_le}
use Rattle.closure.specs.Closure.{has, grown, rounds, least}

module _ {K : Type 0} (eq : K → K → Bool) (self : (k : K) → eq k k ≡ true) (one : (j k : K) → eq j k ≡ true → j ≡ k) where
  -- membership in what a test keeps
  pub kept : (p : K → Bool) (all : List K) (k : K) → has eq all k ≡ true → p k ≡ true → has eq (filter p all) k ≡ true
  kept p [] k h e = absurd (true≢false (sym h))
  kept p (x ∷ xs) k h e = step (kept p xs k) (p x) refl (or_cases (eq k x) (has eq xs k) h)
    where
      step : (has eq xs k ≡ true → p k ≡ true → has eq (filter p xs) k ≡ true) → (b : Bool) → p x ≡ b → (eq k x ≡ true) ⊎ (has eq xs k ≡ true) → has eq (cond b (x ∷ filter p xs) (filter p xs)) k ≡ true
      step more true t (inl i) = or_left (eq k x) (has eq (filter p xs) k) i
      step more true t (inr i) = or_right (eq k x) (has eq (filter p xs) k) (more i e)
      step more false t (inl i) = absurd (true≢false (sym e ∙ ap p (one k x i) ∙ t))
      step more false t (inr i) = more i e

  pub kept_from : (p : K → Bool) (all : List K) (k : K) → has eq (filter p all) k ≡ true → (has eq all k ≡ true) × (p k ≡ true)
  kept_from p [] k h = absurd (true≢false (sym h))
  kept_from p (x ∷ xs) k h = step (kept_from p xs k) (p x) refl h
    where
      wider : (has eq xs k ≡ true) × (p k ≡ true) → (has eq (x ∷ xs) k ≡ true) × (p k ≡ true)
      wider q = (or_right (eq k x) (has eq xs k) q.0, q.1)

      by : (has eq (filter p xs) k ≡ true → (has eq xs k ≡ true) × (p k ≡ true)) → p x ≡ true → (eq k x ≡ true) ⊎ (has eq (filter p xs) k ≡ true) → (has eq (x ∷ xs) k ≡ true) × (p k ≡ true)
      by more t (inl i) = (or_left (eq k x) (has eq xs k) i, ap p (one k x i) ∙ t)
      by more t (inr i) = wider (more i)

      step : (has eq (filter p xs) k ≡ true → (has eq xs k ≡ true) × (p k ≡ true)) → (b : Bool) → p x ≡ b → has eq (cond b (x ∷ filter p xs) (filter p xs)) k ≡ true → (has eq (x ∷ xs) k ≡ true) × (p k ≡ true)
      step more true t g = by more t (or_cases (eq k x) (has eq (filter p xs) k) g)
      step more false t g = wider (more g)

  -- a weaker test keeps more, or just the same
  pub stalls : (p q : K → Bool) (all : List K) → ((k : K) → has eq all k ≡ true → p k ≡ true → q k ≡ true)
      → (length (filter p all) < length (filter q all)) ⊎ ((length (filter p all) ≤ length (filter q all)) × ((k : K) → has eq all k ≡ true → q k ≡ true → p k ≡ true))
  stalls p q [] h = inr (omega arith, λ k i. absurd (true≢false (sym i)))
  stalls p q (x ∷ xs) h = step (p x) (q x) refl refl (stalls p q xs (λ k i. h k (or_right (eq k x) (has eq xs k) i)))
    where
      A : Type 0
      A = (length (filter p xs) < length (filter q xs)) ⊎ ((length (filter p xs) ≤ length (filter q xs)) × ((k : K) → has eq xs k ≡ true → q k ≡ true → p k ≡ true))

      B : (b c : Bool) → Type 0
      B b c = (length (cond b (x ∷ filter p xs) (filter p xs)) < length (cond c (x ∷ filter q xs) (filter q xs))) ⊎ ((length (cond b (x ∷ filter p xs) (filter p xs)) ≤ length (cond c (x ∷ filter q xs) (filter q xs))) × ((k : K) → has eq (x ∷ xs) k ≡ true → q k ≡ true → p k ≡ true))

      join : (q x ≡ true → p x ≡ true) → ((k : K) → has eq xs k ≡ true → q k ≡ true → p k ≡ true) → (k : K) → (eq k x ≡ true) ⊎ (has eq xs k ≡ true) → q k ≡ true → p k ≡ true
      join here there k (inl i) e = ap p (one k x i) ∙ here (sym (ap q (one k x i)) ∙ e)
      join here there k (inr i) e = there k i e

      whole : (q x ≡ true → p x ≡ true) → ((k : K) → has eq xs k ≡ true → q k ≡ true → p k ≡ true) → (k : K) → has eq (x ∷ xs) k ≡ true → q k ≡ true → p k ≡ true
      whole here there k i = join here there k (or_cases (eq k x) (has eq xs k) i)

      step : (b c : Bool) → p x ≡ b → q x ≡ c → A → B b c
      step true true t u (inl l) = inl (omega (arith, l))
      step true true t u (inr r) = inr (omega (arith, r.0), whole (λ _. t) r.1)
      step true false t u a = absurd (true≢false (sym (h x (or_left (eq x x) (has eq xs x) (self x)) t) ∙ u))
      step false true t u (inl l) = inl (omega (arith, l))
      step false true t u (inr r) = inl (omega (arith, r.0))
      step false false t u (inl l) = inl l
      step false false t u (inr r) = inr (r.0, whole (λ e. absurd (true≢false (sym e ∙ u))) r.1)

  module _ (rule : List K → K → Bool) (all : List K) where
    -- what is kept in a round
    test : ℕ → K → Bool
    test zero k = false
    test (suc n) k = has eq (rounds eq rule all n) k || rule (rounds eq rule all n) k

    round_is : (n : ℕ) → rounds eq rule all n ≡ filter (test n) all
    unfolding test
    round_is zero = refl
    round_is (suc n) = refl

    -- the set is the least: what the rule keeps of a property, all of the set has
    pub each_of_least : (P : K → Type 0) → ((ms : List K) → ((j : K) → has eq ms j ≡ true → P j) → (k : K) → has eq all k ≡ true → rule ms k ≡ true → P k)
        → (n : ℕ) (k : K) → has eq (rounds eq rule all n) k ≡ true → P k
    each_of_least P step zero k h = absurd (true≢false (sym (kept_from (λ _. false) all k h).1))
    each_of_least P step (suc n) k h =
        let old = each_of_least P step n in
        let both = kept_from (λ j. has eq (rounds eq rule all n) j || rule (rounds eq rule all n) j) all k h in
        by old both.0 (or_cases (has eq (rounds eq rule all n) k) (rule (rounds eq rule all n) k) both.1)
      where
        by : ((j : K) → has eq (rounds eq rule all n) j ≡ true → P j) → has eq all k ≡ true → (has eq (rounds eq rule all n) k ≡ true) ⊎ (rule (rounds eq rule all n) k ≡ true) → P k
        by old i (inl e) = old k e
        by old i (inr e) = step (rounds eq rule all n) old k i e

    module _ (mono : (ms ns : List K) → ((j : K) → has eq ms j ≡ true → has eq ns j ≡ true) → (k : K) → rule ms k ≡ true → rule ns k ≡ true) where
      Stops : ℕ → Type 0
      Stops n = (k : K) → has eq all k ≡ true → (has eq (rounds eq rule all n) k || rule (rounds eq rule all n) k) ≡ true → has eq (rounds eq rule all n) k ≡ true

      stays : (n : ℕ) (k : K) → has eq (rounds eq rule all n) k ≡ true → has eq all k ≡ true
      stays zero k h = absurd (true≢false (sym (kept_from (λ _. false) all k h).1))
      stays (suc n) k h = (kept_from (λ j. has eq (rounds eq rule all n) j || rule (rounds eq rule all n) j) all k h).0

      stops_on : (n : ℕ) → Stops n → Stops (suc n)
      unfolding Stops
      stops_on n s k i h = by (or_cases (has eq (grown eq rule all ms) k) (rule (grown eq rule all ms) k) h)
        where
          ms : List K
          ms = rounds eq rule all n

          back : (j : K) → has eq (grown eq rule all (rounds eq rule all n)) j ≡ true → has eq (rounds eq rule all n) j ≡ true
          back j e = let both = kept_from (λ l. has eq (rounds eq rule all n) l || rule (rounds eq rule all n) l) all j e in s j both.0 both.1

          by : (has eq (grown eq rule all (rounds eq rule all n)) k ≡ true) ⊎ (rule (grown eq rule all (rounds eq rule all n)) k ≡ true) → has eq (grown eq rule all (rounds eq rule all n)) k ≡ true
          by (inl e) = e
          by (inr e) = kept (λ l. has eq (rounds eq rule all n) l || rule (rounds eq rule all n) l) all k i (or_right (has eq (rounds eq rule all n) k) (rule (rounds eq rule all n) k) (mono (grown eq rule all (rounds eq rule all n)) (rounds eq rule all n) back k e))

      settled : (n : ℕ) → (n ≤ length (rounds eq rule all n)) ⊎ Stops n
      unfolding Stops test round_is
      settled zero = inl (omega arith)
      settled (suc n) = by (settled n)
        where
          more : (k : K) → has eq all k ≡ true → test n k ≡ true → test (suc n) k ≡ true
          more k i e = or_left (has eq (rounds eq rule all n) k) (rule (rounds eq rule all n) k) (subst (λ (l : List K). has eq l k ≡ true) (sym (round_is n)) (kept (test n) all k i e))

          from : (n ≤ length (rounds eq rule all n)) → (length (filter (test n) all) < length (filter (test (suc n)) all)) ⊎ ((length (filter (test n) all) ≤ length (filter (test (suc n)) all)) × ((k : K) → has eq all k ≡ true → test (suc n) k ≡ true → test n k ≡ true)) → (suc n ≤ length (rounds eq rule all (suc n))) ⊎ Stops (suc n)
          from l (inl lt) = inl (let e = ap length (round_is n) in omega (arith, lt, l, e))
          from l (inr same) = inr (stops_on n (λ k i e. subst (λ (l : List K). has eq l k ≡ true) (sym (round_is n)) (kept (test n) all k i (same.1 k i e))))

          by : (n ≤ length (rounds eq rule all n)) ⊎ Stops n → (suc n ≤ length (rounds eq rule all (suc n))) ⊎ Stops (suc n)
          by (inl l) = from l (stalls (test n) (test (suc n)) all more)
          by (inr s) = inr (stops_on n s)

      -- the rule adds nothing to the least set
      pub least_closed : (k : K) → has eq all k ≡ true → rule (least eq rule all) k ≡ true → has eq (least eq rule all) k ≡ true
      unfolding Stops
      least_closed k i h = by (settled (suc (length all)))
        where
          by : (suc (length all) ≤ length (least eq rule all)) ⊎ Stops (suc (length all)) → has eq (least eq rule all) k ≡ true
          by (inl l) = absurd (let m = length-filter_le (λ j. has eq (rounds eq rule all (length all)) j || rule (rounds eq rule all (length all)) j) all in omega (arith, l, m))
          by (inr s) = s k i (or_right (has eq (least eq rule all) k) (rule (least eq rule all) k) h)
