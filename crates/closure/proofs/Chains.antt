-- The least set is just the ends of chains, the ready ones, and what a walk with marks has at its end.
use Rattle.std.proofs.Common.{◌≡◌, suc, Bool, true, false, ◌||◌, not, List, [], ◌∷◌, length, refl, sym, ◌∙◌, ap, inl, inr, ◌⊎◌}
use Rattle.std.specs.List.{list_any, list_all}
use Rattle.std.proofs.lemmas.Bool.{or_cases, or_left, or_right, true≢false, and_parts, and_from}
use Rattle.closure.specs.Closure.{has, Chain, begins, goes, Ready, ready, least, by_chains, by_needs}
use Rattle.closure.proofs.Least.{each_of_least, least_closed}

-- a set that has the starts, and with each what it leads to, has the end of each chain
pub chain_within : {K : Type 0} (start : K → Bool) (leads : K → K → Bool) (P : K → Type 0) → ((k : K) → start k ≡ true → P k) → ((j k : K) → P j → leads j k ≡ true → P k)
    → (k : K) → Chain start leads k → P k
chain_within start leads P first then _ (begins k e) = first k e
chain_within start leads P first then _ (goes j k c e) = then j k (chain_within start leads P first then j c) e

-- a chain over one start and step is one over weaker ones
pub chain_maps : {K : Type 0} (start start' : K → Bool) (leads leads' : K → K → Bool) → ((k : K) → start k ≡ true → start' k ≡ true) → ((j k : K) → leads j k ≡ true → leads' j k ≡ true)
    → (k : K) → Chain start leads k → Chain start' leads' k
chain_maps start start' leads leads' f g = chain_within start leads (Chain start' leads') (λ k e. begins k (f k e)) (λ j k c e. goes j k c (g j k e))

-- a test that not all of a list pass fails at one
some_fails : {K : Type 0} (p : K → Bool) (js : List K) → (list_all p js ≡ true → ⊥) → list_any (λ j. not (p j)) js ≡ true
some_fails p [] f = absurd (f refl)
some_fails p (x ∷ xs) f = by (p x) refl (some_fails p xs)
  where
    by : (b : Bool) → p x ≡ b → ((list_all p xs ≡ true → ⊥) → list_any (λ j. not (p j)) xs ≡ true) → (not (p x) || list_any (λ j. not (p j)) xs) ≡ true
    by true e more = or_right (not (p x)) (list_any (λ j. not (p j)) xs) (more (λ a. f (and_from (p x) (list_all p xs) e a)))
    by false e more = or_left (not (p x)) (list_any (λ j. not (p j)) xs) (ap not e)

module _ {K : Type 0} (eq : K → K → Bool) (self : (k : K) → eq k k ≡ true) (one : (j k : K) → eq j k ≡ true → j ≡ k) where
  -- a test that one of a list passes has one of it that passes, and the other way round
  pub some_of : (p : K → Bool) (ms : List K) → list_any p ms ≡ true → (j : K) × (has eq ms j ≡ true) × (p j ≡ true)
  some_of p [] h = absurd (true≢false (sym h))
  some_of p (x ∷ xs) h = by (some_of p xs) (or_cases (p x) (list_any p xs) h)
    where
      by : (list_any p xs ≡ true → (j : K) × (has eq xs j ≡ true) × (p j ≡ true)) → (p x ≡ true) ⊎ (list_any p xs ≡ true) → (j : K) × (has eq (x ∷ xs) j ≡ true) × (p j ≡ true)
      by more (inl e) = (x, or_left (eq x x) (has eq xs x) (self x), e)
      by more (inr e) = let m = more e in (m.0, or_right (eq m.0 x) (has eq xs m.0) m.1, m.2)

  pub any_of : (p : K → Bool) (ms : List K) (j : K) → has eq ms j ≡ true → p j ≡ true → list_any p ms ≡ true
  any_of p [] j h e = absurd (true≢false (sym h))
  any_of p (x ∷ xs) j h e = by (any_of p xs j) (or_cases (eq j x) (has eq xs j) h)
    where
      by : (has eq xs j ≡ true → p j ≡ true → list_any p xs ≡ true) → (eq j x ≡ true) ⊎ (has eq xs j ≡ true) → (p x || list_any p xs) ≡ true
      by more (inl i) = or_left (p x) (list_any p xs) (sym (ap p (one j x i)) ∙ e)
      by more (inr i) = or_right (p x) (list_any p xs) (more i e)

  -- a test that all of a list pass is passed by each, and the other way round
  pub each_from : (p : K → Bool) (ms : List K) → list_all p ms ≡ true → (j : K) → has eq ms j ≡ true → p j ≡ true
  each_from p [] a j h = absurd (true≢false (sym h))
  each_from p (x ∷ xs) a j h = by (and_parts (p x) (list_all p xs) a) (each_from p xs) (or_cases (eq j x) (has eq xs j) h)
    where
      by : (p x ≡ true) × (list_all p xs ≡ true) → (list_all p xs ≡ true → (j : K) → has eq xs j ≡ true → p j ≡ true) → (eq j x ≡ true) ⊎ (has eq xs j ≡ true) → p j ≡ true
      by q more (inl i) = ap p (one j x i) ∙ q.0
      by q more (inr i) = more q.1 j i

  pub each_to : (p : K → Bool) (ms : List K) → ((j : K) → has eq ms j ≡ true → p j ≡ true) → list_all p ms ≡ true
  each_to p [] h = refl
  each_to p (x ∷ xs) h = and_from (p x) (list_all p xs) (h x (or_left (eq x x) (has eq xs x) (self x))) (each_to p xs (λ j i. h j (or_right (eq j x) (has eq xs j) i)))

  module _ (start : K → Bool) (leads : K → K → Bool) (all : List K) where
    chains_mono : (ms ns : List K) → ((j : K) → has eq ms j ≡ true → has eq ns j ≡ true) → (k : K) → by_chains start leads ms k ≡ true → by_chains start leads ns k ≡ true
    chains_mono ms ns sub k h = by (or_cases (start k) (list_any (λ j. leads j k) ms) h)
      where
        by : (start k ≡ true) ⊎ (list_any (λ j. leads j k) ms ≡ true) → by_chains start leads ns k ≡ true
        by (inl e) = or_left (start k) (list_any (λ j. leads j k) ns) e
        by (inr e) = let s = some_of (λ j. leads j k) ms e in or_right (start k) (list_any (λ j. leads j k) ns) (any_of (λ j. leads j k) ns s.0 (sub s.0 s.1) s.2)

    -- what is in the set is the end of a chain
    pub chain_of : (k : K) → has eq (least eq (by_chains start leads) all) k ≡ true → Chain start leads k
    chain_of k h = each_of_least eq self one (by_chains start leads) all (Chain start leads) step (suc (length all)) k h
      where
        step : (ms : List K) → ((j : K) → has eq ms j ≡ true → Chain start leads j) → (k : K) → has eq all k ≡ true → by_chains start leads ms k ≡ true → Chain start leads k
        step ms old k i e = by (or_cases (start k) (list_any (λ j. leads j k) ms) e)
          where
            by : (start k ≡ true) ⊎ (list_any (λ j. leads j k) ms ≡ true) → Chain start leads k
            by (inl e) = begins k e
            by (inr e) = let s = some_of (λ j. leads j k) ms e in goes s.0 k (old s.0 s.1) s.2

    -- the end of a chain is in the set, where the list has all starts and all that is led to
    pub of_chain : ((k : K) → start k ≡ true → has eq all k ≡ true) → ((j k : K) → leads j k ≡ true → has eq all k ≡ true) → (k : K) → Chain start leads k → has eq (least eq (by_chains start leads) all) k ≡ true
    of_chain first then = chain_within start leads (λ k. has eq (least eq (by_chains start leads) all) k ≡ true)
        (λ k e. least_closed eq self one (by_chains start leads) all chains_mono k (first k e) (or_left (start k) (list_any (λ j. leads j k) (least eq (by_chains start leads) all)) e))
        (λ j k c e. least_closed eq self one (by_chains start leads) all chains_mono k (then j k e) (or_right (start k) (list_any (λ l. leads l k) (least eq (by_chains start leads) all)) (any_of (λ l. leads l k) (least eq (by_chains start leads) all) j c e)))

    -- a start of the list is in the set
    pub by_start : (k : K) → has eq all k ≡ true → start k ≡ true → has eq (least eq (by_chains start leads) all) k ≡ true
    by_start k i e = least_closed eq self one (by_chains start leads) all chains_mono k i (or_left (start k) (list_any (λ j. leads j k) (least eq (by_chains start leads) all)) e)

    -- what one in the set leads to is in the set
    pub by_lead : (j k : K) → has eq all k ≡ true → has eq (least eq (by_chains start leads) all) j ≡ true → leads j k ≡ true → has eq (least eq (by_chains start leads) all) k ≡ true
    by_lead j k i h e = least_closed eq self one (by_chains start leads) all chains_mono k i (or_right (start k) (list_any (λ l. leads l k) (least eq (by_chains start leads) all)) (any_of (λ l. leads l k) (least eq (by_chains start leads) all) j h e))

    -- what holds of the starts and of what such lead to holds of all in the set
    pub each_in : (P : K → Type 0) → ((k : K) → start k ≡ true → P k) → ((j k : K) → P j → leads j k ≡ true → P k) → (k : K) → has eq (least eq (by_chains start leads) all) k ≡ true → P k
    each_in P first then k h = chain_within start leads P first then k (chain_of k h)

  module _ (needs : K → List K) (all : List K) where
    needs_mono : (ms ns : List K) → ((j : K) → has eq ms j ≡ true → has eq ns j ≡ true) → (k : K) → by_needs eq needs ms k ≡ true → by_needs eq needs ns k ≡ true
    needs_mono ms ns sub k h = each_to (has eq ns) (needs k) (λ j i. sub j (each_from (has eq ms) (needs k) h j i))

    -- what is in the set is ready
    pub ready_of : (k : K) → has eq (least eq (by_needs eq needs) all) k ≡ true → Ready eq needs k
    ready_of k h = each_of_least eq self one (by_needs eq needs) all (Ready eq needs) (λ ms old k i e. ready k (λ j n. old j (each_from (has eq ms) (needs k) e j n))) (suc (length all)) k h

    -- one outside the set has a need outside it
    pub stuck_needs : (k : K) → has eq all k ≡ true → has eq (least eq (by_needs eq needs) all) k ≡ false → list_any (λ j. not (has eq (least eq (by_needs eq needs) all) j)) (needs k) ≡ true
    stuck_needs k i out = some_fails (has eq (least eq (by_needs eq needs) all)) (needs k) (λ a. true≢false (sym (least_closed eq self one (by_needs eq needs) all needs_mono k i a) ∙ out))

    -- and any set each of whose members needs a member lies outside it
    pub stuck_greatest : (S : K → Bool) → ((k : K) → S k ≡ true → list_any S (needs k) ≡ true) → (k : K) → has eq (least eq (by_needs eq needs) all) k ≡ true → S k ≡ true → ⊥
    stuck_greatest S h k i = each_of_least eq self one (by_needs eq needs) all (λ k. S k ≡ true → ⊥)
        (λ ms old k i e s. let n = some_of S (needs k) (h k s) in old n.0 (each_from (has eq ms) (needs k) e n.0 n.1) n.2)
        (suc (length all)) k i

    -- a ready one of the list is in the set, where the list has all that its members need
    pub ready_in : ((j k : K) → has eq all j ≡ true → has eq (needs j) k ≡ true → has eq all k ≡ true) → (k : K) → Ready eq needs k → has eq all k ≡ true → has eq (least eq (by_needs eq needs) all) k ≡ true
    ready_in within _ (ready k h) i = least_closed eq self one (by_needs eq needs) all needs_mono k i (each_to (has eq (least eq (by_needs eq needs) all)) (needs k) (λ j n. ready_in within j (h j n) (within k j i n)))
