-- What a walk with marks keeps, and has at its end.
use Rattle.std.proofs.Common.{◌≡◌, ℕ, ◌≤◌, ◌<◌, ◌+◌, Bool, true, false, List, [], ◌∷◌, ◌++◌, length, take, get_or, refl, sym, ◌∙◌, ap, subst, arith, inl, inr, ◌⊎◌, append-nil, append_assoc, fold, ◌↔◌, if◌then◌else◌}
use Rattle.std.specs.List.{list_any}
use Rattle.std.proofs.lemmas.Bool.{or_cases, or_left, or_right, true≢false}
use Rattle.std.proofs.lemmas.List.{length-append, take-append-le, take_all, take_more}
use Rattle.std.proofs.lemmas.List.Folds.{list_any-append, list_any_at}
use Rattle.closure.specs.Closure.{has, with_key, Chain, begins, goes}
use Rattle.closure.proofs.Chains.{chain_within}

module _ {K : Type 0} (eq : K → K → Bool) (self : (k : K) → eq k k ≡ true) (one : (j k : K) → eq j k ≡ true → j ≡ k) where
  -- what is in a list of two parts is in one of them, and the other way round
  pub has_append : (xs ys : List K) (k : K) → has eq (xs ++ ys) k ≡ true → (has eq xs k ≡ true) ⊎ (has eq ys k ≡ true)
  has_append xs ys k h = or_cases (has eq xs k) (has eq ys k) (sym (list_any-append (eq k) xs ys) ∙ h)

  pub has_first : (xs ys : List K) (k : K) → has eq xs k ≡ true → has eq (xs ++ ys) k ≡ true
  has_first xs ys k h = list_any-append (eq k) xs ys ∙ or_left (has eq xs k) (has eq ys k) h

  pub has_second : (xs ys : List K) (k : K) → has eq ys k ≡ true → has eq (xs ++ ys) k ≡ true
  has_second xs ys k h = list_any-append (eq k) xs ys ∙ or_right (has eq xs k) (has eq ys k) h

  -- keys inserted go after those that were there; they are new ones of the list, and all of it are there
  pub record Adds (ms xs ns : List K) : Type 0 where
    pub fresh : List K
    pub whole : ns ≡ ms ++ fresh
    pub among : (k : K) → has eq fresh k ≡ true → has eq xs k ≡ true
    pub all : (k : K) → has eq xs k ≡ true → has eq ns k ≡ true

  adds_key : (ms : List K) (x : K) → Adds ms (x ∷ []) (with_key eq ms x)
  adds_key ms x = by (list_any (eq x) ms) refl
    where
      only : (k : K) → has eq (x ∷ []) k ≡ true → k ≡ x
      only k h = pick (or_cases (eq k x) false h)
        where
          pick : (eq k x ≡ true) ⊎ (false ≡ true) → k ≡ x
          pick (inl e) = one k x e
          pick (inr e) = absurd (true≢false (sym e))

      by : (b : Bool) → list_any (eq x) ms ≡ b → Adds ms (x ∷ []) (if b then ms else ms ++ x ∷ [])
      by true e = record { fresh = []; whole = sym (append-nil ms); among = λ k h. absurd (true≢false (sym h)); all = λ k h. subst (λ (j : K). has eq ms j ≡ true) (sym (only k h)) e }
      by false e = record { fresh = x ∷ []; whole = refl; among = λ k h. h; all = λ k h. has_second ms (x ∷ []) k h }

  adds_then : (ms ns os : List K) (x : K) (xs : List K) → Adds ms (x ∷ []) ns → Adds ns xs os → Adds ms (x ∷ xs) os
  adds_then ms ns os x xs a b = record {
    fresh = a.fresh ++ b.fresh;
    whole = b.whole ∙ ap (λ l. l ++ b.fresh) a.whole ∙ append_assoc ms a.fresh b.fresh;
    among = λ k h. among k (has_append a.fresh b.fresh k h);
    all = λ k h. every k (or_cases (eq k x) (has eq xs k) h);
  }
    where
      among : (k : K) → (has eq a.fresh k ≡ true) ⊎ (has eq b.fresh k ≡ true) → has eq (x ∷ xs) k ≡ true
      among k (inl e) = has_first (x ∷ []) xs k (a.among k e)
      among k (inr e) = or_right (eq k x) (has eq xs k) (b.among k e)

      every : (k : K) → (eq k x ≡ true) ⊎ (has eq xs k ≡ true) → has eq os k ≡ true
      every k (inl e) = subst (λ (l : List K). has eq l k ≡ true) (sym b.whole) (has_first ns b.fresh k (a.all k (or_left (eq k x) false e)))
      every k (inr e) = b.all k e

  pub adds : (ms xs : List K) → Adds ms xs (fold (with_key eq) ms xs)
  adds ms [] = record { fresh = []; whole = sym (append-nil ms); among = λ k h. h; all = λ k h. absurd (true≢false (sym h)) }
  adds ms (x ∷ xs) = adds_then ms (with_key eq ms x) (fold (with_key eq) (with_key eq ms x) xs) x xs (adds_key ms x) (adds (with_key eq ms x) xs)

  module _ (next : K → List K) (starts : List K) where
    -- marked are ends of chains, the starts among them; the first d have all that they lead to marked
    pub record Walks (ms : List K) (d : ℕ) : Type 0 where
      pub ends : (k : K) → has eq ms k ≡ true → Chain (has eq starts) (λ j. has eq (next j)) k
      pub first : (k : K) → has eq starts k ≡ true → has eq ms k ≡ true
      pub done : (j k : K) → has eq (take d ms) j ≡ true → has eq (next j) k ≡ true → has eq ms k ≡ true
      pub within : d ≤ length ms

    -- the starts alone are marked
    pub walk_starts : (ns : List K) → Adds [] starts ns → Walks ns 0
    walk_starts ns a = record {
      ends = λ k h. begins k (a.among k (subst (λ (l : List K). has eq l k ≡ true) a.whole h));
      first = a.all;
      done = λ j k h. absurd (true≢false (sym h));
      within = omega arith;
    }

    -- what the next key leads to is marked too
    pub walk_goes : (ms ns : List K) (d : ℕ) (x : K) → Walks ms d → d < length ms → x ≡ get_or ms d x → Adds ms (next x) ns → Walks ns (d + 1)
    walk_goes ms ns d x w lt is a = record {
      ends = λ k h. ends k (has_append ms a.fresh k (subst (λ (l : List K). has eq l k ≡ true) a.whole h));
      first = λ k h. old k (w.first k h);
      done = λ j k h n. done j k n (has_append (take d ms) (x ∷ []) j (subst (λ (l : List K). has eq l j ≡ true) front h));
      within = let e = ap length a.whole in let f = length-append ms a.fresh in omega (arith, e, f, lt);
    }
      where
        old : (k : K) → has eq ms k ≡ true → has eq ns k ≡ true
        old k h = subst (λ (l : List K). has eq l k ≡ true) (sym a.whole) (has_first ms a.fresh k h)

        front : take (d + 1) ns ≡ take d ms ++ x ∷ []
        front = ap (take (d + 1)) a.whole ∙ take-append-le (d + 1) ms a.fresh (omega (arith, lt)) ∙ take_more ms d x lt ∙ ap (λ (y : K). take d ms ++ y ∷ []) (sym is)

        here : has eq ms x ≡ true
        here = subst (λ (y : K). has eq ms y ≡ true) (sym is) (list_any_at (eq (get_or ms d x)) ms d x lt (self (get_or ms d x)))

        ends : (k : K) → (has eq ms k ≡ true) ⊎ (has eq a.fresh k ≡ true) → Chain (has eq starts) (λ j. has eq (next j)) k
        ends k (inl e) = w.ends k e
        ends k (inr e) = goes x k (w.ends x here) (a.among k e)

        done : (j k : K) → has eq (next j) k ≡ true → (has eq (take d ms) j ≡ true) ⊎ (has eq (x ∷ []) j ≡ true) → has eq ns k ≡ true
        done j k n (inl e) = old k (w.done j k e n)
        done j k n (inr e) = at_x (or_cases (eq j x) false e)
          where
            at_x : (eq j x ≡ true) ⊎ (false ≡ true) → has eq ns k ≡ true
            at_x (inl i) = a.all k (subst (λ (y : K). has eq (next y) k ≡ true) (one j x i) n)
            at_x (inr i) = absurd (true≢false (sym i))

    -- where all marked keys are done, they are just the ends of chains
    pub walk_ends : (ms : List K) (d : ℕ) → Walks ms d → length ms ≤ d → (k : K) → (has eq ms k ≡ true) ↔ Chain (has eq starts) (λ j. has eq (next j)) k
    walk_ends ms d w le k = (w.ends k, chain_within (has eq starts) (λ j. has eq (next j)) (λ k. has eq ms k ≡ true) w.first (λ j l h n. w.done j l (subst (λ (m : List K). has eq m j ≡ true) (sym (take_all d ms le)) h) n) k)
