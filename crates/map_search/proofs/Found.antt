-- Keys among those that a test found.
use Rattle.std.proofs.Common.{◌≡◌, Bool, true, false, not, cond, ◌&&◌, ◌||◌, List, [], ◌∷◌, filter, refl, sym, ap, ◌∙◌}
use Rattle.std.proofs.lemmas.Bool.{or_right, or_left}
use Rattle.std.proofs.Math.Bool.{and-false}
use Rattle.std.proofs.lemmas.List.Folds.{list_any-append}
use Rattle.std.specs.List.{flat_map, list_any}
use Rattle.osm_base.specs.Rank.{is_key}
use Rattle.osm_base.specs.RisingKeys.{is_in}
use Rattle.osm_base.specs.declared.key.Key.{Key}
use Rattle.osm_base.proofs.RisingKeys.{one_key, key_itself, key_turned, in_filter}
use Rattle.osm_base.proofs.Tests.{and_passed}

-- tests that agree on the keys of a list find the same of them
pub filter_same : (f g : Key → Bool) (ks : List Key) → ((k : Key) → is_in k ks ≡ true → f k ≡ g k) → filter f ks ≡ filter g ks
filter_same f g [] h = refl
filter_same f g (x ∷ xs) h =
    let first = h x (or_left (is_key x x) (is_in x xs) (key_itself x)) in
    let rest = filter_same f g xs (λ k e. h k (or_right (is_key k x) (is_in k xs) e)) in
    λ i. cond (first i) (x ∷ rest i) (rest i)

-- one of the keys is found where it passes
found_here : (m : Key → Bool) (k : Key) (ks : List Key) → is_in k ks ≡ true → is_in k (filter m ks) ≡ m k
found_here m k ks e = in_filter m k ks ∙ and_passed (m k) (is_in k ks) e

-- those that weren't found don't pass
pub not_found : (m : Key → Bool) (ks : List Key) → filter (λ k. not (is_in k (filter m ks))) ks ≡ filter (λ k. not (m k)) ks
not_found m ks = filter_same _ _ ks (λ k e. ap not (found_here m k ks e))

-- those found by one of two tests pass it
pub either_found : (p q : Key → Bool) (ks : List Key) → filter (λ k. is_in k (filter p ks) || is_in k (filter q ks)) ks ≡ filter (λ k. p k || q k) ks
either_found p q ks = filter_same _ _ ks (λ k e. λ i. found_here p k ks e i || found_here q k ks e i)

both_case : (a b : Bool) (x : Key) (p q : Key → Bool) (xs : List Key) → p x ≡ a → q x ≡ b → filter q (filter p xs) ≡ filter (λ k. p k && q k) xs → filter q (filter p (x ∷ xs)) ≡ filter (λ k. p k && q k) (x ∷ xs)
both_case true true x p q xs e f rest = rw (e, f) (ap (λ ys. x ∷ ys) rest)
both_case true false x p q xs e f rest = rw (e, f) rest
both_case false b x p q xs e f rest = rw e rest

-- those of the found that pass a second test
pub both_found : (p q : Key → Bool) (ks : List Key) → filter q (filter p ks) ≡ filter (λ k. p k && q k) ks
both_found p q [] = refl
both_found p q (x ∷ xs) = both_case (p x) (q x) x p q xs refl refl (both_found p q xs)

none_of : (rs : List Key) → list_any (λ r. false) rs ≡ false
none_of [] = refl
none_of (r ∷ rs) = none_of rs

never : (m : Key → Bool) (rs : List Key) → list_any (λ r. m r && false) rs ≡ false
never m rs = ap (λ f. list_any f rs) (λ i r. and-false (m r) i) ∙ none_of rs

moved : (b mr mj x s t : Bool) → (b ≡ true → mr ≡ mj) → ((mr && (b || x)) || ((mj && s) || t)) ≡ ((mj && (b || s)) || ((mr && x) || t))
moved true mr mj x s t h = rw (h refl) (tests mj x s t)
  where
    tests : (m x s t : Bool) → ((m && true) || ((m && s) || t)) ≡ ((m && true) || ((m && x) || t))
    tests true x s t = refl
    tests false x s t = refl
moved false mr mj x s t h = turned (mr && x) (mj && s) t
  where
    turned : (a b c : Bool) → (a || (b || c)) ≡ (b || (a || c))
    turned true true c = refl
    turned true false c = refl
    turned false b c = refl

-- one key more may be common to both lists
one_more : (m : Key → Bool) (j : Key) (js rs : List Key) → list_any (λ r. m r && (is_key r j || is_in r js)) rs ≡ ((m j && is_in j rs) || list_any (λ r. m r && is_in r js) rs)
one_more m j js [] = sym (none (m j))
  where
    none : (a : Bool) → ((a && false) || false) ≡ false
    none true = refl
    none false = refl
one_more m j js (r ∷ rs) =
    ap (λ b. (m r && (is_key r j || is_in r js)) || b) (one_more m j js rs)
    ∙ moved (is_key r j) (m r) (m j) (is_in r js) (is_in j rs) (list_any (λ r. m r && is_in r js) rs) (λ e. ap m (one_key r j e))
    ∙ ap (λ b. (m j && (b || is_in j rs)) || ((m r && is_in r js) || list_any (λ r. m r && is_in r js) rs)) (key_turned r j)

common : (m : Key → Bool) (js rs : List Key) → list_any (λ r. m r && is_in r js) rs ≡ list_any (λ j. m j && is_in j rs) js
common m [] rs = never m rs
common m (j ∷ js) rs = one_more m j js rs ∙ ap (λ b. (m j && is_in j rs) || b) (common m js rs)

-- one of the keys is found where one that is found is among them
pub any_found : (m : Key → Bool) (all rs : List Key) → list_any (λ r. is_in r (filter m all)) rs ≡ list_any (λ j. m j && is_in j rs) all
any_found m all rs = ap (λ f. list_any f rs) (λ i r. in_filter m r all i) ∙ common m all rs

-- one of those that pass a test passes another where one passes both
filter_case : (p q : Key → Bool) (b : Bool) (x : Key) (xs : List Key) (rest : Bool) → p x ≡ b → list_any q (filter p xs) ≡ rest → list_any q (cond b (x ∷ filter p xs) (filter p xs)) ≡ ((b && q x) || rest)
filter_case p q true x xs rest is e = ap (λ b. q x || b) e
filter_case p q false x xs rest is e = e

pub any_filter : (p q : Key → Bool) (xs : List Key) → list_any q (filter p xs) ≡ list_any (λ x. p x && q x) xs
any_filter p q [] = refl
any_filter p q (x ∷ xs) = filter_case p q (p x) x xs (list_any (λ y. p y && q y) xs) refl (any_filter p q xs)

-- a key is in one of the lists of all where one of them has it
pub in_each : (f : Key → List Key) (k : Key) (xs : List Key) → is_in k (flat_map f xs) ≡ list_any (λ x. is_in k (f x)) xs
in_each f k [] = refl
in_each f k (x ∷ xs) = list_any-append (is_key k) (f x) (flat_map f xs) ∙ ap (λ b. is_in k (f x) || b) (in_each f k xs)
