-- Keys that are among others.
use Rattle.std.proofs.Common.{◌≡◌, ◌&&◌, ◌||◌, Bool, true, false, cond, not, List, [], ◌∷◌, filter, Option, Some, None, refl, sym, ap, ◌∙◌}
use Rattle.std.specs.List.{flat_map, find, list_all, list_any}
use Rattle.std.specs.Cmp.{both_ways, first_so, second_so}
use Rattle.std.proofs.lemmas.List.Folds.{list_any-append}
use Rattle.std.proofs.lemmas.Bool.{or_right, and_from, and_right}
use Rattle.osm_base.specs.Rank.{is_key}
use Rattle.osm_base.proofs.RisingKeys.{one_key, key_itself}
use Rattle.osm_base.specs.declared.key.Key.{Key}
use Rattle.osm_base.proofs.Tests.{by_either}
use Rattle.tool_api.specs.Checks.{is_named}

-- a key of a list that passes is one that passes
any_case : (p : Key → Bool) (q k : Key) (b rest c : Bool) → is_key q k ≡ b → (b || c) ≡ true → p q ≡ true → (c ≡ true → rest ≡ true) → (p k || rest) ≡ true
any_case p q k true rest c is has passes there = ap (λ x. p x || rest) (sym (one_key q k is)) ∙ ap (λ b. b || rest) passes
any_case p q k false rest c is has passes there = or_right (p k) rest (there has)

pub any_passes : (p : Key → Bool) (q : Key) (ks : List Key) → is_named ks q ≡ true → p q ≡ true → list_any p ks ≡ true
any_passes p q [] has passes = cc
any_passes p q (k ∷ ks) has passes = any_case p q k (is_key q k) (list_any p ks) (is_named ks q) refl has passes (λ there. any_passes p q ks there passes)

-- where one passes, there is one
pub record Passing (p : Key → Bool) (ks : List Key) : Type 0 where
  pub key : Key
  pub among : is_named ks key ≡ true
  pub passes : p key ≡ true

first_passing : (p : Key → Bool) (k : Key) (ks : List Key) (b : Bool) → p k ≡ b → (b || list_any p ks) ≡ true → (list_any p ks ≡ true → Passing p ks) → Passing p (k ∷ ks)
first_passing p k ks true is any rest = record { key = k; among = ap (λ b. b || is_named ks k) (key_itself k); passes = is }
first_passing p k ks false is any rest = let r = rest any in record { key = r.key; among = or_right (is_key r.key k) (is_named ks r.key) r.among; passes = r.passes }

pub passing : (p : Key → Bool) (ks : List Key) → list_any p ks ≡ true → Passing p ks
passing p [] any = cc
passing p (k ∷ ks) any = first_passing p k ks (p k) refl any (passing p ks)

half : (r : Key → Bool) (xs ys : List Key) → list_any (λ k. is_named ys k && r k) xs ≡ true → list_any (λ k. is_named xs k && r k) ys ≡ true
half r xs ys any =
    let p = passing (λ k. is_named ys k && r k) xs any in
    any_passes (λ k. is_named xs k && r k) p.key ys (first_so (is_named ys p.key) (r p.key) p.passes) (and_from _ _ p.among (second_so (is_named ys p.key) (r p.key) p.passes))

-- two lists have a key in common that passes, from whichever side one looks
pub common_passing : (r : Key → Bool) (xs ys : List Key) → list_any (λ k. is_named ys k && r k) xs ≡ list_any (λ k. is_named xs k && r k) ys
common_passing r xs ys = both_ways _ _ (half r xs ys) (half r ys xs)

half_common : (xs ys : List Key) → list_any (is_named ys) xs ≡ true → list_any (is_named xs) ys ≡ true
half_common xs ys any = let p = passing (is_named ys) xs any in any_passes (is_named xs) p.key ys p.passes p.among

pub common : (xs ys : List Key) → list_any (is_named ys) xs ≡ list_any (is_named xs) ys
common xs ys = both_ways _ _ (half_common xs ys) (half_common ys xs)

-- a key among lists one after the other
pub named_flat : (f : Key → List Key) (ks : List Key) (q : Key) → is_named (flat_map f ks) q ≡ list_any (λ k. is_named (f k) q) ks
named_flat f [] q = refl
named_flat f (k ∷ ks) q = list_any-append (is_key q) (f k) (flat_map f ks) ∙ ap (λ b. is_named (f k) q || b) (named_flat f ks q)

-- where none is found, none passes
none_found : (k : Key) (b : Bool) (found : Option Key) (rest : Bool) → cond b (Some k) found ≡ None → (found ≡ None → rest ≡ false) → (b || rest) ≡ false
none_found k true found rest e h = cc
none_found k false found rest e h = h e

pub none_any : (p : Key → Bool) (ks : List Key) → find p ks ≡ None → list_any p ks ≡ false
none_any p [] e = refl
none_any p (k ∷ ks) e = none_found k (p k) (find p ks) (list_any p ks) e (none_any p ks)

-- where one doesn't pass, not all do
fails_case : (p : Key → Bool) (q k : Key) (b rest c : Bool) → is_key q k ≡ b → (b || c) ≡ true → p q ≡ false → (c ≡ true → rest ≡ false) → (p k && rest) ≡ false
fails_case p q k true rest c is has fails there = ap (λ x. p x && rest) (sym (one_key q k is)) ∙ ap (λ b. b && rest) fails
fails_case p q k false rest c is has fails there = and_right (p k) rest (there has)

pub not_all : (p : Key → Bool) (q : Key) (ks : List Key) → is_named ks q ≡ true → p q ≡ false → list_all p ks ≡ false
not_all p q [] has fails = cc
not_all p q (k ∷ ks) has fails = fails_case p q k (is_key q k) (list_all p ks) (is_named ks q) refl has fails (λ there. not_all p q ks there fails)

-- what passes none of a list leaves it whole
whole_case : {X : Type 0} (p : X → Bool) (b : Bool) (x : X) (xs : List X) → (b || list_any p xs) ≡ false → (list_any p xs ≡ false → filter (λ y. not (p y)) xs ≡ xs) → cond (not b) (x ∷ filter (λ y. not (p y)) xs) (filter (λ y. not (p y)) xs) ≡ x ∷ xs
whole_case p true x xs none rest = cc
whole_case p false x xs none rest = ap (λ ys. x ∷ ys) (rest none)

pub whole : {X : Type 0} (p : X → Bool) (xs : List X) → list_any p xs ≡ false → filter (λ y. not (p y)) xs ≡ xs
whole p [] none = refl
whole p (x ∷ xs) none = whole_case p (p x) x xs none (whole p xs)

or_weaker : (a b c d : Bool) → (a ≡ true → c ≡ true) → (b ≡ true → d ≡ true) → (a || b) ≡ true → (c || d) ≡ true
or_weaker true b c d f g e = ap (λ x. x || d) (f refl)
or_weaker false b c d f g e = or_right c d (g e)

-- lists of anything

module _ {X : Type 0} where
  filter_case : (p q : X → Bool) (b : Bool) (x : X) (xs : List X) (rest : Bool) → p x ≡ b → list_any q (filter p xs) ≡ rest → list_any q (cond b (x ∷ filter p xs) (filter p xs)) ≡ ((b && q x) || rest)
  filter_case p q true x xs rest is e = ap (λ b. q x || b) e
  filter_case p q false x xs rest is e = e

  -- one of those that pass passes where one passes both
  pub any_filter : (p q : X → Bool) (xs : List X) → list_any q (filter p xs) ≡ list_any (λ x. p x && q x) xs
  any_filter p q [] = refl
  any_filter p q (x ∷ xs) = filter_case p q (p x) x xs (list_any (λ x. p x && q x) xs) refl (any_filter p q xs)

  -- what each that passes gives, a list gives in which one passes
  pub any_gives : (P : Type 0) (p : X → Bool) (xs : List X) → list_any p xs ≡ true → ((x : X) → p x ≡ true → P) → P
  any_gives P p [] any each = cc
  any_gives P p (x ∷ xs) any each = by_either (p x) (list_any p xs) any (each x) (λ there. any_gives P p xs there each)

  pub any_weaker : (p q : X → Bool) (xs : List X) → ((x : X) → p x ≡ true → q x ≡ true) → list_any p xs ≡ true → list_any q xs ≡ true
  any_weaker p q [] each any = any
  any_weaker p q (x ∷ xs) each any = or_weaker (p x) (list_any p xs) (q x) (list_any q xs) (each x) (any_weaker p q xs each) any
