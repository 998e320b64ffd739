-- One key more of a pass that appends.
use Rattle.std.proofs.Common.{length, ◌≡◌, ◌↔◌, ◌||◌, ℕ, zero, suc, true, false, List, [], ◌∷◌, ◌++◌, take, slice_get, Some, sym, refl, ap, subst, ◌∙◌, append_assoc, Bool, filter}
use Rattle.std.specs.Prelude.{Result, Ok, Err, IfOk}
use Rattle.std.specs.List.{flat_map}
use Rattle.std.proofs.lemmas.Grind.{flat_map-append}
use Rattle.std.proofs.lemmas.List.Elements.{filter-append}
use Rattle.std.proofs.lemmas.List.Folds.{list_any-append}
use Rattle.osm_base.specs.Rank.{is_key}
use Rattle.osm_base.specs.declared.key.Key.{Key}
use Rattle.osm_table.specs.Table.{TableValue}
use Rattle.osm_table.specs.Told.{ToldEntries}
use Rattle.closure.specs.Closure.{has, Chain}
use Rattle.merge_tool.specs.Passes.{held_starts}

append_none : (xs : List Key) → xs ++ [] ≡ xs
append_none [] = refl
append_none (x ∷ xs) = ap (λ ys. x ∷ ys) (append_none xs)

-- one item more of a list
pub taken_more : {X : Type 0} (xs : List X) (i : ℕ) (x : X) → slice_get xs i ≡ Some x → take (suc i) xs ≡ take i xs ++ x ∷ []
taken_more [] i x e = cc
taken_more (y ∷ ys) zero x e = let same : y ≡ x = cc in ap (λ z. z ∷ []) same
taken_more (y ∷ ys) (suc i) x e = ap (λ zs. y ∷ zs) (taken_more ys i x e)

whole : {X : Type 0} (xs : List X) → take (length xs) xs ≡ xs
whole [] = refl
whole (x ∷ xs) = ap (λ ys. x ∷ ys) (whole xs)

-- all items of a list
pub taken_all : {X : Type 0} (xs : List X) (n : ℕ) → n ≡ length xs → take n xs ≡ xs
taken_all xs n e = ap (λ m. take m xs) e ∙ whole xs

last : (b : Bool) → (b || false) ≡ b
last true = refl
last false = refl

pub has_more : (ks : List Key) (k q : Key) → has is_key (ks ++ k ∷ []) q ≡ (has is_key ks q || is_key q k)
has_more ks k q = list_any-append (is_key q) ks (k ∷ []) ∙ ap (λ b. has is_key ks q || b) (last (is_key q k))

-- one key more is among those that are done
pub has_taken : (ks : List Key) (i : ℕ) (k q : Key) → slice_get ks i ≡ Some k → has is_key (take (suc i) ks) q ≡ (has is_key (take i ks) q || is_key q k)
has_taken ks i k q at = ap (λ (js : List Key). has is_key js q) (taken_more ks i k at) ∙ has_more (take i ks) k q

pub flat_more : (f : Key → List Key) (ks first before new : List Key) (i : ℕ) (k : Key) → before ≡ first ++ flat_map f (take i ks) → slice_get ks i ≡ Some k → new ≡ before ++ f k → new ≡ first ++ flat_map f (take (suc i) ks)
flat_more f ks first before new i k so_far at step =
    step ∙ ap (λ (l : List Key). l ++ f k) so_far ∙ append_assoc first (flat_map f (take i ks)) (f k)
    ∙ ap (λ (l : List Key). first ++ (flat_map f (take i ks) ++ l)) (sym (append_none (f k)))
    ∙ sym (ap (λ (l : List Key). first ++ l) (ap (flat_map f) (taken_more ks i k at) ∙ flat_map-append f (take i ks) (k ∷ [])))

pub filter_more : (p : Key → Bool) (ks first before new : List Key) (i : ℕ) (k : Key) → before ≡ first ++ filter p (take i ks) → slice_get ks i ≡ Some k → new ≡ before ++ filter p (k ∷ []) → new ≡ first ++ filter p (take (suc i) ks)
filter_more p ks first before new i k so_far at step =
    step ∙ ap (λ (l : List Key). l ++ filter p (k ∷ [])) so_far ∙ append_assoc first (filter p (take i ks)) (filter p (k ∷ []))
    ∙ sym (ap (λ (l : List Key). first ++ l) (ap (filter p) (taken_more ks i k at) ∙ filter-append p (take i ks) (k ∷ [])))

-- nothing is among none
pub filter_none : (ks : List Key) → filter (has is_key []) ks ≡ []
filter_none [] = refl
filter_none (k ∷ ks) = filter_none ks

-- a walk from a list is one from an equal list
pub same_starts : {R E : Type 0} (xs ys : List Key) (next : Key → List Key) (keys : R → List Key) (r : Result R E) → xs ≡ ys
    → IfOk r (λ marks. (k : Key) → (has is_key (keys marks) k ≡ true) ↔ Chain (has is_key xs) (λ j. has is_key (next j)) k)
    → IfOk r (λ marks. (k : Key) → (has is_key (keys marks) k ≡ true) ↔ Chain (has is_key ys) (λ j. has is_key (next j)) k)
same_starts xs ys next keys r e h = subst (λ (l : List Key). IfOk r (λ marks. (k : Key) → (has is_key (keys marks) k ≡ true) ↔ Chain (has is_key l) (λ j. has is_key (next j)) k)) e h

pub if_ok : {A E : Type 0} (P Q : A → Type 0) (r : Result A E) → ((a : A) → P a → Q a) → IfOk r P → IfOk r Q
if_ok P Q (Ok a) f h = f a h
if_ok P Q (Err e) f h = h

empty : (ks : List Key) → length ks ≡ 0 → ks ≡ []
empty [] e = refl
empty (k ∷ ks) e = cc

-- no candidate, no start
pub none_start : (t : TableValue) (m : ToldEntries) (candidates names late new : List Key) → new ≡ [] → length candidates ≡ 0 → new ≡ held_starts t m candidates names late
none_start t m candidates names late new is none =
    is ∙ sym (ap (λ (ks : List Key). held_starts t m ks names late) (empty candidates none) ∙ ap (λ (ks : List Key). (ks ++ filter (has is_key []) late) ++ []) (filter_none names) ∙ ap (λ (ks : List Key). ks ++ []) (filter_none late))
