-- How many have a verb.
use Rattle.std.proofs.Common.{◌≡◌, ℕ, zero, suc, ◌+◌, ◌≤◌, ◌<◌, Bool, true, false, List, [], ◌∷◌, ◌++◌, length, take, map, get_or, None, Some, refl, sym, ap, ◌∙◌, subst, arith, ◌⊎◌, inl, inr}
use Rattle.std.specs.Prelude.{nat_le}
use Rattle.std.proofs.lemmas.Bool.Decides.{nat_tests}
use Rattle.std.proofs.Math.Nat.{eq-or-lt_of_le}
use Rattle.std.proofs.lemmas.List.{take_more, take_all, get_or-map, get_or_append_left, get_or_push, length-map, length_push, map-append}
use Rattle.tool_api.specs.declared.verb.Verb.{Verb}
use Rattle.tool_api.specs.Plain.{same_verb}
use Rattle.tool_api.proofs.SameVerb.{same_is}
use Rattle.edit_history.specs.Shown.{IsThere}
use Rattle.edit_steps.specs.Dealt.{AreDealt}
use Rattle.edit_steps.specs.Needs.{count_verb, lacks}

-- one that has the verb, or not
abbrev pub has : Verb → Verb → ℕ
has v u = count_verb (v ∷ []) u

count_first : (v u : Verb) (vs : List Verb) (same : Bool) → same_verb u v ≡ same → count_verb (v ∷ vs) u ≡ has v u + count_verb vs u
count_first v u vs true is = rw is (omega arith)
count_first v u vs false is = rw is (omega arith)

-- and one more
pub count-more : (vs : List Verb) (v u : Verb) → count_verb (vs ++ v ∷ []) u ≡ count_verb vs u + has v u
count-more [] v u = omega arith
count-more (w ∷ vs) v u =
    let first = count_first w u (vs ++ v ∷ []) (same_verb u w) refl in
    let rest = count_first w u vs (same_verb u w) refl in
    omega (arith, first, rest, count-more vs v u)

-- one at most
has_most : (v u : Verb) (same : Bool) → same_verb u v ≡ same → has v u ≤ 1
has_most v u true is = rw is (omega arith)
has_most v u false is = rw is (omega arith)

pub has_one : (v u : Verb) → has v u ≤ 1
has_one v u = has_most v u (same_verb u v) refl

has_same : (v u : Verb) (same : Bool) → same_verb u v ≡ same → 1 ≤ has v u → u ≡ v
has_same v u true is some = same_is u v is
has_same v u false is some = absurd (let none : has v u ≡ 0 = rw is refl in omega (arith, some, none))

pub has_is : (v u : Verb) → 1 ≤ has v u → u ≡ v
has_is v u some = has_same v u (same_verb u v) refl some

there_at : (w u : Verb) (vs : List Verb) (same : Bool) → same_verb u w ≡ same → 1 ≤ count_verb (w ∷ vs) u → (1 ≤ count_verb vs u → IsThere u vs) → IsThere u (w ∷ vs)
there_at w u vs true is some on = (0, ap Some (sym (same_is u w is)))
there_at w u vs false is some on = let later = on (omega (arith, some, count_first w u vs (same_verb u w) refl, let none : has w u ≡ 0 = rw is refl in none)) in (suc later.0, later.1)

-- a verb that some have is there
pub counted_there : (vs : List Verb) (u : Verb) → 1 ≤ count_verb vs u → IsThere u vs
counted_there [] u some = absurd (omega arith)
counted_there (w ∷ vs) u some = there_at w u vs (same_verb u w) refl some (counted_there vs u)

-- No verb is lacking where as many have it.
lacks_by : (vs : List Verb) (n : ℕ) (u : Verb) (enough : Bool) → nat_le n (count_verb vs u) ≡ enough → lacks vs n (Some u) ≡ None → n ≤ count_verb vs u
lacks_by vs n u true is none = grind (arith, nat_tests)
lacks_by vs n u false is none = absurd (let some : lacks vs n (Some u) ≡ Some u = rw is refl in cc)

pub enough : (vs : List Verb) (n : ℕ) (u : Verb) → lacks vs n (Some u) ≡ None → n ≤ count_verb vs u
enough vs n u none = lacks_by vs n u (nat_le n (count_verb vs u)) refl none

-- one step on in a list of boxes
pub count_on : {X : Type 0} (f : X → Verb) (xs : List X) (i : ℕ) (x : X) (u : Verb) → i < length xs → x ≡ get_or xs i x → count_verb (take (i + 1) (map f xs)) u ≡ count_verb (take i (map f xs)) u + has (f x) u
count_on f xs i x u h e =
    ap (λ vs. count_verb vs u) (take_more (map f xs) i (f x) (omega (arith, h, length-map xs f)))
    ∙ ap (λ v. count_verb (take i (map f xs) ++ v ∷ []) u) (get_or-map f xs i x (f x) h ∙ ap f (sym e))
    ∙ count-more (take i (map f xs)) (f x) u

-- Boxes are dealt one by one.
pub dealt_none : AreDealt [] [] []
dealt_none = record { counts = λ u. refl; most = λ u. omega arith; first = λ u some. some }

pub dealt_own : (verbs own others more : List Verb) (v : Verb) → more ≡ own ++ v ∷ [] → count_verb own v ≡ 0 → AreDealt verbs own others → AreDealt (verbs ++ v ∷ []) more others
dealt_own verbs own others more v is none dealt = record {
  counts = λ u. omega (arith, dealt.counts u, count-more verbs v u, count-more own v u, ap (λ vs. count_verb vs u) is);
  most = λ u. most_by u (has v u) refl;
  first = λ u some. omega (arith, dealt.first u some, count-more own v u, ap (λ vs. count_verb vs u) is);
}
  where
    most_by : (u : Verb) (n : ℕ) → has v u ≡ n → count_verb more u ≤ 1
    most_by u zero e = omega (arith, e, dealt.most u, count-more own v u, ap (λ vs. count_verb vs u) is)
    most_by u (suc n) e =
        let same : u ≡ v = has_is v u (omega (arith, e)) in
        omega (arith, has_one v u, ap (count_verb own) same, none, count-more own v u, ap (λ vs. count_verb vs u) is)

pub dealt_others : (verbs own others more : List Verb) (v : Verb) → more ≡ others ++ v ∷ [] → 1 ≤ count_verb own v → AreDealt verbs own others → AreDealt (verbs ++ v ∷ []) own more
dealt_others verbs own others more v is some dealt = record {
  counts = λ u. omega (arith, dealt.counts u, count-more verbs v u, count-more others v u, ap (λ vs. count_verb vs u) is);
  most = dealt.most;
  first = λ u there. first_by u there (has v u) refl;
}
  where
    first_by : (u : Verb) → 1 ≤ count_verb more u → (n : ℕ) → has v u ≡ n → 1 ≤ count_verb own u
    first_by u there zero e = dealt.first u (omega (arith, e, there, count-more others v u, ap (λ vs. count_verb vs u) is))
    first_by u there (suc n) e =
        let same : u ≡ v = has_is v u (omega (arith, e)) in
        omega (arith, ap (count_verb own) same, some)

-- what is kept at a place of a list
pub none_picked : {X Y : Type 0} (f : X → List Y) (xs : List X) (i : ℕ) (x : X) → i < length xs → x ≡ get_or xs i x → ((b : ℕ) → get_or (map f xs) b [] ≡ []) → f x ≡ []
none_picked f xs i x h e keeps = ap f e ∙ sym (get_or-map f xs i x [] h) ∙ keeps i

-- one more was dealt
pub deal_on : {X : Type 0} (f : X → Verb) (xs ys : List X) (i : ℕ) (x : X) (own others : List Verb) → i < length xs → x ≡ get_or xs i x → length ys ≡ i + 1 → AreDealt (take i (map f xs) ++ f x ∷ []) own others → AreDealt (take (length ys) (map f xs)) own others
deal_on f xs ys i x own others h e n dealt =
    let more : take (length ys) (map f xs) ≡ take i (map f xs) ++ f x ∷ [] =
    ap (λ k. take k (map f xs)) n ∙ take_more (map f xs) i (f x) (omega (arith, h, length-map xs f)) ∙ ap (λ v. take i (map f xs) ++ v ∷ []) (get_or-map f xs i x (f x) h ∙ ap f (sym e)) in
    subst (λ vs. AreDealt vs own others) (sym more) dealt

pub deal_end : {X : Type 0} (f : X → Verb) (xs ys : List X) (own others : List Verb) → length ys ≡ length xs → AreDealt (take (length ys) (map f xs)) own others → AreDealt (map f xs) own others
deal_end f xs ys own others n dealt = subst (λ vs. AreDealt vs own others) (take_all (length ys) (map f xs) (omega (arith, n, length-map xs f))) dealt

map_push : {X : Type 0} (f : X → Verb) (xs more : List X) (x : X) → more ≡ xs ++ x ∷ [] → map f more ≡ map f xs ++ f x ∷ []
map_push f xs more x is = ap (map f) is ∙ map-append f xs (x ∷ [])

-- one that has no box of the verb gets it,
pub box_own : {X : Type 0} (f : X → Verb) (own more others : List X) (x : X) → more ≡ own ++ x ∷ [] → count_verb (map f own) (f x) ≡ 0 → (verbs : List Verb) → AreDealt verbs (map f own) (map f others) → AreDealt (verbs ++ f x ∷ []) (map f more) (map f others)
box_own f own more others x is none verbs dealt = dealt_own verbs (map f own) (map f others) (map f more) (f x) (map_push f own more x is) none dealt

-- and else it is left
pub box_left : {X : Type 0} (f : X → Verb) (own more others : List X) (x : X) → more ≡ others ++ x ∷ [] → 1 ≤ count_verb (map f own) (f x) → (verbs : List Verb) → AreDealt verbs (map f own) (map f others) → AreDealt (verbs ++ f x ∷ []) (map f own) (map f more)
box_left f own more others x is some verbs dealt = dealt_others verbs (map f own) (map f others) (map f more) (f x) (map_push f others more x is) some dealt

pub count_step : {X : Type 0} (f : X → Verb) (xs : List X) (i : ℕ) (x : X) (u : Verb) (n m : ℕ) → i < length xs → x ≡ get_or xs i x → n ≡ count_verb (take i (map f xs)) u → m ≡ has (f x) u → n + m ≡ count_verb (take (i + 1) (map f xs)) u
count_step f xs i x u n m h e before one = omega (arith, before, one, count_on f xs i x u h e)

pub counted_none : {X : Type 0} (f : X → Verb) (xs : List X) (n : ℕ) (v w : Verb) → n ≡ count_verb (map f xs) v → v ≡ w → n ≡ 0 → count_verb (map f xs) w ≡ 0
counted_none f xs n v w is same none = ap (count_verb (map f xs)) (sym same) ∙ sym is ∙ none

pub counted_some : {X : Type 0} (f : X → Verb) (xs : List X) (n : ℕ) (v w : Verb) → n ≡ count_verb (map f xs) v → v ≡ w → (n ≡ 0 → ⊥) → 1 ≤ count_verb (map f xs) w
counted_some f xs n v w is same some = some_by n (is ∙ ap (count_verb (map f xs)) same) some where
  some_by : (k : ℕ) → k ≡ count_verb (map f xs) w → (k ≡ 0 → ⊥) → 1 ≤ count_verb (map f xs) w
  some_by zero e never = absurd (never refl)
  some_by (suc k) e never = omega (arith, e)

-- So many editors have boxes, and these are left.
pub record Gathered (verbs others : List Verb) (met : List (List Verb)) (i : ℕ) : Type 0 where
  pub count : length met ≡ i
  pub boxes : (n : ℕ) (verb : Verb) → n < i → n + 1 ≤ count_verb verbs verb → IsThere verb (get_or met n [])
  pub left : (verb : Verb) → count_verb verbs verb ≤ count_verb others verb + i

pub gathered_on : (verbs left own others : List Verb) (met more : List (List Verb)) (i : ℕ) → more ≡ met ++ own ∷ [] → AreDealt left own others → Gathered verbs left met i → Gathered verbs others more (i + 1)
gathered_on verbs left own others met more i is dealt before = record {
  count = ap length is ∙ length_push met own ∙ ap (λ n. n + 1) before.count;
  boxes = λ n verb h some. subst (λ vs. IsThere verb (get_or vs n [])) (sym is) (boxes_by n verb some (eq-or-lt_of_le {n = n} {m = i} (omega (arith, h))));
  left = λ verb. omega (arith, before.left verb, dealt.counts verb, dealt.most verb);
}
  where
    some_own : (verb : Verb) → i + 1 ≤ count_verb verbs verb → (n : ℕ) → count_verb own verb ≡ n → 1 ≤ count_verb own verb
    some_own verb some zero e = dealt.first verb (omega (arith, e, some, before.left verb, dealt.counts verb))
    some_own verb some (suc n) e = omega (arith, e)

    boxes_by : (n : ℕ) (verb : Verb) → n + 1 ≤ count_verb verbs verb → (n ≡ i) ⊎ (n < i) → IsThere verb (get_or (met ++ own ∷ []) n [])
    boxes_by n verb some (inl e) =
        subst (IsThere verb) (sym (get_or_push met own [] n (before.count ∙ sym e))) (counted_there own verb (some_own verb (omega (arith, some, e)) (count_verb own verb) refl))
    boxes_by n verb some (inr h) = subst (IsThere verb) (sym (get_or_append_left met (own ∷ []) [] n (omega (arith, h, before.count)))) (before.boxes n verb h some)

pub gathered_first : (verbs : List Verb) (met : List (List Verb)) → met ≡ [] → Gathered verbs verbs met 0
gathered_first verbs met none = subst (λ vs. Gathered verbs verbs vs 0) (sym none) (record { count = refl; boxes = λ n verb h some. absurd (omega (arith, h)); left = λ verb. omega arith })
