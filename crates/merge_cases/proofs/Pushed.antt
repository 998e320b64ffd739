-- A key put behind others.
use Rattle.std.proofs.Common.{◌≡◌, ◌<◌, ◌&&◌, ◌||◌, Bool, true, false, not, ℕ, List, [], ◌∷◌, ◌++◌, length, nat_lt, refl, sym, subst, ◌∙◌, ap}
use Rattle.std.specs.Prelude.{T}
use Rattle.std.specs.Bool.{MatchBool, passes}
use Rattle.std.specs.Cmp.Lexicographic.{nat_list_eq_equiv}
use Rattle.std.specs.List.{list_any}
use Rattle.std.proofs.lemmas.Bool.{true≢false, lt-ltb, or_parts}
use Rattle.std.proofs.lemmas.List.Folds.{list_any-append}
use Rattle.std.specs.List.Sorted.{IsPermutation}
use Rattle.std.proofs.lemmas.List.Sorted.{list_any-IsPermutation}
use Rattle.osm_base.specs.Same.{same_text}
use Rattle.osm_base.proofs.SameLaws.{same_text_decides}
use Rattle.osm_base.proofs.Tests.{both_T, first_T, second_T}
use Rattle.merge_cases.specs.Keys.{is_listed, are_tag_keys}

turned : (a b : List ℕ) → same_text a b ≡ false → same_text b a ≡ false
turned a b e = by (same_text b a) refl
  where
    by : (c : Bool) → same_text b a ≡ c → same_text b a ≡ false
    by true g = absurd (true≢false (sym ((same_text_decides a b).1 (sym ((same_text_decides b a).0 g))) ∙ e))
    by false g = g

-- a key that isn't among others isn't among them with one more that is unlike
still : (keys : List (List ℕ)) (x key : List ℕ) → T (not (is_listed keys x)) → same_text key x ≡ false → T (not (is_listed (keys ++ key ∷ []) x))
still keys x key h e = by (is_listed keys x) refl h
  where
    by : (b : Bool) → is_listed keys x ≡ b → T (not b) → T (not (is_listed (keys ++ key ∷ []) x))
    by true g t = absurd t
    by false g t = passes (not (is_listed (keys ++ key ∷ []) x)) (ap not (list_any-append (λ listed. same_text listed x) keys (key ∷ []) ∙ (λ i. g i || (e i || false))))

keys_added : (key : List ℕ) (keys : List (List ℕ)) → T (nat_lt 0 (length key)) → is_listed keys key ≡ false → T (are_tag_keys keys) → T (are_tag_keys (keys ++ key ∷ []))
keys_added key [] n out h = both_T (nat_lt 0 (length key)) true n tt
keys_added key (x ∷ xs) n out h =
    let o = or_parts (same_text x key) (is_listed xs key) out in
    both_T (nat_lt 0 (length x)) (not (is_listed (xs ++ key ∷ []) x) && are_tag_keys (xs ++ key ∷ [])) (first_T (nat_lt 0 (length x)) _ h)
    (both_T (not (is_listed (xs ++ key ∷ []) x)) (are_tag_keys (xs ++ key ∷ []))
    (still xs x key (first_T (not (is_listed xs x)) _ (second_T (nat_lt 0 (length x)) _ h)) (turned x key o.0))
    (keys_added key xs n o.1 (second_T (not (is_listed xs x)) _ (second_T (nat_lt 0 (length x)) _ h))))

-- a key that isn't among others, put behind them
pub pushed : (key : List ℕ) (keys : List (List ℕ)) → 0 < length key → is_listed keys key ≡ false → T (are_tag_keys keys) → T (are_tag_keys (keys ++ key ∷ []))
pushed key keys n out h = keys_added key keys (passes (nat_lt 0 (length key)) (lt-ltb 0 (length key) n)) out h

either : (a b : Bool) → (a || b) ≡ (b || (a || false))
either true true = refl
either true false = refl
either false true = refl
either false false = refl

-- and put into what finds them by their bytes
pub found_too : {X : Type 0} (bytes : X → List ℕ) (keys : List (List ℕ)) (old new : List X) (x : X) (key : List ℕ) (added : Bool)
    → ((q : List ℕ) → list_any (λ y. same_text q (bytes y)) old ≡ is_listed keys q) → bytes x ≡ key → is_listed keys key ≡ false
    → added ≡ not (list_any (λ y. same_text (bytes x) (bytes y)) old) → MatchBool added (IsPermutation (x ∷ old) new) (new ≡ old)
    → (q : List ℕ) → list_any (λ y. same_text q (bytes y)) new ≡ is_listed (keys ++ key ∷ []) q
found_too bytes keys old new x key added finds is out new_there puts q =
    let there : added ≡ true = new_there ∙ ap not (finds (bytes x) ∙ ap (is_listed keys) is ∙ out) in
    let one_more : IsPermutation (x ∷ old) new = subst (λ b. MatchBool b (IsPermutation (x ∷ old) new) (new ≡ old)) there puts in
    sym (list_any-IsPermutation (λ y. same_text q (bytes y)) (x ∷ old) new one_more)
    ∙ (λ i. same_text q (is i) || finds q i)
    ∙ either (same_text q key) (is_listed keys q)
    ∙ ap (λ b. is_listed keys q || (b || false)) (nat_list_eq_equiv.symm q key)
    ∙ sym (list_any-append (λ listed. same_text listed q) keys (key ∷ []))
