-- Maps by rank: one that has all of another, and no more entries, is that one.
use Rattle.std.proofs.Common.{◌≡◌, ◌≢◌, ℕ, zero, suc, ◌≤◌, ◌-◌, Bool, true, false, cond, is_some, Option, Some, None, List, [], ◌∷◌, length, refl, sym, ◌∙◌, ap, arith}
use Rattle.std.specs.Cmp.{eq_by_cmp_equiv}
use Rattle.std.specs.List.{AllByRecursion, IsDistinct}
use Rattle.std.specs.Map.{keys_of}
use Rattle.std.specs.Ordering.{is_lt}
use Rattle.std.specs.Prelude.{T}
use Rattle.std.specs.FinMap as fin
use Rattle.std.specs.FinMap.Entries.{below_all, is_sorted}
use Rattle.std.proofs.lemmas.List.{length-map}
use Rattle.std.proofs.lemmas.Map.Made.{length-le_from_is_member}
use Rattle.osm_base.specs.declared.key.Key.{Key}
use Rattle.osm_base.specs.Rank.{rank_cmp, is_key}
use Rattle.osm_base.specs.RankLaws.{rank_total, rank_exact}
use Rattle.osm_base.specs.RisingKeys.{is_in}
use Rattle.osm_base.proofs.RisingKeys.{one_key}
use Rattle.osm_base.proofs.Tests.{first_T, second_T, no_tie}

apart : {V : Type 0} (k : Key) (es : List (Key × V)) → T (below_all rank_cmp k es) → AllByRecursion (λ y. is_key k y ≡ false) (keys_of es)
apart k [] h = tt
apart k (e ∷ es) h = (no_tie (rank_cmp k e.0) (first_T (is_lt (rank_cmp k e.0)) _ h), apart k es (second_T (is_lt (rank_cmp k e.0)) _ h))

-- no two keys of sorted entries are one
pub distinct_keys : {V : Type 0} (es : List (Key × V)) → T (is_sorted rank_cmp es) → IsDistinct is_key (keys_of es)
unfolding IsDistinct
distinct_keys [] h = tt
distinct_keys (e ∷ es) h = (apart e.0 es (first_T (below_all rank_cmp e.0 es) _ h), distinct_keys es (second_T (below_all rank_cmp e.0 es) _ h))

none_or_more : (len rest : ℕ) → rest ≡ len - 1 → len ≢ 0 → len ≤ rest → ⊥
none_or_more zero rest e some h = some refl
none_or_more (suc n) rest e some h = omega (arith, e, h)

module _ {V : Type 0} where
  len_keys : (m : fin.FinMap rank_cmp V) → fin.len m ≡ length (fin.keys m)
  len_keys m = fin.len-entries m ∙ sym (length-map (fin.entries m) (λ (e : Key × V). e.0))

  -- a map whose keys another has too has no more
  fewer_keys : (m n : fin.FinMap rank_cmp V) → ((q : Key) → is_in q (fin.keys m) ≡ true → is_in q (fin.keys n) ≡ true) → fin.len m ≤ fin.len n
  fewer_keys m n within =
      let few = length-le_from_is_member (eq_by_cmp_equiv rank_total) (fin.keys m) (fin.keys n) (distinct_keys (fin.entries m) (fin.entries_sorted m)) within in
      let a = len_keys m in
      let b = len_keys n in
      omega (arith, few, a, b)

  left_case : (b : Bool) (o : Option V) → b ≡ false → is_some o ≡ true → is_some (cond b None o) ≡ true
  left_case true o e h = cc
  left_case false o e h = h

  same_case : (m n : fin.FinMap rank_cmp V) (q : Key) (o p : Option V) → fin.get m q ≡ o → fin.get n q ≡ p → ((v : V) → o ≡ Some v → p ≡ Some v) → (o ≡ None → (w : V) → p ≡ Some w → ⊥) → o ≡ p
  same_case m n q None None e f has not_more = refl
  same_case m n q None (Some w) e f has not_more = absurd (not_more refl w refl)
  same_case m n q (Some v) p e f has not_more = sym (has v refl)

  -- the key of an entry that only the second has would make it larger
  no_more : (m n : fin.FinMap rank_cmp V) → ((q : Key) (v : V) → fin.get m q ≡ Some v → fin.get n q ≡ Some v) → fin.len m ≡ fin.len n → (q : Key) (w : V) → fin.get m q ≡ None → fin.get n q ≡ Some w → ⊥
  no_more m n has len q w none some =
      let there : fin.contains_key n q ≡ true = ap is_some some in
      let rest : fin.len (fin.remove n q) ≡ fin.len n - 1 = fin.len-remove rank_total n q ∙ ap (λ b. cond b (fin.len n - 1) (fin.len n)) there in
      let few = fewer_keys m (fin.remove n q) (λ p h. sym (fin.contains_key-keys (fin.remove n q) p) ∙ ap is_some (fin.get-remove rank_total n q p) ∙ left p (fin.contains_key-keys m p ∙ h)) in
      none_or_more (fin.len n) (fin.len (fin.remove n q)) rest (λ z. let f : is_some (fin.get n q) ≡ false = ap (λ (x : fin.FinMap rank_cmp V). is_some (fin.get x q)) (fin.empty_of_len n z) ∙ ap is_some (fin.get-empty rank_cmp q) in let g : true ≡ false = sym there ∙ f in cc) (omega (arith, few, len))
    where
      in_both : (p : Key) (o : Option V) → fin.get m p ≡ o → is_some o ≡ true → is_some (fin.get n p) ≡ true
      in_both p None e h = let f : false ≡ true = h in cc
      in_both p (Some v) e h = ap is_some (has p v e)

      other : (p : Key) (b : Bool) → is_key p q ≡ b → is_some (fin.get m p) ≡ true → b ≡ false
      other p true e h = let f : is_some (fin.get m p) ≡ false = ap is_some (ap (fin.get m) (one_key p q e) ∙ none) in let g : true ≡ false = sym h ∙ f in cc
      other p false e h = refl

      left : (p : Key) → is_some (fin.get m p) ≡ true → is_some (cond (is_key p q) None (fin.get n p)) ≡ true
      left p h = left_case (is_key p q) (fin.get n p) (other p (is_key p q) refl h) (in_both p (fin.get m p) refl h)

  pub covers : (m n : fin.FinMap rank_cmp V) → ((q : Key) (v : V) → fin.get m q ≡ Some v → fin.get n q ≡ Some v) → fin.len m ≡ fin.len n → m ≡ n
  covers m n has len = fin.same_map rank_total rank_exact m n (λ q. same_case m n q (fin.get m q) (fin.get n q) refl refl (has q) (λ none w. no_more m n has len q w none))
