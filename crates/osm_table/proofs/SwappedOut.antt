-- Keys and entries, with the last in the place of one that is taken out.
use Rattle.std.proofs.Common.{◌≡◌, ℕ, ◌+◌, ◌-◌, ◌<◌, Bool, true, false, cond, List, ◌∷◌, length, set, get_or, Option, Some, None, refl, sym, ◌∙◌, ap, arith, subst}
use Rattle.std.specs.List.{zip, swap_remove, IsDistinct}
use Rattle.std.specs.List.Sorted.{IsPermutation}
use Rattle.std.specs.Map.{lookup}
use Rattle.std.specs.Prelude.{slice_get, IsSome}
use Rattle.std.proofs.lemmas.List.{get_or-take, get_or-set_same, get_or-set_other, length-set, length-take-le}
use Rattle.std.proofs.lemmas.List.Sorted.{IsPermutation-swap_remove, list_any-IsPermutation}
use Rattle.std.proofs.lemmas.Map.Keys.{IsDistinct-IsPermutation, IsDistinct-head, IsDistinct-tail, apart_from_distinct}
use Rattle.std.proofs.lemmas.Option.{same_Some, slice_get_read, slice_get-get_or, slice_get_within, get_or_from_slice_get}
use Rattle.osm_base.specs.KeyEq.{eq}
use Rattle.osm_base.specs.Rank.{is_key}
use Rattle.osm_base.specs.RankLaws.{eq_decides}
use Rattle.osm_base.specs.RisingKeys.{is_in}
use Rattle.osm_base.specs.declared.key.Key.{Key}
use Rattle.osm_base.proofs.ByRank.{eq_turned}
use Rattle.osm_table.specs.InOrder.{IsPlace}
use Rattle.osm_table.specs.declared.entry.Entry.{Entry}
use Rattle.osm_table.proofs.OrderLaws.{found_at, found_nowhere, neither}
use Rattle.osm_table.proofs.PlaceLaws.{in_at}
use Rattle.osm_table.proofs.TakenOut.{none_among}

pub length_swapped : {X : Type 0} (xs : List X) (i : ℕ) (d : X) → length (swap_remove xs i d) ≡ length xs - 1
length_swapped xs i d =
    let same = length-set xs i (get_or xs (length xs - 1) d) in
    length-take-le (length xs - 1) (set xs i (get_or xs (length xs - 1) d)) (omega (arith, same))

-- the last comes to the place
last_there : {X : Type 0} (xs : List X) (i : ℕ) (d : X) → i + 1 < length xs → slice_get (swap_remove xs i d) i ≡ slice_get xs (length xs - 1)
last_there xs i d l =
    let last = get_or xs (length xs - 1) d in
    slice_get-get_or (swap_remove xs i d) i d (omega (arith, l, length_swapped xs i d))
    ∙ ap Some (get_or-take (length xs - 1) (set xs i last) i d (omega (arith, l)) ∙ get_or-set_same xs i last d (omega (arith, l)))
    ∙ sym (slice_get-get_or xs (length xs - 1) d (omega (arith, l)))

-- and the others stay
stays : {X : Type 0} (xs : List X) (i j : ℕ) (d : X) → (j ≡ i → ⊥) → j + 1 < length xs → slice_get (swap_remove xs i d) j ≡ slice_get xs j
stays xs i j d other l =
    let last = get_or xs (length xs - 1) d in
    slice_get-get_or (swap_remove xs i d) j d (omega (arith, l, length_swapped xs i d))
    ∙ ap Some (get_or-take (length xs - 1) (set xs i last) j d (omega (arith, l)) ∙ get_or-set_other xs i j last d other)
    ∙ sym (slice_get-get_or xs j d (omega (arith, l)))

never : {A : Type 0} (j k : Key) → j ≡ k → eq j k ≡ false → A
never j k same apart = let no : true ≡ false = sym ((eq_decides j k).1 same) ∙ apart in absurd (let h : ⊥ = cc in h)

module _ (ks : List Key) (i : ℕ) (k : Key) (h : IsDistinct eq ks) (at : slice_get ks i ≡ Some k) where
  all : IsPermutation ks (k ∷ swap_remove ks i k)
  all = IsPermutation-swap_remove ks i k (slice_get_within ks i k at) (sym (get_or_from_slice_get ks i k k at))

  all_distinct : IsDistinct eq (k ∷ swap_remove ks i k)
  all_distinct = IsDistinct-IsPermutation eq eq_turned ks (k ∷ swap_remove ks i k) all h

  pub distinct_swapped : IsDistinct eq (swap_remove ks i k)
  distinct_swapped = IsDistinct-tail eq k (swap_remove ks i k) all_distinct

  never_one : i + 1 < length ks → slice_get ks (length ks - 1) ≡ Some k → ⊥
  never_one more end =
      let apart = apart_from_distinct eq ks i (length ks - 1) k h (omega (arith, more)) (omega (arith, more)) in
      never k k refl ((λ j. eq (sym (get_or_from_slice_get ks i k k at) j) (sym (get_or_from_slice_get ks (length ks - 1) k k end) j)) ∙ apart)

  gone : is_in k (swap_remove ks i k) ≡ false
  gone = none_among k (swap_remove ks i k) (IsDistinct-head eq k (swap_remove ks i k) all_distinct)

  fewer : (q : Key) → is_in q ks ≡ false → is_in q (swap_remove ks i k) ≡ false
  fewer q none = (neither (is_key q k) (is_in q (swap_remove ks i k)) (sym (list_any-IsPermutation (is_key q) ks (k ∷ swap_remove ks i k) all) ∙ none)).1

  elsewhere : (q : Key) (j : ℕ) → eq k q ≡ false → slice_get ks j ≡ Some q → j ≡ i → ⊥
  elsewhere q j apart here same = never k q (same_Some k q (sym at ∙ ap (λ n. slice_get ks n) (sym same) ∙ here)) apart

  not_last : (j : ℕ) (l q : Key) → slice_get ks (length ks - 1) ≡ Some l → eq l q ≡ false → slice_get ks j ≡ Some q → j + 1 < length ks
  not_last j l q last aside here =
      let within = slice_get_within ks j q here in
      let apart : j ≡ length ks - 1 → ⊥ = λ same. never l q (same_Some l q (sym last ∙ ap (λ n. slice_get ks n) (sym same) ∙ here)) aside in
      omega (arith, within, apart)

  -- the last is what stands there then
  pub last_has : (js : List Key) (l : Key) → js ≡ swap_remove ks i k → i + 1 < length ks → l ≡ get_or js i l → slice_get ks (length ks - 1) ≡ Some l
  last_has js l is more there =
      let long : length js ≡ length ks - 1 = ap (λ (xs : List Key). length xs) is ∙ length_swapped ks i k in
      sym (last_there ks i k more) ∙ ap (λ (xs : List Key). slice_get xs i) (sym is) ∙ slice_get_read js (length js) i l refl (omega (arith, more, long)) there

  has_step : (l : Key) (p kept : Option ℕ) (b : Bool) → eq k l ≡ b → i + 1 < length ks → slice_get ks (length ks - 1) ≡ Some l → IsPlace ks l p → kept ≡ cond b None p → IsSome kept
  has_step l p kept true from more last place is =
      let end = last ∙ ap Some (sym ((eq_decides k l).0 from)) in
      absurd (never_one more end)
  has_step l None kept false from more last place is = absurd (in_at ks l (length ks - 1) last place)
  has_step l (Some j) kept false from more last place is = subst (λ (o : Option ℕ). IsSome o) (sym is) refl

  -- and it still has a place
  pub still_has : (l : Key) (p kept : Option ℕ) → i + 1 < length ks → slice_get ks (length ks - 1) ≡ Some l → IsPlace ks l p → kept ≡ cond (eq k l) None p → IsSome kept
  still_has l p kept more last place is = has_step l p kept (eq k l) refl more last place is

  -- another key than the one taken out and the last
  other_place : (l q : Key) (p : Option ℕ) → slice_get ks (length ks - 1) ≡ Some l → eq k q ≡ false → eq l q ≡ false → IsPlace ks q p → IsPlace (swap_remove ks i k) q p
  other_place l q None last apart aside place = fewer q place
  other_place l q (Some j) last apart aside place =
      stays ks i j k (elsewhere q j apart place)
      (not_last j l q last aside place)
      ∙ place

  last_is : i + 1 ≡ length ks → length ks - 1 ≡ i
  last_is end = omega (arith, end)

  gone_at : (q : Key) → eq k q ≡ true → is_in q (swap_remove ks i k) ≡ false
  gone_at q one = ap (λ (j : Key). is_in j (swap_remove ks i k)) (sym ((eq_decides k q).0 one)) ∙ gone

  moved_step : (l q : Key) (p : Option ℕ) (b c : Bool) → eq l q ≡ b → eq k q ≡ c → i + 1 < length ks → slice_get ks (length ks - 1) ≡ Some l → IsPlace ks q p → IsPlace (swap_remove ks i k) q (cond b (Some i) (cond c None p))
  moved_step l q p true c to from more last place = last_there ks i k more ∙ last ∙ ap Some ((eq_decides l q).0 to)
  moved_step l q p false true to from more last place = gone_at q from
  moved_step l q p false false to from more last place = other_place l q p last from to place

  -- the last comes into the place of the one taken out
  pub place_moved : (l q : Key) (p : Option ℕ) → i + 1 < length ks → slice_get ks (length ks - 1) ≡ Some l → IsPlace ks q p → IsPlace (swap_remove ks i k) q (cond (eq l q) (Some i) (cond (eq k q) None p))
  place_moved l q p more last place = moved_step l q p (eq l q) (eq k q) refl refl more last place

  ended_step : (q : Key) (p : Option ℕ) (c : Bool) → eq k q ≡ c → i + 1 ≡ length ks → IsPlace ks q p → IsPlace (swap_remove ks i k) q (cond c None p)
  ended_step q p true from end place = gone_at q from
  ended_step q p false from end place = other_place k q p (ap (λ n. slice_get ks n) (last_is end) ∙ at) from from place

  -- which none does where it was the last
  pub place_ended : (q : Key) (p : Option ℕ) → i + 1 ≡ length ks → IsPlace ks q p → IsPlace (swap_remove ks i k) q (cond (eq k q) None p)
  place_ended q p end place = ended_step q p (eq k q) refl end place

  other_step : (es : List Entry) (e : Entry) (l q : Key) (p : Option ℕ) → length ks ≡ length es → slice_get ks (length ks - 1) ≡ Some l → eq k q ≡ false → eq l q ≡ false → IsPlace ks q p
      → lookup (eq q) (zip (swap_remove ks i k) (swap_remove es i e)) ≡ lookup (eq q) (zip ks es)
  other_step es e l q None len last from to place = found_nowhere (swap_remove ks i k) (swap_remove es i e) q (fewer q place) ∙ sym (found_nowhere ks es q place)
  other_step es e l q (Some j) len last from to place =
      found_at (swap_remove ks i k) (swap_remove es i e) j q distinct_swapped (other_place l q (Some j) last from to place)
      ∙ stays es i j e (elsewhere q j from place) (subst (λ n. j + 1 < n) len (not_last j l q last to place))
      ∙ sym (found_at ks es j q h place)

  found_step : (es : List Entry) (e : Entry) (l q : Key) (p : Option ℕ) (b c : Bool) → eq k q ≡ b → eq l q ≡ c → length ks ≡ length es → slice_get ks (length ks - 1) ≡ Some l → IsPlace ks q p
      → lookup (eq q) (zip (swap_remove ks i k) (swap_remove es i e)) ≡ cond b None (lookup (eq q) (zip ks es))
  found_step es e l q p true c from to len last place = found_nowhere (swap_remove ks i k) (swap_remove es i e) q (gone_at q from)
  found_step es e l q p false true from to len last place =
      let same = (eq_decides l q).0 to in
      let end = last ∙ ap Some same in
      let within = slice_get_within ks i k at in
      let apart = elsewhere q (length ks - 1) from end in
      let more : i + 1 < length ks = omega (arith, within, apart) in
      found_at (swap_remove ks i k) (swap_remove es i e) i q distinct_swapped (last_there ks i k more ∙ end)
      ∙ last_there es i e (subst (λ n. i + 1 < n) len more)
      ∙ ap (λ n. slice_get es (n - 1)) (sym len)
      ∙ sym (found_at ks es (length ks - 1) q h end)
  found_step es e l q p false false from to len last place = other_step es e l q p len last from to place

  -- the entries of the others are found
  pub found_swapped : (es : List Entry) (e : Entry) (q : Key) (p : Option ℕ) → length ks ≡ length es → IsPlace ks q p → lookup (eq q) (zip (swap_remove ks i k) (swap_remove es i e)) ≡ cond (eq k q) None (lookup (eq q) (zip ks es))
  found_swapped es e q p len place =
      let within = slice_get_within ks i k at in
      let l = get_or ks (length ks - 1) k in
      found_step es e l q p (eq k q) (eq l q) refl refl len (slice_get-get_or ks (length ks - 1) k (omega (arith, within))) place
