-- The first node at each place, of the keys that a walk by rank has passed.
use Rattle.std.proofs.Common.{◌≡◌, ℕ, zero, suc, ◌+◌, ◌<◌, ◌&&◌, Bool, true, false, cond, List, [], ◌∷◌, ◌++◌, length, take, get_or, Option, Some, None, refl, sym, ap, ◌∙◌, add-one, arith, Ordering}
use Rattle.std.specs.declared.cmp.Ordering.TheVariants.{Less, Equal, Greater}
use Rattle.std.specs.Prelude.{T}
use Rattle.std.specs.List.{find, filter_map, cons_option}
use Rattle.std.specs.Option.{option_map, option_or, option_and_then}
use Rattle.std.specs.Map.{lookup}
use Rattle.std.specs.Ordering.{int_eq, is_lt, ordering_reverse}
use Rattle.std.specs.FinMap.Entries.{below_all}
use Rattle.std.proofs.Math.Seq.{take-suc}
use Rattle.std.proofs.lemmas.Bool.Decides.{Decides-int_eq}
use Rattle.std.proofs.lemmas.Cmp.{tied_itself}
use Rattle.std.proofs.lemmas.List.Elements.{filter_map-append}
use Rattle.std.proofs.lemmas.List.Folds.{find-append}
use Rattle.std.proofs.lemmas.Bool.{and_parts}
use Rattle.osm_base.specs.Rank.{rank_cmp}
use Rattle.osm_base.specs.RankLaws.{rank_total}
use Rattle.osm_base.specs.RisingKeys.{marked, rises}
use Rattle.osm_base.specs.Same.{same_coord}
use Rattle.osm_base.specs.declared.coord.Coord.{Coord}
use Rattle.osm_base.specs.declared.key.Key.{Key}
use Rattle.osm_base.proofs.ByRank.{rises_keys}
use Rattle.osm_base.proofs.Halving.{below_at}
use Rattle.osm_base.proofs.Tests.{option_or-none, second_T}
use Rattle.osm_table.specs.Table.{TableValue, keys_by_rank}
use Rattle.tool_api.specs.Findings.{doubled_of, place_at, same_place}
use Rattle.map_checks.specs.Findings.{doubled_finding}
use Rattle.map_checks.specs.Places.{eq, hashed, noted_at, first_at, HasFirst}
use Rattle.map_checks.specs.declared.finding.Finding.{Finding}
use Rattle.map_checks.specs.declared.finding.Finding.TheVariants.{Doubled}
use Rattle.map_checks.specs.declared.places.Place.{Place}

-- Of rising keys those below one are those before it.

left : (a b : Bool) → T (a && b) → a ≡ true
left true b h = refl
left false b h = absurd h

not_below : (k j : Key) (o : Ordering) → rank_cmp k j ≡ o → is_lt o ≡ true → is_lt (rank_cmp j k) ≡ false
not_below k j Less is less = ap is_lt (rank_total.antisymm j k ∙ ap ordering_reverse is)
not_below k j Equal is less = cc
not_below k j Greater is less = cc

module _ (p : Key → Bool) where
  above : (k : Key) (ks : List Key) → T (below_all rank_cmp k (marked ks)) → find (λ j. is_lt (rank_cmp j k) && p j) ks ≡ None
  above k [] h = refl
  above k (x ∷ xs) h =
      ap (λ b. cond (b && p x) (Some x) (find (λ j. is_lt (rank_cmp j k) && p j) xs)) (not_below k x (rank_cmp k x) refl (left (is_lt (rank_cmp k x)) _ h))
      ∙ above k xs (second_T (is_lt (rank_cmp k x)) _ h)

  below_are_before : (ks : List Key) (i : ℕ) (d : Key) → T (rises ks) → i < length ks → find (λ j. is_lt (rank_cmp j (get_or ks i d)) && p j) ks ≡ find p (take i ks)
  below_are_before [] i d h lt = absurd (omega (arith, lt))
  below_are_before (x ∷ xs) zero d h lt =
      ap (λ o. cond (is_lt o && p x) (Some x) (find (λ j. is_lt (rank_cmp j x) && p j) xs)) (tied_itself rank_total x)
      ∙ above x xs (let e = left (below_all rank_cmp x (marked xs)) (rises xs) h in rw e tt)
  below_are_before (x ∷ xs) (suc i) d h lt =
      let below : T (below_all rank_cmp x (marked xs)) = (let e = left (below_all rank_cmp x (marked xs)) (rises xs) h in rw e tt) in
      let less : is_lt (rank_cmp x (get_or xs i d)) ≡ true = ap is_lt (below_at x xs i d below (omega (arith, lt))) in
      ap (λ b. cond (b && p x) (Some x) (find (λ j. is_lt (rank_cmp j (get_or xs i d)) && p j) xs)) less
      ∙ ap (cond (p x) (Some x)) (below_are_before xs i d (second_T (below_all rank_cmp x (marked xs)) (rises xs) h) (omega (arith, lt)))

-- The least node of lower rank at a key's place is the first at it, of the keys before.

never_case : (o : Option Coord) (b : Bool) (x : Key) (rest : Option Key) → rest ≡ None → cond (b && same_place o None) (Some x) rest ≡ None
never_case None true x rest e = e
never_case None false x rest e = e
never_case (Some a) true x rest e = e
never_case (Some a) false x rest e = e

never : (f : Key → Option Coord) (less : Key → Bool) (ks : List Key) → find (λ j. less j && same_place (f j) None) ks ≡ None
never f less [] = refl
never f less (x ∷ xs) = never_case (f x) (less x) x _ (never f less xs)

doubled_case : (t : TableValue) (i : ℕ) (d : Key) (o : Option Coord) → i < length (keys_by_rank t)
    → option_and_then (first_at t (take i (keys_by_rank t))) o ≡ find (λ j. is_lt (rank_cmp j (get_or (keys_by_rank t) i d)) && same_place (place_at t j) o) (keys_by_rank t)
doubled_case t i d None lt = sym (never (place_at t) (λ j. is_lt (rank_cmp j (get_or (keys_by_rank t) i d))) (keys_by_rank t))
doubled_case t i d (Some at) lt = sym (below_are_before (λ j. same_place (place_at t j) (Some at)) (keys_by_rank t) i d (rises_keys t.entries) lt)

pub first_is_doubled : (t : TableValue) (i : ℕ) (d : Key) → i < length (keys_by_rank t) → option_and_then (first_at t (take i (keys_by_rank t))) (place_at t (get_or (keys_by_rank t) i d)) ≡ doubled_of t (get_or (keys_by_rank t) i d)
first_is_doubled t i d lt = doubled_case t i d (place_at t (get_or (keys_by_rank t) i d)) lt

-- one key more of a walk
pub one_more : (t : TableValue) (ks : List Key) (i : ℕ) (d : Key) (of : Option Key) (found found₁ : List Finding) → ks ≡ keys_by_rank t → i < length ks
    → of ≡ option_and_then (first_at t (take i ks)) (place_at t (get_or ks i d)) → found ≡ filter_map (doubled_finding t) (take i ks)
    → found₁ ≡ found ++ cons_option (option_map (λ (o : Key). Doubled (get_or ks i d) o) of) []
    → found₁ ≡ filter_map (doubled_finding t) (take (i + 1) ks)
one_more t ks i d of found found₁ are lt is before put =
    let k = get_or ks i d in
    let lt₁ = lt in
    let whose : of ≡ doubled_of t k = is ∙ (λ j. option_and_then (first_at t (take i (are j))) (place_at t (get_or (are j) i d))) ∙ first_is_doubled t i d (rw are at lt₁) ∙ ap (λ (l : List Key). doubled_of t (get_or l i d)) (sym are) in
    put ∙ (λ j. before j ++ cons_option (option_map (λ (o : Key). Doubled k o) (whose j)) [])
    ∙ sym (filter_map-append (doubled_finding t) (take i ks) (k ∷ []))
    ∙ ap (filter_map (doubled_finding t)) (sym (take-suc ks i d lt) ∙ ap (λ (m : ℕ). take m ks) (sym (add-one i)))

pub noted_more : (t : TableValue) (ks : List Key) (i : ℕ) (d : Key) (entries : List (Place × Key)) → i < length ks → HasFirst t (take i ks ++ get_or ks i d ∷ []) entries → HasFirst t (take (i + 1) ks) entries
noted_more t ks i d entries lt h at = h at ∙ ap (λ (l : List Key). first_at t l at) (sym (take-suc ks i d lt) ∙ ap (λ (m : ℕ). take m ks) (sym (add-one i)))

-- Notes of one key more.

-- of a key that isn't a living node
pub not_noted : (t : TableValue) (keys : List Key) (k : Key) (entries : List (Place × Key)) → place_at t k ≡ None → HasFirst t keys entries → HasFirst t (keys ++ k ∷ []) entries
not_noted t keys k entries none h at =
    h at ∙ sym (option_or-none (first_at t keys at))
    ∙ ap (λ (o : Option Coord). option_or (first_at t keys at) (cond (same_place o (Some at)) (Some k) None)) (sym none)
    ∙ sym (find-append (λ j. same_place (place_at t j) (Some at)) keys (k ∷ []))

-- one place is hashed as one
one_hashed : (a b : Coord) → same_coord a b ≡ true → hashed a ≡ hashed b
one_hashed a b e =
    let h = and_parts (int_eq a.lon b.lon) (int_eq a.lat b.lat) e in
    let lon : a.lon ≡ b.lon = (Decides-int_eq a.lon b.lon).0 h.0 in
    let lat : a.lat ≡ b.lat = (Decides-int_eq a.lat b.lat).0 h.1 in
    λ i. record { lon = lon i; lat = lat i }

-- what is noted at one place
noted_alike : (entries : List (Place × Key)) (at there : Coord) → same_coord at there ≡ true → noted_at entries there ≡ noted_at entries at
noted_alike entries at there same = ap (λ (p : Place). lookup (eq p) entries) (sym (one_hashed at there same))

-- of a node where another one was noted
there_case : (o : Option Key) (first k : Key) (b : Bool) → (b ≡ true → o ≡ Some first) → o ≡ option_or o (cond b (Some k) None)
there_case None first k true h = (let e : None ≡ Some first = h refl in cc)
there_case None first k false h = refl
there_case (Some j) first k b h = refl

noted_before : (t : TableValue) (keys : List Key) (k first : Key) (at : Coord) (entries : List (Place × Key)) → place_at t k ≡ Some at → noted_at entries at ≡ Some first → HasFirst t keys entries → HasFirst t (keys ++ k ∷ []) entries
noted_before t keys k first at entries is noted h there =
    h there
    ∙ there_case (first_at t keys there) first k (same_coord at there) (λ same. sym (h there) ∙ noted_alike entries at there same ∙ noted)
    ∙ ap (λ (o : Option Coord). option_or (first_at t keys there) (cond (same_place o (Some there)) (Some k) None)) (sym is)
    ∙ sym (find-append (λ j. same_place (place_at t j) (Some there)) keys (k ∷ []))

back_case : (b : Bool) (first k : Key) (o : Option Key) → (b ≡ true → o ≡ Some first) → cond b (Some first) (cond b (Some k) o) ≡ o
back_case true first k o h = sym (h refl)
back_case false first k o h = refl

-- of such a node that is noted in place of the first one, which is then noted again
pub noted_again : (t : TableValue) (keys : List Key) (k first : Key) (at : Coord) (entries entries₁ entries₂ : List (Place × Key)) → place_at t k ≡ Some at → Some first ≡ noted_at entries at
    → ((there : Coord) → noted_at entries₁ there ≡ cond (same_coord at there) (Some k) (noted_at entries there))
    → ((there : Coord) → noted_at entries₂ there ≡ cond (same_coord at there) (Some first) (noted_at entries₁ there)) → HasFirst t keys entries → HasFirst t (keys ++ k ∷ []) entries₂
noted_again t keys k first at entries entries₁ entries₂ is noted put back h there =
    back there ∙ ap (cond (same_coord at there) (Some first)) (put there)
    ∙ back_case (same_coord at there) first k (noted_at entries there) (λ same. noted_alike entries at there same ∙ sym noted)
    ∙ noted_before t keys k first at entries is (sym noted) h there

-- of the first node at its place
new_case : (o : Option Key) (k : Key) (b : Bool) → (b ≡ true → o ≡ None) → cond b (Some k) o ≡ option_or o (cond b (Some k) None)
new_case None k true h = refl
new_case None k false h = refl
new_case (Some j) k true h = (let e : Some j ≡ None = h refl in cc)
new_case (Some j) k false h = refl

pub noted_now : (t : TableValue) (keys : List Key) (k : Key) (at : Coord) (entries entries₁ : List (Place × Key)) → place_at t k ≡ Some at → noted_at entries at ≡ None
    → ((there : Coord) → noted_at entries₁ there ≡ cond (same_coord at there) (Some k) (noted_at entries there)) → HasFirst t keys entries → HasFirst t (keys ++ k ∷ []) entries₁
noted_now t keys k at entries entries₁ is none put h there =
    put there ∙ ap (cond (same_coord at there) (Some k)) (h there)
    ∙ new_case (first_at t keys there) k (same_coord at there) (λ same. sym (h there) ∙ noted_alike entries at there same ∙ none)
    ∙ ap (λ (o : Option Coord). option_or (first_at t keys there) (cond (same_place o (Some there)) (Some k) None)) (sym is)
    ∙ sym (find-append (λ j. same_place (place_at t j) (Some there)) keys (k ∷ []))

-- nothing noted is right of no keys
pub none_noted : (t : TableValue) (entries : List (Place × Key)) → entries ≡ [] → HasFirst t [] entries
none_noted t entries nil at = ap (λ (es : List (Place × Key)). noted_at es at) nil
