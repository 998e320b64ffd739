-- Each tag that comes of three has the value that stands, and where no tags come one clashes.
use Rattle.std.proofs.Common.{◌≡◌, Bool, true, false, cond, ℕ, List, [], ◌∷◌, Option, Some, None, refl, sym, ◌∙◌, ap}
use Rattle.std.specs.List.{list_any}
use Rattle.std.specs.Prelude.{T}
use Rattle.std.specs.FinMap.{is_sorted}
use Rattle.std.proofs.lemmas.Bool.{true≢false, or_cases}
use mathlib.Core.Logic.{◌⊎◌, inl, inr}
use Rattle.std.proofs.lemmas.Option.{none-some, same_Some}
use Rattle.osm_base.specs.Tags.{Pair, bytes_cmp, value_of}
use Rattle.merge_cases.specs.declared.pick.Pick.{Pick}
use Rattle.merge_cases.specs.declared.pick.Pick.TheVariants.{Mine, Theirs, Clash}
use Rattle.merge_cases.specs.Join.{tag_pick, tag_value, tags_clash, picked, picked_tags, joined_tags, pick, is_clash, same_value}
use Rattle.merge_cases.proofs.TagValues.{of_no_value}
use Rattle.merge_cases.proofs.JoinLaws.{stood, value_joined, none_mine, none_theirs}

-- a value that stands is one side's
one_side : (p : Pick) (m t : Option (List ℕ)) → is_clash p ≡ false → picked p m t ≡ Some (stood p m t)
one_side Mine m t h = refl
one_side Theirs m t h = refl
one_side Clash m t h = absurd (true≢false h)

nobody : (p : Pick) (m t : Option (List ℕ)) → is_clash p ≡ true → picked p m t ≡ None
nobody Mine m t h = absurd (true≢false (sym h))
nobody Theirs m t h = absurd (true≢false (sym h))
nobody Clash m t h = refl

-- a test that a list has something for is met by one of it
witness : (p : Pair → Bool) (tags : List Pair) → list_any p tags ≡ true → (tag : Pair) × (p tag ≡ true)
witness p [] h = absurd (true≢false (sym h))
witness p (t ∷ ts) h = by (witness p ts) (or_cases (p t) (list_any p ts) h)
  where
    by : (list_any p ts ≡ true → (tag : Pair) × (p tag ≡ true)) → (p t ≡ true) ⊎ (list_any p ts ≡ true) → (tag : Pair) × (p tag ≡ true)
    by more (inl e) = (t, e)
    by more (inr e) = more e

module _ (b m t : List Pair) where
  pub some_clash : joined_tags b m t ≡ None → (key : List ℕ) × (tag_value b m t key ≡ None)
  some_clash h = by (tags_clash b m t) refl h
    where
      one : (tag : Pair) × (is_clash (tag_pick b m t tag.0) ≡ true) → (key : List ℕ) × (tag_value b m t key ≡ None)
      one w = (w.0.0, nobody (tag_pick b m t w.0.0) (value_of m w.0.0) (value_of t w.0.0) w.1)

      either : (list_any (λ tag. is_clash (tag_pick b m t tag.0)) m ≡ true) ⊎ (list_any (λ tag. is_clash (tag_pick b m t tag.0)) t ≡ true) → (key : List ℕ) × (tag_value b m t key ≡ None)
      either (inl e) = one (witness (λ tag. is_clash (tag_pick b m t tag.0)) m e)
      either (inr e) = one (witness (λ tag. is_clash (tag_pick b m t tag.0)) t e)

      by : (c : Bool) → tags_clash b m t ≡ c → cond c None (Some (picked_tags b m t)) ≡ None → (key : List ℕ) × (tag_value b m t key ≡ None)
      by true e g = either (or_cases (list_any (λ tag. is_clash (tag_pick b m t tag.0)) m) (list_any (λ tag. is_clash (tag_pick b m t tag.0)) t) e)
      by false e g = absurd (none-some (picked_tags b m t) (sym g))

  module _ (sm : T (is_sorted bytes_cmp m)) (st : T (is_sorted bytes_cmp t)) where
    no_clash : tags_clash b m t ≡ false → (k : List ℕ) → is_clash (tag_pick b m t k) ≡ false
    no_clash none k = by (value_of m k) (value_of t k) refl refl
      where
        by : (x y : Option (List ℕ)) → value_of m k ≡ x → value_of t k ≡ y → is_clash (tag_pick b m t k) ≡ false
        by (Some v) y e f = of_no_value (λ tag. is_clash (tag_pick b m t tag.0)) m k v (none_mine b m t sm st none) e
        by None (Some v) e f = of_no_value (λ tag. is_clash (tag_pick b m t tag.0)) t k v (none_theirs b m t sm st none) f
        by None None e f = λ i. is_clash (pick same_value (value_of b k) (e i) (f i))

    pub each_tag : (tags : List Pair) → joined_tags b m t ≡ Some tags → (k : List ℕ) → tag_value b m t k ≡ Some (value_of tags k)
    each_tag tags h k = by (tags_clash b m t) refl h
      where
        by : (c : Bool) → tags_clash b m t ≡ c → cond c None (Some (picked_tags b m t)) ≡ Some tags → tag_value b m t k ≡ Some (value_of tags k)
        by true e g = absurd (none-some tags g)
        by false e g =
            one_side (tag_pick b m t k) (value_of m k) (value_of t k) (no_clash e k)
            ∙ ap Some (sym (value_joined b m t sm st k))
            ∙ ap (λ (ts : List Pair). Some (value_of ts k)) (same_Some (picked_tags b m t) tags g)
