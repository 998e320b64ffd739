-- Tags of two sides that are put by turns.
use Rattle.std.proofs.Common.{◌≡◌, ℕ, Bool, true, false, cond, List, [], ◌∷◌, ◌++◌, refl, sym, subst, ap, ◌∙◌}
use Rattle.std.specs.Prelude.{T}
use Rattle.std.specs.Ordering.{eq_by_cmp}
use Rattle.std.specs.FinMap.{is_sorted}
use Rattle.std.specs.FinMap.Entries.{is_sorted-put}
use Rattle.std.proofs.lemmas.Cmp.{nat_list_cmp_total}
use Rattle.osm_base.specs.Tags.{Pair, bytes_cmp, with_tag}
use Rattle.osm_base.proofs.TagLaws.{same_keys, either_first}
use Rattle.merge_cases.specs.declared.pick.Pick.{Pick}
use Rattle.merge_cases.specs.declared.pick.Pick.TheVariants.{Mine, Theirs, Clash}
use Rattle.merge_cases.specs.Join.{same_pick, standing_by, with_tags}
use Rattle.merge_cases.proofs.TagValues.{sorted_with}

-- no tag stands on both sides
one_side : (p : Pick) → same_pick p Mine ≡ true → same_pick p Theirs ≡ true → ⊥
one_side Mine m t = cc
one_side Theirs m t = cc
one_side Clash m t = cc

-- a tag behind others
pub sorted_put : (old new out front : List Pair) (t : Pair) → T (is_sorted bytes_cmp old) → new ≡ with_tags old front → out ≡ with_tag new t.0 t.1 → T (is_sorted bytes_cmp out)
sorted_put old new out front t s put done =
    subst (λ (l : List Pair). T (is_sorted bytes_cmp l)) (sym (done ∙ ap (λ (l : List Pair). with_tag l t.0 t.1) put)) (is_sorted-put bytes_cmp nat_list_cmp_total t.0 t.1 (with_tags old front) (sorted_with old front s))

module _ (whose : List ℕ → Pick) where
  abbrev of_mine : List Pair → List Pair
  of_mine ts = standing_by whose Mine ts

  abbrev of_theirs : List Pair → List Pair
  of_theirs ts = standing_by whose Theirs ts

  -- a tag of theirs may be put before tags of mine in place of behind them
  before_mine : (tags ms : List Pair) (t : Pair) → T (is_sorted bytes_cmp tags) → same_pick (whose t.0) Theirs ≡ true
      → with_tag (with_tags tags (of_mine ms)) t.0 t.1 ≡ with_tags (with_tag tags t.0 t.1) (of_mine ms)
  before_mine tags [] t s h = refl
  before_mine tags (m ∷ ms) t s h =
      by (same_pick (whose m.0) Mine) refl (before_mine (with_tag tags m.0 m.1) ms t (is_sorted-put bytes_cmp nat_list_cmp_total m.0 m.1 tags s) h) (before_mine tags ms t s h)
    where
      apart : (c : Bool) → eq_by_cmp bytes_cmp t.0 m.0 ≡ c → same_pick (whose m.0) Mine ≡ true → eq_by_cmp bytes_cmp t.0 m.0 ≡ false
      apart false g e = g
      apart true g e = absurd (one_side (whose m.0) e (ap (λ (k : List ℕ). same_pick (whose k) Theirs) (sym (same_keys t.0 m.0 g)) ∙ h))

      by : (b : Bool) → same_pick (whose m.0) Mine ≡ b
          → with_tag (with_tags (with_tag tags m.0 m.1) (of_mine ms)) t.0 t.1 ≡ with_tags (with_tag (with_tag tags m.0 m.1) t.0 t.1) (of_mine ms)
          → with_tag (with_tags tags (of_mine ms)) t.0 t.1 ≡ with_tags (with_tag tags t.0 t.1) (of_mine ms)
          → with_tag (with_tags tags (cond b (m ∷ of_mine ms) (of_mine ms))) t.0 t.1 ≡ with_tags (with_tag tags t.0 t.1) (cond b (m ∷ of_mine ms) (of_mine ms))
      by true e with_it without = with_it ∙ ap (λ (l : List Pair). with_tags l (of_mine ms)) (either_first tags m t s (apart (eq_by_cmp bytes_cmp t.0 m.0) refl e))
      by false e with_it without = without

  mine_after : (tags front back : List Pair) → with_tags tags (of_mine (front ++ back)) ≡ with_tags (with_tags tags (of_mine front)) (of_mine back)
  mine_after tags [] back = refl
  mine_after tags (m ∷ ms) back = by (same_pick (whose m.0) Mine) (mine_after (with_tag tags m.0 m.1) ms back) (mine_after tags ms back)
    where
      by : (b : Bool) → with_tags (with_tag tags m.0 m.1) (of_mine (ms ++ back)) ≡ with_tags (with_tags (with_tag tags m.0 m.1) (of_mine ms)) (of_mine back)
          → with_tags tags (of_mine (ms ++ back)) ≡ with_tags (with_tags tags (of_mine ms)) (of_mine back)
          → with_tags tags (cond b (m ∷ of_mine (ms ++ back)) (of_mine (ms ++ back))) ≡ with_tags (with_tags tags (cond b (m ∷ of_mine ms) (of_mine ms))) (of_mine back)
      by true with_it without = with_it
      by false with_it without = without

  -- a tag of theirs that stands, behind the front of mine
  pub put_between : (old new out rest front back : List Pair) (t : Pair) → T (is_sorted bytes_cmp old) → same_pick (whose t.0) Theirs ≡ true → rest ≡ front ++ back
      → new ≡ with_tags old (of_mine front) → out ≡ with_tag new t.0 t.1 → with_tags out (of_mine back) ≡ with_tags (with_tags old (of_mine rest)) (of_theirs (t ∷ []))
  put_between old new out rest front back t s h cut put done =
      ap (λ (l : List Pair). with_tags l (of_mine back)) (done ∙ ap (λ (l : List Pair). with_tag l t.0 t.1) put)
      ∙ sym (before_mine (with_tags old (of_mine front)) back t (sorted_with old (of_mine front) s) h)
      ∙ ap (λ (l : List Pair). with_tag l t.0 t.1) (sym (mine_after old front back) ∙ ap (λ (l : List Pair). with_tags old (of_mine l)) (sym cut))
      ∙ ap (λ (b : Bool). with_tags (with_tags old (of_mine rest)) (cond b (t ∷ []) [])) (sym h)
