-- The tags that are picked have of each key the value of the side that stands.
use Rattle.std.proofs.Common.{◌≡◌, cond, ℕ, List, [], Option, Some, None, refl, sym, ap, ◌∙◌}
use Rattle.std.proofs.lemmas.Option.{none-some, same_Some}
use Rattle.std.specs.Prelude.{T}
use Rattle.std.specs.Option.{option_or}
use Rattle.std.specs.FinMap.{is_sorted}
use Rattle.osm_base.specs.Content.{tags_of}
use Rattle.osm_base.specs.Tags.{Pair, are_tags, bytes_cmp, value_of}
use Rattle.osm_base.specs.declared.content.Content.{Content}
use Rattle.osm_base.specs.declared.content.Content.TheVariants.{Node, Way, Relation}
use Rattle.osm_base.proofs.TagLaws.{in_order}
use Rattle.osm_base.proofs.Tests.{option_or-none}
use Rattle.merge_cases.specs.declared.choice.Side.{Side}
use Rattle.merge_cases.specs.declared.pick.Pick.{Pick}
use Rattle.merge_cases.specs.declared.pick.Pick.TheVariants.{Mine, Theirs, Clash}
use Rattle.merge_cases.specs.Join.{both_of, picked, picked_by, same_pick, standing_by, with_body, with_tags}
use Rattle.merge_cases.specs.Resolve.{in_parts, settled_body, settled_tag}
use Rattle.merge_cases.proofs.TagValues.{sorted_where, value_where, value_with}
use Rattle.job_laws.specs.ResolveParts.{HasParts, value_picked}

module _ (whose : List ℕ → Pick) (m t : List Pair) (sm : T (is_sorted bytes_cmp m)) (st : T (is_sorted bytes_cmp t)) where
  value_by : (k : List ℕ) → value_of (picked_by whose m t) k ≡ value_picked (whose k) (value_of m k) (value_of t k)
  value_by k =
      value_with (with_tags [] (standing_by whose Mine m)) (standing_by whose Theirs t) k (sorted_where (λ j. same_pick (whose j) Theirs) t st)
      ∙ ap (option_or (value_of (standing_by whose Theirs t) k)) (value_with [] (standing_by whose Mine m) k (sorted_where (λ j. same_pick (whose j) Mine) m sm))
      ∙ ap (λ (o : Option (List ℕ)). option_or o (option_or (value_of (standing_by whose Mine m) k) None)) (value_where (λ j. same_pick (whose j) Theirs) t k)
      ∙ ap (λ (o : Option (List ℕ)). option_or (cond (same_pick (whose k) Theirs) (value_of t k) None) (option_or o None)) (value_where (λ j. same_pick (whose j) Mine) m k)
      ∙ by (whose k) (value_of m k) (value_of t k)
    where
      by : (p : Pick) (x y : Option (List ℕ)) → option_or (cond (same_pick p Theirs) y None) (option_or (cond (same_pick p Mine) x None) None) ≡ value_picked p x y
      by Mine x y = option_or-none x
      by Theirs x y = option_or-none y
      by Clash x y = refl

pub picked_value : (whose : List ℕ → Pick) (m t : List Pair) → T (are_tags m) → T (are_tags t) → (k : List ℕ) → value_of (picked_by whose m t) k ≡ value_picked (whose k) (value_of m k) (value_of t k)
picked_value whose m t sm st k = value_by whose m t (in_order m sm) (in_order t st) k

tags_with : (tags : List Pair) (c : Content) → tags_of (with_body tags c) ≡ tags
tags_with tags (Node others at) = refl
tags_with tags (Way others refs) = refl
tags_with tags (Relation others members) = refl

-- What comes in parts.
module _ (body : Side) (listed : List (List ℕ)) (base mine theirs c : Content) (sm : T (are_tags (tags_of mine))) (st : T (are_tags (tags_of theirs))) where
  abbrev tags : List Pair
  tags = picked_by (settled_tag listed base mine theirs) (tags_of mine) (tags_of theirs)

  has_tags : (d : Content) → with_body tags d ≡ c → tags_of c ≡ tags
  has_tags d is = ap tags_of (sym is) ∙ tags_with tags d

  each_tag : tags_of c ≡ tags → (k : List ℕ) → value_of (tags_of c) k ≡ value_picked (settled_tag listed base mine theirs k) (value_of (tags_of mine) k) (value_of (tags_of theirs) k)
  each_tag is k = ap (λ (ts : List Pair). value_of ts k) is ∙ picked_value (settled_tag listed base mine theirs) (tags_of mine) (tags_of theirs) sm st k

  -- the side whose body stands
  by_pick : (p : Pick) → settled_body body base mine theirs ≡ p → both_of (Some tags) (picked p mine theirs) ≡ Some c → HasParts body listed base mine theirs c
  by_pick Mine stands is =
      let same : with_body tags mine ≡ c = same_Some (with_body tags mine) c is in
      record {
        tags = each_tag (has_tags mine same);
        body = ap (λ (p : Pick). picked p (with_body (tags_of c) mine) (with_body (tags_of c) theirs)) stands
            ∙ ap (λ (ts : List Pair). Some (with_body ts mine)) (has_tags mine same) ∙ is;
      }
  by_pick Theirs stands is =
      let same : with_body tags theirs ≡ c = same_Some (with_body tags theirs) c is in
      record {
        tags = each_tag (has_tags theirs same);
        body = ap (λ (p : Pick). picked p (with_body (tags_of c) mine) (with_body (tags_of c) theirs)) stands
            ∙ ap (λ (ts : List Pair). Some (with_body ts theirs)) (has_tags theirs same) ∙ is;
      }
  by_pick Clash stands is = absurd (none-some c is)

  pub in_parts_has : in_parts body listed base mine theirs ≡ Some c → HasParts body listed base mine theirs c
  in_parts_has is = by_pick (settled_body body base mine theirs) refl is
