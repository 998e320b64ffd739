-- What is joined keeps each part that was changed here.
use Rattle.std.proofs.Common.{◌≡◌, ◌&&◌, ℕ, Bool, true, false, cond, List, Option, Some, None, refl, sym, ap, ◌∙◌}
use Rattle.std.specs.Prelude.{T}
use Rattle.osm_base.specs.Content.{tags_of}
use Rattle.osm_base.specs.Tags.{Pair, are_tags, value_of}
use Rattle.osm_base.specs.declared.content.Content.{Content}
use Rattle.osm_base.specs.declared.content.Content.TheVariants.{Node, Way, Relation}
use Rattle.osm_base.proofs.Tests.{by_bool}
use Rattle.merge_cases.specs.declared.pick.Pick.TheVariants.{Clash}
use Rattle.merge_cases.specs.Join.{stands, picked, same_value, joined_tags, tag_value, same_kind, same_body, body_pick, with_body, both_of}
use Rattle.merge_cases.proofs.JoinLaws.{same_values}
use Rattle.editor_laws.specs.Parts.{JoinKeepsParts}

-- where mine isn't the base's, nothing but mine stands
mine_stands : {A : Type 0} (m t v : A) (x y z : Bool) → y ≡ false → picked (stands x y z) m t ≡ Some v → v ≡ m
mine_stands m t v true y z e h = cc
mine_stands m t v false true z e h = cc
mine_stands m t v false false true e h = cc
mine_stands m t v false false false e h = cc

-- what a joined content is made of
pub record Made (o : Option (List Pair)) (p : Option Content) (c : Content) : Type 0 where
  pub tags : List Pair
  pub body : Content
  pub by_tags : o ≡ Some tags
  pub by_body : p ≡ Some body
  pub is : c ≡ with_body tags body

pub made : (o : Option (List Pair)) (p : Option Content) (c : Content) → both_of o p ≡ Some c → Made o p c
made o None c h = cc
made None (Some body) c h = cc
made (Some tags) (Some body) c h = record { tags = tags; body = body; by_tags = refl; by_body = refl; is = (let e : with_body tags body ≡ c = cc in sym e) }

pub tags_with : (tags : List Pair) (c : Content) → tags_of (with_body tags c) ≡ tags
tags_with tags (Node others at) = refl
tags_with tags (Way others refs) = refl
tags_with tags (Relation others members) = refl

body_mine : (m t body : Content) (g x y z : Bool) → y ≡ false → picked (cond g (stands x y z) Clash) m t ≡ Some body → body ≡ m
body_mine m t body true x y z e h = mine_stands m t body x y z e h
body_mine m t body false x y z e h = cc

-- what `each_tag_is_picked` of merge_cases ensures
abbrev pub EachTag : Type 0
EachTag = (b m t tags : List Pair) → T (are_tags m) → T (are_tags t) → joined_tags b m t ≡ Some tags → (key : List ℕ) → tag_value b m t key ≡ Some (value_of tags key)

pub join_keeps : EachTag → (base mine theirs : Content) → JoinKeepsParts base mine theirs
join_keeps each_tag base mine theirs c g h e =
    let x = made (joined_tags (tags_of base) (tags_of mine) (tags_of theirs)) (picked (body_pick base mine theirs) mine theirs) c e in
    let tags : tags_of c ≡ x.tags = ap tags_of x.is ∙ tags_with x.tags x.body in
    record {
      tags = λ key other.
          let p = each_tag (tags_of base) (tags_of mine) (tags_of theirs) x.tags g h x.by_tags key in
          let differs : same_value (value_of (tags_of mine) key) (value_of (tags_of base) key) ≡ false =
          by_bool (same_value (value_of (tags_of mine) key) (value_of (tags_of base) key)) (λ same. absurd (other (same_values (value_of (tags_of mine) key) (value_of (tags_of base) key) same))) (λ no_same. no_same) in
          ap (λ (ts : List Pair). value_of ts key) tags ∙ mine_stands (value_of (tags_of mine) key) (value_of (tags_of theirs) key) (value_of x.tags key) _ _ _ differs p;
      body = λ differs.
          let own : x.body ≡ mine = body_mine mine theirs x.body (same_kind base theirs && same_kind mine theirs) (same_body mine theirs) (same_body mine base) (same_body theirs base) differs x.by_body in
          x.is ∙ ap (with_body x.tags) own ∙ ap (λ (ts : List Pair). with_body ts mine) (sym tags);
    }
