-- What is joined keeps each part that others changed.
use Rattle.std.proofs.Common.{◌≡◌, ◌&&◌, ℕ, Bool, true, false, cond, List, Option, Some, None, refl, sym, ap, ◌∙◌}
use Rattle.std.specs.Prelude.{T}
use Rattle.std.specs.FinMap.{is_sorted}
use Rattle.std.proofs.lemmas.Bool.{true≢false}
use Rattle.std.proofs.lemmas.Option.{none-some, same_Some}
use Rattle.osm_base.specs.Content.{tags_of}
use Rattle.osm_base.specs.Tags.{Pair, are_tags, bytes_cmp, value_of}
use Rattle.osm_base.specs.declared.content.Content.{Content}
use Rattle.osm_base.specs.declared.content.Content.TheVariants.{Node, Way, Relation}
use Rattle.osm_base.proofs.SameLaws.{same_coord_decides, same_refs_decides, same_members_decides}
use Rattle.osm_base.proofs.TagLaws.{in_order}
use Rattle.osm_base.proofs.Tests.{by_bool}
use Rattle.merge_cases.specs.declared.pick.Pick.{Pick}
use Rattle.merge_cases.specs.declared.pick.Pick.TheVariants.{Mine, Theirs, Clash}
use Rattle.merge_cases.specs.Join.{stands, pick, picked, picked_tags, joined, same_value, joined_tags, is_clash, tag_pick, tag_value, tags_clash, same_kind, same_body, body_pick, with_body}
use Rattle.merge_cases.proofs.JoinLaws.{none_mine, none_theirs, same_values, stood, value_joined}
use Rattle.merge_cases.proofs.TagValues.{of_no_value}
use Rattle.editor_laws.specs.Parts.{KeepsParts}
use Rattle.editor_laws.proofs.KeptJoins.{EachTag, made, tags_with}

-- Each tag has the value that stands. (`each_tag` of `merge_cases` says so; its file isn't exported there.)
one_side : (p : Pick) (m t : Option (List ℕ)) → is_clash p ≡ false → picked p m t ≡ Some (stood p m t)
one_side Mine m t h = refl
one_side Theirs m t h = refl
one_side Clash m t h = absurd (true≢false h)

module _ (b m t : List Pair) (sm : T (is_sorted bytes_cmp m)) (st : T (is_sorted bytes_cmp t)) where
  no_clash : tags_clash b m t ≡ false → (k : List ℕ) → is_clash (tag_pick b m t k) ≡ false
  no_clash none k = by (value_of m k) (value_of t k) refl refl
    where
      by : (x y : Option (List ℕ)) → value_of m k ≡ x → value_of t k ≡ y → is_clash (tag_pick b m t k) ≡ false
      by (Some v) y e f = of_no_value (λ tag. is_clash (tag_pick b m t tag.0)) m k v (none_mine b m t sm st none) e
      by None (Some v) e f = of_no_value (λ tag. is_clash (tag_pick b m t tag.0)) t k v (none_theirs b m t sm st none) f
      by None None e f = λ i. is_clash (pick same_value (value_of b k) (e i) (f i))

  sorted_tag : (tags : List Pair) → joined_tags b m t ≡ Some tags → (k : List ℕ) → tag_value b m t k ≡ Some (value_of tags k)
  sorted_tag tags h k = by (tags_clash b m t) refl h
    where
      by : (c : Bool) → tags_clash b m t ≡ c → cond c None (Some (picked_tags b m t)) ≡ Some tags → tag_value b m t k ≡ Some (value_of tags k)
      by true e g = absurd (none-some tags g)
      by false e g =
          one_side (tag_pick b m t k) (value_of m k) (value_of t k) (no_clash e k)
          ∙ ap Some (sym (value_joined b m t sm st k))
          ∙ ap (λ (ts : List Pair). Some (value_of ts k)) (same_Some (picked_tags b m t) tags g)

pub each_tag : EachTag
each_tag b m t tags g h = sorted_tag b m t (in_order m g) (in_order t h) tags

-- where theirs isn't the base's, nothing but theirs stands
theirs_stand : {A : Type 0} (m t v : A) (x y z : Bool) → z ≡ false → (x ≡ true → m ≡ t) → picked (stands x y z) m t ≡ Some v → v ≡ t
theirs_stand m t v true y z e same h = (let i : m ≡ v = cc in sym i) ∙ same refl
theirs_stand m t v false true z e same h = cc
theirs_stand m t v false false true e same h = absurd (true≢false e)
theirs_stand m t v false false false e same h = cc

-- contents of one body are one, with the same tags
same_bodies : (tags : List Pair) (c d : Content) → same_body c d ≡ true → with_body tags c ≡ with_body tags d
same_bodies tags (Node others at) (Node more there) e = ap (Node tags) ((same_coord_decides at there).0 e)
same_bodies tags (Node others at) (Way more theirs) e = absurd (true≢false (sym e))
same_bodies tags (Node others at) (Relation more theirs) e = absurd (true≢false (sym e))
same_bodies tags (Way others refs) (Node more there) e = absurd (true≢false (sym e))
same_bodies tags (Way others refs) (Way more theirs) e = ap (Way tags) ((same_refs_decides refs theirs).0 e)
same_bodies tags (Way others refs) (Relation more theirs) e = absurd (true≢false (sym e))
same_bodies tags (Relation others members) (Node more there) e = absurd (true≢false (sym e))
same_bodies tags (Relation others members) (Way more theirs) e = absurd (true≢false (sym e))
same_bodies tags (Relation others members) (Relation more theirs) e = ap (Relation tags) ((same_members_decides members theirs).0 e)

body_theirs : (tags : List Pair) (m t body : Content) (g x y z : Bool) → z ≡ false → (x ≡ true → with_body tags m ≡ with_body tags t) → picked (cond g (stands x y z) Clash) m t ≡ Some body → with_body tags body ≡ with_body tags t
body_theirs tags m t body true true y z e same h = ap (with_body tags) (let i : body ≡ m = cc in i) ∙ same refl
body_theirs tags m t body true false true z e same h = ap (with_body tags) (let i : body ≡ t = cc in i)
body_theirs tags m t body true false false true e same h = absurd (true≢false e)
body_theirs tags m t body true false false false e same h = cc
body_theirs tags m t body false x y z e same h = cc

pub join_hears : (base mine theirs c : Content) → T (are_tags (tags_of mine)) → T (are_tags (tags_of theirs)) → joined base mine theirs ≡ Some c → KeepsParts base theirs c
join_hears base mine theirs c g h e =
    let x = made (joined_tags (tags_of base) (tags_of mine) (tags_of theirs)) (picked (body_pick base mine theirs) mine theirs) c e in
    let tags : tags_of c ≡ x.tags = ap tags_of x.is ∙ tags_with x.tags x.body in
    record {
      tags = λ key other.
          let p = each_tag (tags_of base) (tags_of mine) (tags_of theirs) x.tags g h x.by_tags key in
          let differs : same_value (value_of (tags_of theirs) key) (value_of (tags_of base) key) ≡ false =
          by_bool (same_value (value_of (tags_of theirs) key) (value_of (tags_of base) key)) (λ same. absurd (other (same_values (value_of (tags_of theirs) key) (value_of (tags_of base) key) same))) (λ no_same. no_same) in
          ap (λ (ts : List Pair). value_of ts key) tags
          ∙ theirs_stand (value_of (tags_of mine) key) (value_of (tags_of theirs) key) (value_of x.tags key) _ _ _ differs (same_values (value_of (tags_of mine) key) (value_of (tags_of theirs) key)) p;
      body = λ differs.
          x.is
          ∙ body_theirs x.tags mine theirs x.body (same_kind base theirs && same_kind mine theirs) (same_body mine theirs) (same_body mine base) (same_body theirs base) differs (same_bodies x.tags mine theirs) x.by_body
          ∙ ap (λ (ts : List Pair). with_body ts theirs) (sym tags);
    }

-- a content has all of its own parts
with_itself : (c : Content) → c ≡ with_body (tags_of c) c
with_itself (Node tags at) = refl
with_itself (Way tags refs) = refl
with_itself (Relation tags members) = refl

pub keeps_itself : (base theirs : Content) → KeepsParts base theirs theirs
keeps_itself base theirs = record { tags = λ key other. refl; body = λ differs. with_itself theirs }
