-- Where nothing clashes, what comes in parts is what a merge joins.
use Rattle.std.proofs.Common.{◌≡◌, Bool, true, false, cond, ℕ, List, [], ◌∷◌, Some, None, refl, ◌∙◌}
use Rattle.std.specs.List.{list_any}
use Rattle.std.proofs.lemmas.Bool.{true≢false, or_parts}
use Rattle.std.proofs.lemmas.Option.{none-some}
use Rattle.osm_base.specs.Content.{tags_of}
use Rattle.osm_base.specs.Tags.{Pair}
use Rattle.osm_base.specs.declared.content.Content.{Content}
use Rattle.merge_cases.specs.declared.pick.Pick.{Pick}
use Rattle.merge_cases.specs.declared.pick.Pick.TheVariants as pick
use Rattle.merge_cases.specs.Join.{tag_pick, tags_clash, body_pick, joined, picked, picked_by, picked_tags, standing_by, with_tags, both_of, same_pick, is_clash}
use Rattle.merge_cases.specs.declared.choice.Side.{Side}
use Rattle.merge_cases.specs.Resolve.{settled, settled_tag, side_of_key, in_parts}

-- what doesn't clash is settled already
no_clash : (side : Side) (p : Pick) → is_clash p ≡ false → settled side p ≡ p
no_clash side pick.Mine h = refl
no_clash side pick.Theirs h = refl
no_clash side pick.Clash h = absurd (true≢false h)

-- of tags none of which clashes the same stand
same_standing : (whose other : List ℕ → Pick) (side : Pick) (tags : List Pair) → ((k : List ℕ) → is_clash (whose k) ≡ false → other k ≡ whose k)
    → list_any (λ tag. is_clash (whose tag.0)) tags ≡ false → standing_by other side tags ≡ standing_by whose side tags
same_standing whose other side [] same h = refl
same_standing whose other side (t ∷ ts) same h =
    let n = or_parts (is_clash (whose t.0)) (list_any (λ tag. is_clash (whose tag.0)) ts) h in
    let one = same t.0 n.0 in
    let rest = same_standing whose other side ts same n.1 in
    λ i. cond (same_pick (one i) side) (t ∷ rest i) (rest i)

pub parts_joined : (body : Side) (listed : List (List ℕ)) (base mine theirs c : Content) → joined base mine theirs ≡ Some c → in_parts body listed base mine theirs ≡ Some c
parts_joined body listed base mine theirs c h = by (tags_clash (tags_of base) (tags_of mine) (tags_of theirs)) (body_pick base mine theirs) refl refl h
  where
    tags_same : tags_clash (tags_of base) (tags_of mine) (tags_of theirs) ≡ false
        → picked_by (settled_tag listed base mine theirs) (tags_of mine) (tags_of theirs) ≡ picked_tags (tags_of base) (tags_of mine) (tags_of theirs)
    tags_same e =
        let n = or_parts (list_any (λ tag. is_clash (tag_pick (tags_of base) (tags_of mine) (tags_of theirs) tag.0)) (tags_of mine)) (list_any (λ tag. is_clash (tag_pick (tags_of base) (tags_of mine) (tags_of theirs) tag.0)) (tags_of theirs)) e in
        let m = same_standing (tag_pick (tags_of base) (tags_of mine) (tags_of theirs)) (settled_tag listed base mine theirs) pick.Mine (tags_of mine) (λ k g. no_clash (side_of_key listed k) (tag_pick (tags_of base) (tags_of mine) (tags_of theirs) k) g) n.0 in
        let t = same_standing (tag_pick (tags_of base) (tags_of mine) (tags_of theirs)) (settled_tag listed base mine theirs) pick.Theirs (tags_of theirs) (λ k g. no_clash (side_of_key listed k) (tag_pick (tags_of base) (tags_of mine) (tags_of theirs) k) g) n.1 in
        λ i. with_tags (with_tags [] (m i)) (t i)

    by : (x : Bool) (p : Pick) → tags_clash (tags_of base) (tags_of mine) (tags_of theirs) ≡ x → body_pick base mine theirs ≡ p
        → both_of (cond x None (Some (picked_tags (tags_of base) (tags_of mine) (tags_of theirs)))) (picked p mine theirs) ≡ Some c → in_parts body listed base mine theirs ≡ Some c
    by true pick.Mine e f g = absurd (none-some c g)
    by true pick.Theirs e f g = absurd (none-some c g)
    by true pick.Clash e f g = absurd (none-some c g)
    by false pick.Clash e f g = absurd (none-some c g)
    by false pick.Mine e f g = (let tags = tags_same e in λ i. both_of (Some (tags i)) (picked (settled body (f i)) mine theirs)) ∙ g
    by false pick.Theirs e f g = (let tags = tags_same e in λ i. both_of (Some (tags i)) (picked (settled body (f i)) mine theirs)) ∙ g
