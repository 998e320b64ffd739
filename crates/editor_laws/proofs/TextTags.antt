-- Tags that are made of texts that may be written.
use Rattle.std.proofs.Common.{ℕ, T, List, [], ◌∷◌, length, nat_lt, sym, subst}
use Rattle.std.specs.List.{AllByRecursion, list_all, flat_map, fold}
use Rattle.std.specs.declared.cmp.Ordering.TheVariants.{Less, Equal, Greater}
use Rattle.std.specs.FinMap.{is_sorted}
use Rattle.std.specs.FinMap.Entries.{by_order}
use Rattle.std.proofs.lemmas.List.Concat.{flat_map-cons}
use Rattle.osm_base.specs.Tags.{Pair, bytes_cmp, with_tag, without_tag}
use Rattle.osm_base.proofs.Lists.{all_joined}
use Rattle.osm_base.proofs.TagLaws.{are_tags_put, are_tags_without}
use Rattle.osm_base.proofs.Tests.{first_T, second_T}
use Rattle.opl_line.specs.Writable.{IsText}
use Rattle.merge_cases.specs.declared.pick.Pick.{Pick}
use Rattle.merge_cases.specs.declared.pick.Pick.TheVariants as pick
use Rattle.merge_cases.specs.Join.{picked_by, same_pick, standing_by, with_tags}
use Rattle.tool_api.specs.Basic.{retag_one, retagged}
use Rattle.tool_api.specs.Combine.{united}
use Rattle.job_laws.proofs.SplitHolds.{all_filtered}
use Rattle.editor_laws.specs.Texts.{AreTexts, IsTag}

-- a tag that may be set
abbrev IsPair : Pair → Type 0
IsPair tag = T (nat_lt 0 (length tag.0)) × IsTag tag

put_texts : (tags : List Pair) (key value : List ℕ) → IsText key → IsText value → AllByRecursion IsTag tags → AllByRecursion IsTag (with_tag tags key value)
put_texts [] key value k v h = ((k, v), tt)
put_texts (tag ∷ tags) key value k v h =
    elim (bytes_cmp key tag.0) as (λ o. AllByRecursion IsTag (by_order o ((key, value) ∷ tag ∷ tags) ((tag.0, value) ∷ tags) (tag ∷ with_tag tags key value))) [
      | Less ↦ ((k, v), h)
      | Equal ↦ ((h.0.0, v), h.1)
      | Greater ↦ (h.0, put_texts tags key value k v h.1)
    ]

pub with_texts : (tags : List Pair) (tag : Pair) → IsPair tag → AreTexts tags → AreTexts (with_tag tags tag.0 tag.1)
with_texts tags tag p h = (are_tags_put tag.0 tag.1 tags p.0 h.0, put_texts tags tag.0 tag.1 p.1.0 p.1.1 h.1)

without_texts : (tags : List Pair) (key : List ℕ) → AreTexts tags → AreTexts (without_tag tags key)
without_texts tags key h = (are_tags_without key tags h.0, all_filtered IsTag _ tags h.1)

pub no_texts : AreTexts []
no_texts = (tt, tt)

-- the tags of a list, each as one that may be set
pairs_by : (tags : List Pair) → T (list_all (λ t. nat_lt 0 (length t.0)) tags) → AllByRecursion IsTag tags → AllByRecursion IsPair tags
pairs_by [] named h = tt
pairs_by (tag ∷ tags) named h = ((first_T (nat_lt 0 (length tag.0)) _ named, h.0), pairs_by tags (second_T (nat_lt 0 (length tag.0)) _ named) h.1)

pub pairs_of : (tags : List Pair) → AreTexts tags → AllByRecursion IsPair tags
pairs_of tags h = pairs_by tags (second_T (is_sorted bytes_cmp tags) _ h.0) h.1

-- with one set, or removed, after the other
retag_texts : (tags : List Pair) (key value : List ℕ) → IsPair (key, value) → AreTexts tags → AreTexts (retag_one tags (key, value))
retag_texts tags key [] p h = without_texts tags key h
retag_texts tags key (b ∷ bs) p h = with_texts tags (key, b ∷ bs) p h

all_retagged : (tags pairs : List Pair) → AllByRecursion IsPair pairs → AreTexts tags → AreTexts (retagged tags pairs)
all_retagged tags [] ps h = h
all_retagged tags (p ∷ ps) i h = all_retagged (retag_one tags p) ps i.1 (retag_texts tags p.0 p.1 i.0 h)

pub retagged_texts : (tags pairs : List Pair) → AreTexts pairs → AreTexts tags → AreTexts (retagged tags pairs)
retagged_texts tags pairs i h = all_retagged tags pairs (pairs_of pairs i) h

all_united : (so_far tags : List Pair) → AllByRecursion IsPair tags → AreTexts so_far → AreTexts (fold (λ (so_far : List Pair) (t : Pair). with_tag so_far t.0 t.1) so_far tags)
all_united so_far [] ps h = h
all_united so_far (t ∷ ts) ps h = all_united (with_tag so_far t.0 t.1) ts ps.1 (with_texts so_far t ps.0 h)

pub united_texts : (tags : List Pair) → AllByRecursion IsPair tags → AreTexts (united tags)
united_texts tags ps = all_united [] tags ps no_texts

all_put : (tags ts : List Pair) → AllByRecursion IsPair ts → AreTexts tags → AreTexts (with_tags tags ts)
all_put tags [] ps h = h
all_put tags (t ∷ ts) ps h = all_put (with_tag tags t.0 t.1) ts ps.1 (with_texts tags t ps.0 h)

-- those of mine and theirs that stand
pub picked_texts : (whose : List ℕ → Pick) (m t : List Pair) → AreTexts m → AreTexts t → AreTexts (picked_by whose m t)
picked_texts whose m t h i =
    all_put (with_tags [] (standing_by whose pick.Mine m)) (standing_by whose pick.Theirs t) (all_filtered IsPair (λ tag. same_pick (whose tag.0) pick.Theirs) t (pairs_of t i))
    (all_put [] (standing_by whose pick.Mine m) (all_filtered IsPair (λ tag. same_pick (whose tag.0) pick.Mine) m (pairs_of m h)) no_texts)

-- those of several lists
pub flat_pairs : {X : Type 0} (f : X → List Pair) → ((x : X) → AreTexts (f x)) → (xs : List X) → AllByRecursion IsPair (flat_map f xs)
flat_pairs f h [] = tt
flat_pairs f h (x ∷ xs) = subst (AllByRecursion IsPair) (sym (flat_map-cons f x xs)) (all_joined IsPair (f x) (flat_map f xs) (pairs_of (f x) (h x)) (flat_pairs f h xs))
