-- A way that is turned round refers to what it did, so the table stays sound.
use Rattle.std.proofs.Common.{◌≡◌, ◌∷◌, [], ℕ, reverse, None, refl, sym, ap, ◌∙◌}
use mathlib.Core.Logic.{inl}
use Rattle.std.specs.Option.{option_or}
use Rattle.std.proofs.lemmas.List.Sorted.{list_any-IsPermutation, IsPermutation-reverse}
use Rattle.osm_base.specs.Content.{refers, node, kind_of_content}
use Rattle.osm_base.specs.Rank.{is_key}
use Rattle.osm_base.proofs.AnyMap.{list_any_map}
use Rattle.osm_base.specs.declared.key.Key.{Key}
use Rattle.osm_base.specs.declared.content.Content.{Content}
use Rattle.osm_base.specs.declared.content.Content.TheVariants.{Node, Way, Relation}
use Rattle.osm_table.specs.Table.{TableValue}
use Rattle.dataset.specs.Sound.{IsSound}
use Rattle.tool_api.specs.declared.kinds.Kinds.TheVariants.{Ways}
use Rattle.tool_api.specs.Basic.{with_refs}
use Rattle.tool_api.specs.Changes.{changed, edit}
use Rattle.tool_api.specs.Closing.{closing_tests}
use Rattle.tool_api.specs.Checks.{target_test}
use Rattle.tool_api.proofs.Passed.{named_lives}
use Rattle.tool_api.proofs.Sounds.{edit_sound}

same_kind : (c : Content) → kind_of_content (with_refs reverse c) ≡ kind_of_content c
same_kind (Node tags at) = refl
same_kind (Way tags refs) = refl
same_kind (Relation tags members) = refl

same_refs : (c : Content) (r : Key) → refers (with_refs reverse c) r ≡ refers c r
same_refs (Node tags at) r = refl
same_refs (Relation tags members) r = refl
same_refs (Way tags refs) r =
    list_any_map (is_key r) node (reverse refs)
    ∙ sym (list_any-IsPermutation (λ id. is_key r (node id)) refs (reverse refs) (IsPermutation-reverse refs))
    ∙ sym (list_any_map (is_key r) node refs)

pub turned_sound : (t : TableValue) (way : Key) (limit : ℕ) → target_test t Ways way ≡ None → IsSound t
    → closing_tests t limit (way ∷ []) (changed t (edit t (with_refs reverse)) (way ∷ [])) ≡ None → IsSound (changed t (edit t (with_refs reverse)) (way ∷ []))
turned_sound t way limit passed s closed =
    edit_sound t (with_refs reverse) (way ∷ []) limit (way ∷ []) same_kind (λ c r used. inl (sym (same_refs c r) ∙ used))
    (λ k e named is. named_lives t Ways (way ∷ []) k e (ap (λ o. option_or o None) passed) named is) s closed
