-- A table whose objects have other tags is sound.
use Rattle.std.proofs.Common.{◌≡◌, ℕ, List, None, refl, sym, ap, ◌∙◌}
use Rattle.std.specs.List.{list_any}
use mathlib.Core.Logic.{inl}
use Rattle.osm_base.specs.Rank.{is_key}
use Rattle.osm_base.specs.Tags.{Pair}
use Rattle.osm_base.specs.Content.{refs_of}
use Rattle.osm_base.specs.declared.key.Key.{Key}
use Rattle.osm_base.specs.declared.content.Content.{Content}
use Rattle.osm_base.specs.declared.content.Content.TheVariants as content
use Rattle.osm_table.specs.Table.{TableValue}
use Rattle.dataset.specs.Sound.{IsSound}
use Rattle.tool_api.specs.declared.kinds.Kinds.TheVariants.{Any}
use Rattle.tool_api.specs.Checks.{list_tests}
use Rattle.tool_api.specs.Changes.{changed, edit}
use Rattle.tool_api.specs.Closing.{closing_tests}
use Rattle.tool_api.specs.Basic.{retagged, with_tags}
use Rattle.tool_api.proofs.Passed.{both_none, named_lives}
use Rattle.tool_api.proofs.Sounds.{edit_sound}
use Rattle.tool_api.proofs.Changed.{kind_with}

refs_with : (f : List Pair → List Pair) (c : Content) → refs_of (with_tags f c) ≡ refs_of c
refs_with f (content.Node tags at) = refl
refs_with f (content.Way tags refs) = refl
refs_with f (content.Relation tags members) = refl

pub tags_sound : (t : TableValue) (ks : List Key) (limit : ℕ) (pairs : List Pair) → IsSound t → list_tests t Any ks ≡ None
    → closing_tests t limit ks (changed t (edit t (with_tags (λ tags. retagged tags pairs))) ks) ≡ None → IsSound (changed t (edit t (with_tags (λ tags. retagged tags pairs))) ks)
tags_sound t ks limit pairs s passed closed =
    edit_sound t (with_tags (λ tags. retagged tags pairs)) ks limit ks (kind_with _) (λ c r h. inl (ap (list_any (is_key r)) (sym (refs_with _ c)) ∙ h))
    (λ k e. named_lives t Any ks k e (both_none _ _ passed).1) s closed
