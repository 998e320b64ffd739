-- The draft of a fuse leads to its table.
use Rattle.std.proofs.Common.{◌≡◌, not, List, [], ◌∷◌, ◌∙◌}
use Rattle.std.specs.List.{filter}
use Rattle.std.specs.FinMap as fin
use Rattle.osm_base.specs.Rank.{is_key}
use Rattle.osm_base.specs.Tags.{Pair}
use Rattle.osm_base.specs.declared.key.Key.{Key}
use Rattle.osm_table.specs.Table.{TableValue}
use Rattle.dataset.specs.Draft.{DraftValue, drafted}
use Rattle.tool_api.specs.Basic.{with_tags}
use Rattle.tool_api.specs.Changes.{changed, edit, delete}
use Rattle.tool_api.specs.Combine.{united, all_tags}
use Rattle.tool_api.specs.Fuse.{fused, fused_content, users_among}
use Rattle.tool_api.proofs.Looks.{from_none}

pub draft_is : (t : TableValue) (nodes : List Key) (kept : Key) (tags : List Pair) (d d₁ d₂ d₃ : DraftValue) → d ≡ record { puts = fin.empty; next = t.next }
    → drafted d₁ t ≡ changed (drafted d t) (edit t (fused_content nodes kept)) (users_among t nodes) → drafted d₂ t ≡ changed (drafted d₁ t) (delete t) (filter (λ k. not (is_key kept k)) nodes)
    → drafted d₃ t ≡ changed (drafted d₂ t) (edit t (with_tags (λ _. tags))) (kept ∷ [])
    → tags ≡ united (all_tags t nodes) → drafted d₃ t ≡ fused t nodes kept
draft_is t nodes kept tags d d₁ d₂ d₃ none first second third all =
    let moved : drafted d₁ t ≡ changed t (edit t (fused_content nodes kept)) (users_among t nodes) =
    from_none t (edit t (fused_content nodes kept)) (users_among t nodes) d d₁ none first in
    let gone : drafted d₂ t ≡ changed (changed t (edit t (fused_content nodes kept)) (users_among t nodes)) (delete t) (filter (λ k. not (is_key kept k)) nodes) =
    second ∙ (λ i. changed (moved i) (delete t) (filter (λ k. not (is_key kept k)) nodes)) in
    third ∙ (λ i. changed (gone i) (edit t (with_tags (λ _. all i))) (kept ∷ []))
