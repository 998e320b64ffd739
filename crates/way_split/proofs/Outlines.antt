-- The draft of a split makes the table of the definition.
use Rattle.std.proofs.Common.{◌≡◌, ℤ, List, [], ◌∷◌, map, ap, ◌∙◌}
use Rattle.std.specs.FinMap as fin
use Rattle.osm_base.specs.declared.key.Key.{Key}
use Rattle.osm_base.specs.declared.content.Content.TheVariants as content
use Rattle.osm_table.specs.Table.{TableValue}
use Rattle.dataset.specs.Draft.{DraftValue, drafted}
use Rattle.dataset.proofs.Changes.{drafted_none}
use Rattle.tool_api.specs.Changes.{changed, edit, all_added}
use Rattle.tool_api.specs.Basic.{with_refs}
use Rattle.tool_api.specs.Split.{tags_at, piece_of, others, kept_refs, relations_of, split_table}
use Rattle.tool_api.specs.Upkeep.{PieceValue, replaced}
use Rattle.tool_api.proofs.Looks.{next_changed}
use Rattle.way_split.proofs.Added.{ways_of}

-- The whole draft.

module _ (t : TableValue) (way : Key) (parts : List (Key × List ℤ)) (d₀ d₁ d₂ : DraftValue) (rels : List Key) (pieces : List PieceValue) (refs : List ℤ)
    (none : d₀ ≡ record { puts = fin.empty; next = t.next })
    (relations : drafted d₁ t ≡ changed (drafted d₀ t) (edit t (replaced t way pieces)) rels)
    (one : drafted d₂ t ≡ changed (drafted d₁ t) (edit t (with_refs (λ _. refs))) (way ∷ [])) where
  begun_with : drafted d₀ t ≡ t
  begun_with = ap (λ (d : DraftValue). drafted d t) none ∙ drafted_none t.next t

  -- the number hasn't risen yet
  pub number_stays : d₂.next ≡ t.next
  number_stays =
      ap (λ (x : TableValue). x.next) one ∙ next_changed (drafted d₁ t) (edit t (with_refs (λ _. refs))) (way ∷ [])
      ∙ ap (λ (x : TableValue). x.next) relations ∙ next_changed (drafted d₀ t) (edit t (replaced t way pieces)) rels ∙ ap (λ (x : TableValue). x.next) begun_with

  pub outlined : (d₃ : DraftValue) → rels ≡ relations_of t way → pieces ≡ map (piece_of way) parts → refs ≡ kept_refs way parts
      → drafted d₃ t ≡ all_added (drafted d₂ t) (map (λ (p : Key × List ℤ). content.Way (tags_at t way) p.1) (others way parts)) → drafted d₃ t ≡ split_table t way parts
  outlined d₃ rel piece kept added_all =
      added_all
      ∙ ap (λ (x : TableValue). all_added x (ways_of (tags_at t way) (others way parts))) (one ∙ ap (λ (x : TableValue). changed x (edit t (with_refs (λ _. refs))) (way ∷ [])) relations)
      ∙ (λ i. all_added (changed (changed (begun_with i) (edit t (replaced t way (piece i))) (rel i)) (edit t (with_refs (λ _. kept i))) (way ∷ [])) (ways_of (tags_at t way) (others way parts)))
