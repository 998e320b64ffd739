use Rattle.std.proofs.Common.{◌≡◌, ◌+◌, ◌≤◌, map, drop}
use Rattle.osm_base.specs.declared.content.Content.TheVariants as content
use Rattle.dataset.specs.Draft.{drafted}
use Rattle.tool_api.specs.Changes.{all_added}
use Rattle.tool_api.specs.Split.{others, tags_at}
use Rattle.way_split.proofs.drafts.add_others.Given as goal

abbrev pub invariant-loop-part : goal.invariant-loop-part
invariant-loop-part l =
    (all_added (drafted l.draft l.ds) (map (λ p. content.Way (tags_at l.ds l.way) p.1) (others l.way (drop l.part-index l.parts)))
    ≡ all_added (drafted l.initial.draft l.ds) (map (λ p. content.Way (tags_at l.ds l.way) p.1) (others l.way l.parts)))
    × (1 ≤ l.draft.next) × (l.draft.next ≤ l.initial.draft.next + l.part-index)
