use Rattle.std.proofs.Common.{◌≡◌, drop}
use Rattle.std.specs.List.{find}
use Rattle.dataset.specs.Draft.{drafted}
use Rattle.tool_api.specs.Changes.{changed, content_of, edit}
use Rattle.tool_api.specs.Combine.{clashes, fold_runs}
use Rattle.way_combine.proofs.relations.fold_each.Given as goal

abbrev pub invariant-loop-relation : goal.invariant-loop-relation
invariant-loop-relation l = record {
  clash : find (λ k. clashes l.ways (content_of l.ds k)) (drop l.relation-index l.relations) ≡ find (λ k. clashes l.ways (content_of l.ds k)) l.relations;
  draft : changed (drafted l.draft l.ds) (edit l.ds (fold_runs l.ways l.kept)) (drop l.relation-index l.relations) ≡ changed (drafted l.initial.draft l.ds) (edit l.ds (fold_runs l.ways l.kept)) l.relations;
}
