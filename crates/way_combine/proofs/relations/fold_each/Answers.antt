use Rattle.std.proofs.Common.{arith, ◌<◌, length, sym, ◌∙◌}
use Rattle.tool_api.specs.Changes.{content_of, edit}
use Rattle.tool_api.specs.Combine.{clashes, fold_runs}
use Rattle.tool_api.proofs.Looks.{one_more}
use Rattle.way_combine.proofs.Folded.{found_here, passed_over}
use Rattle.way_combine.proofs.relations.fold_each.Goals as goal

pub loop-relation-preserved : goal.loop-relation-preserved
loop-relation-preserved c =
    let t = c.args.ds.now in
    let g = edit t (fold_runs c.args.ways.now c.args.kept) in
    let within : c.loop-relation.relation-index < length c.args.relations.now = omega arith in
    let over = passed_over (λ k. clashes c.args.ways.now (content_of t k)) g c.args.relations.now c.loop-relation.relation-index _ c.in-Some.after _ within (sym c.in-Some.is ∙ c.in_ok-folded_at.ensures) c.loop-relation.invariant.clash in
    record {
      clash = over.0;
      draft = one_more t g c.args.relations.now c.loop-relation.relation-index _ _ _ _ _ within over.1 c.in_ok-put-in-Some.ensures.ok c.loop-relation.invariant.draft;
    }

pub returns-in-None-clause-clash : goal.returns-in-None-clause-clash
returns-in-None-clause-clash c =
    let t = c.args.ds.now in
    let within : c.loop-relation.relation-index < length c.args.relations.now = omega arith in
    found_here (λ k. clashes c.args.ways.now (content_of t k)) (edit t (fold_runs c.args.ways.now c.args.kept)) c.args.relations.now c.loop-relation.relation-index _ _ within (sym c.in-None.is ∙ c.in_ok-folded_at.ensures) c.loop-relation.invariant.clash
