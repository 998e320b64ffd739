use Rattle.std.proofs.Common.{pos, cond, Some, None, sym, ◌∙◌}
use Rattle.osm_base.specs.declared.key.Kind.TheVariants as kind
use Rattle.tool_api.specs.Combine.{clashes, fold_runs}
use Rattle.way_combine.proofs.Folded.{no_fold, one_fold}
use Rattle.way_combine.proofs.relations.folded_content.Goals as goal

pub returns-in-None : goal.returns-in-None
returns-in-None c =
    let ways = c.args.ways.now in
    let kept = c.args.kept in
    let is = sym c.in-Relation.is in
    no_fold ways kept (record { kind = kind.Way; id = pos 0 }) c.in-Relation.members _ (sym c.in-None.is ∙ c.in_ok-fold_members-in-Relation.ensures)
    ∙ (λ i. cond (clashes ways (Some (is i))) None (Some (fold_runs ways kept (is i))))

pub returns-in-Some : goal.returns-in-Some
returns-in-Some c =
    let ways = c.args.ways.now in
    let kept = c.args.kept in
    let is = sym c.in-Relation.is in
    one_fold ways kept (record { kind = kind.Way; id = pos 0 }) c.in-Relation.tags c.in-Relation.members c.in-Some.members (sym c.in-Some.is ∙ c.in_ok-fold_members-in-Relation.ensures)
    ∙ (λ i. cond (clashes ways (Some (is i))) None (Some (fold_runs ways kept (is i))))
