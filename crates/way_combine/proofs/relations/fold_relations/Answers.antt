use Rattle.std.proofs.Common.{◌≡◌, Option, Some, None, sym, ap, ◌∙◌, subst}
use Rattle.std.specs.Option.{IfNone}
use Rattle.osm_base.specs.declared.key.Key.{Key}
use Rattle.dataset.specs.Draft.{drafted}
use Rattle.tool_api.specs.Changes.{changed, edit}
use Rattle.tool_api.specs.Combine.{fold_runs}
use Rattle.way_combine.proofs.Among.{clash_among}
use Rattle.way_combine.proofs.relations.fold_relations.Goals as goal

pub returns-in-None-clause-test : goal.returns-in-None-clause-test
returns-in-None-clause-test c = clash_among c.args.ds.now c.args.ways.now c.deref.result.now None (c.deref.ensures.value ∙ c.in_ok-relations.ensures) (sym c.in-None.is ∙ c.in_ok-fold_each.ensures.clash)

pub returns-in-None-clause-draft : goal.returns-in-None-clause-draft
returns-in-None-clause-draft c =
    let t = c.args.ds.now in
    let g = edit t (fold_runs c.args.ways.now c.args.kept) in
    subst (λ (o : Option Key). IfNone o (drafted c.fold_each.new.draft t ≡ changed (drafted c.args.draft.now t) g c.deref.result.now)) c.in-None.is c.in_ok-fold_each.ensures.draft
    ∙ ap (changed (drafted c.args.draft.now t) g) (c.deref.ensures.value ∙ c.in_ok-relations.ensures)

pub returns-clause-test : goal.returns-clause-test
returns-clause-test c = clash_among c.args.ds.now c.args.ways.now c.deref.result.now (Some c.in-Some.relation) (c.deref.ensures.value ∙ c.in_ok-relations.ensures) (sym c.in-Some.is ∙ c.in_ok-fold_each.ensures.clash)
