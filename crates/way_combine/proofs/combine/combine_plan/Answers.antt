use Rattle.std.proofs.Common.{◌≡◌, Option, Some, None, Ok, refl, sym, ap, ◌∙◌, subst, IfOk}
use Rattle.std.specs.Option.{IfNone}
use Rattle.dataset.specs.Draft.{drafted}
use Rattle.dataset.specs.Sound.{IsSound}
use Rattle.tool_api.specs.declared.refusal.Refusal.{Refusal}
use Rattle.tool_api.specs.Changes.{changed, edit}
use Rattle.tool_api.specs.Closing.{closing_tests}
use Rattle.tool_api.specs.Combine.{all_tags, fold_runs, relations_among}
use Rattle.tool_api.specs.Planned.{Plans}
use Rattle.tool_api.proofs.Looks.{from_none}
use Rattle.relation_upkeep.proofs.Unions.{tags_joined, tags_refused}
use Rattle.way_combine.proofs.Combines.{combine_at, combine_ends}
use Rattle.way_combine.proofs.Sounds.{combined_sound}
use Rattle.way_combine.proofs.combine.combine_plan.Goals as goal

pub returns-in-Err-2 : goal.returns-in-Err-2
returns-in-Err-2 c =
    let t = c.args.ds.now in
    let ways = c.args.ways.now in
    combine_at t c.args.limit ways None None (Some c.in-Err-2.refusal) _ (Ok c.in-Ok.refs) (sym c.in_default.is ∙ c.in_ok-refusal.ensures) c.in_default-way_tests.ensures (sym c.in-Ok.is ∙ c.in_ok-refs.ensures)
    (tags_refused c.in-Err-2.refusal (all_tags t ways) (sym c.in-Err-2.is ∙ c.in_ok-tags.ensures)) refl

pub returns-in-Some-2 : goal.returns-in-Some-2
returns-in-Some-2 c =
    let t = c.args.ds.now in
    let ways = c.args.ways.now in
    combine_at t c.args.limit ways None None None (Some c.in-Some-2.refusal) (Ok c.in-Ok.refs) (sym c.in_default.is ∙ c.in_ok-refusal.ensures) c.in_default-way_tests.ensures (sym c.in-Ok.is ∙ c.in_ok-refs.ensures)
    (tags_joined c.in-Ok-2.tags (all_tags t ways) (sym c.in-Ok-2.is ∙ c.in_ok-tags.ensures)).0 (sym c.in-Some-2.is ∙ c.in_ok-refusal-2.ensures.test)

pub join_ways-requires-clause-relations : goal.join_ways-requires-clause-relations
join_ways-requires-clause-relations c =
    let t = c.args.ds.now in
    let ways = c.args.ways.now in
    let g = edit t (fold_runs ways c.kept_key-kept.result) in
    from_none t g (relations_among t ways) _ _ c.new-draft.ensures
    (subst (λ (o : Option Refusal). IfNone o (drafted c.fold_relations.new.draft t ≡ changed (drafted c.new-draft.result t) g (relations_among t ways))) c.in_default-2.is c.in_ok-refusal-2.ensures.draft)

pub closed-requires : goal.closed-requires
closed-requires c =
    let t = c.args.ds.now in
    let ways = c.args.ways.now in
    let is = c.in_ok-join_ways.ensures in
    record {
      sound = λ closed. subst IsSound (sym is) (combined_sound t c.args.limit ways c.in-Ok.refs c.kept_key-kept.result (record {
        sound = c.requires.sound;
        tests = sym c.in_ok-refusal.ensures ∙ c.in_default.is;
        joins = sym c.in_ok-refs.ensures ∙ c.in-Ok.is;
        members = sym c.in_ok-refusal-2.ensures.test ∙ c.in_default-2.is;
        kept_is = c.kept_key-kept.ensures;
        closed = ap (closing_tests t c.args.limit ways) (sym is) ∙ closed;
      }));
    }

pub returns : goal.returns
returns c =
    let t = c.args.ds.now in
    let ways = c.args.ways.now in
    subst (λ o. IfOk c.closed.result (Plans t o)) (combine_ends t c.args.limit ways _ c.in-Ok.refs c.kept_key-kept.result _
    (sym c.in_default.is ∙ c.in_ok-refusal.ensures) c.in_default-way_tests.ensures (sym c.in-Ok.is ∙ c.in_ok-refs.ensures)
    (tags_joined c.in-Ok-2.tags (all_tags t ways) (sym c.in-Ok-2.is ∙ c.in_ok-tags.ensures)).0
    (sym c.in_default-2.is ∙ c.in_ok-refusal-2.ensures.test) c.kept_key-kept.ensures c.new.ensures c.in_ok-join_ways.ensures) c.closed.ensures
