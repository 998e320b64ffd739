use Rattle.std.proofs.Common.{Some, None, sym, ap, ◌∙◌, subst, IfOk}
use Rattle.dataset.specs.Sound.{IsSound}
use Rattle.tool_api.specs.Closing.{closing_tests}
use Rattle.tool_api.specs.Combine.{all_tags}
use Rattle.tool_api.specs.Planned.{Plans}
use Rattle.relation_upkeep.proofs.Unions.{tags_joined, tags_refused}
use Rattle.map_checks.proofs.Fuses.{fused_sound}
use Rattle.map_checks.proofs.Plans.{fuse_at, fuse_ends}
use Rattle.map_checks.proofs.fuse.fuse_plan.Goals as goal

pub returns-in-Err : goal.returns-in-Err
returns-in-Err c =
    let t = c.args.ds.now in
    let nodes = c.args.nodes.now in
    fuse_at t c.args.limit nodes None None (Some c.in-Err.refusal) (sym c.in_default.is ∙ c.in_ok-refusal.ensures) c.in_default-place_test.ensures
    (tags_refused c.in-Err.refusal (all_tags t nodes) (sym c.in-Err.is ∙ c.in_ok-tags.ensures))

pub closed-requires : goal.closed-requires
closed-requires c =
    let t = c.args.ds.now in
    let nodes = c.args.nodes.now in
    let is = c.in_ok-draft.ensures in
    record { sound = λ closed. subst IsSound (sym is) (fused_sound t nodes c.kept_key.result (sym c.in_ok-refusal.ensures ∙ c.in_default.is) c.kept_key.ensures c.args.limit c.requires.sound (ap (closing_tests t c.args.limit nodes) (sym is) ∙ closed)) }

pub returns : goal.returns
returns c =
    let t = c.args.ds.now in
    let nodes = c.args.nodes.now in
    subst (λ o. IfOk c.closed.result (Plans t o)) (fuse_ends t c.args.limit nodes _ c.kept_key.result _
    (sym c.in_default.is ∙ c.in_ok-refusal.ensures) c.in_default-place_test.ensures
    (tags_joined c.in-Ok.tags (all_tags t nodes) (sym c.in-Ok.is ∙ c.in_ok-tags.ensures)).0
    c.kept_key.ensures c.new.ensures c.in_ok-draft.ensures) c.closed.ensures
