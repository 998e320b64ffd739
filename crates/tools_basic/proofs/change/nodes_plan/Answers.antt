use Rattle.std.proofs.Common.{◌≡◌, sym, ap, ◌∙◌, map, None}
use Rattle.osm_base.specs.Content.{node}
use Rattle.tool_api.specs.Checks.{ref_tests}
use Rattle.tools_basic.proofs.Replaced.{nodes_sound}
use Rattle.tools_basic.proofs.change.nodes_plan.Goals as goal

pub edits_plan-requires : goal.edits_plan-requires
edits_plan-requires c =
    let t = c.args.ds.now in
    let there : ref_tests t (map node c.args.refs.now) ≡ None =
    ap (ref_tests t) (sym (c.deref.ensures.value ∙ c.in_ok-nodes.ensures ∙ ap (map node) c.as_slice.ensures)) ∙ sym c.in_default-reference_tests.ensures in
    record { sound = nodes_sound t c.args.key c.args.refs.now c.args.limit c.requires.sound (sym c.in_default.ensures) there }
