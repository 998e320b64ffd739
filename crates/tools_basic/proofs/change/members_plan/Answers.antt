use Rattle.std.proofs.Common.{◌≡◌, sym, ap, ◌∙◌, map, None}
use Rattle.osm_base.specs.declared.members.Member.{Member}
use Rattle.tool_api.specs.Checks.{ref_tests}
use Rattle.tools_basic.proofs.Replaced.{members_sound}
use Rattle.tools_basic.proofs.change.members_plan.Goals as goal

pub edits_plan-requires : goal.edits_plan-requires
edits_plan-requires c =
    let t = c.args.ds.now in
    let there : ref_tests t (map (λ (m : Member). m.key) c.args.members.now) ≡ None =
    ap (ref_tests t) (sym (c.deref.ensures.value ∙ c.in_ok-objects.ensures ∙ ap (map (λ (m : Member). m.key)) c.as_slice.ensures)) ∙ sym c.in_default-reference_tests.ensures in
    record { sound = members_sound t c.args.key c.args.members.now c.args.limit c.requires.sound (sym c.in_default.ensures) there }
