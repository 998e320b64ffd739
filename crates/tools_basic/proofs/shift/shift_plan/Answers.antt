use Rattle.std.proofs.Common.{◌≡◌, sym, ap, ◌∙◌, subst, None, IfOk}
use Rattle.osm_table.specs.Table.{entry_of}
use Rattle.tool_api.specs.Basic.{move_entry_test}
use Rattle.tool_api.specs.Planned.{Plans}
use Rattle.tool_api.specs.Checks.{first_of}
use Rattle.tools_basic.proofs.Shifts.{shift_sound, shift_ends}
use Rattle.tools_basic.proofs.shift.shift_plan.Goals as goal

pub edits_plan-requires : goal.edits_plan-requires
edits_plan-requires c =
    let t = c.args.ds.now in
    let by = c.args.by.now in
    let movable : first_of (λ n. move_entry_test by.dx by.dy n (entry_of t n)) c.deref-2.result.now ≡ None =
    ap (first_of (λ n. move_entry_test by.dx by.dy n (entry_of t n))) (c.deref-2.ensures.value ∙ sym c.deref.ensures.value) ∙ sym c.in_default-move_tests.ensures in
    record { sound = shift_sound t c.args.keys.now _ by.dx by.dy c.args.limit (sym c.in_ok-refusal.ensures ∙ c.in_default.is) (c.deref-2.ensures.value ∙ c.in_ok-nodes.ensures) c.requires.sound movable }

pub returns : goal.returns
returns c =
    let t = c.args.ds.now in
    let by = c.args.by.now in
    let movable : first_of (λ n. move_entry_test by.dx by.dy n (entry_of t n)) c.deref-2.result.now ≡ None =
    ap (first_of (λ n. move_entry_test by.dx by.dy n (entry_of t n))) (c.deref-2.ensures.value ∙ sym c.deref.ensures.value) ∙ sym c.in_default-move_tests.ensures in
    subst (λ o. IfOk c.edits_plan.result (Plans t o)) (shift_ends t c.args.keys.now _ by.dx by.dy c.args.limit (sym c.in_ok-refusal.ensures ∙ c.in_default.is) (c.deref-2.ensures.value ∙ c.in_ok-nodes.ensures) movable) c.edits_plan.ensures
