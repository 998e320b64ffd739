use Rattle.std.proofs.Common.{◌≡◌, ◌∙◌, Some, sym, ap, arith, w64, to_z, of_z}
use Rattle.std.proofs.lemmas.Int.{to_z-of_z}
use Rattle.opl_line.proofs.Items.{first_behind}
use Rattle.opl_line.proofs.Members.{no_member, no_kind, no_id, no_role, role_left, whole_member}
use Rattle.opl_line.proofs.Ways.{passed, fails_first, none_behind, some_behind}
use Rattle.opl_line.proofs.lists.member_at.Goals as goal

pub returns-in_default : goal.returns-in_default
returns-in_default c = no_member c.args.item.now c.in_default.len_below

pub returns-in_default-kind_of : goal.returns-in_default-kind_of
returns-in_default-kind_of c =
    no_kind c.args.item.now _ _ (first_behind c.args.item.now c.in-len1-up.len_at_least) (sym c.kind_of.ensures ∙ c.in_default-kind_of.is)

pub returns-in_default-id_front : goal.returns-in_default-id_front
returns-in_default-id_front c =
    no_id c.args.item.now _ _ c.in-Some.kind (first_behind c.args.item.now c.in-len1-up.len_at_least) (sym c.kind_of.ensures ∙ c.in-Some.is) (sym c.in_default-id_front.ensures.value)

pub returns-in_default-after : goal.returns-in_default-after
returns-in_default-after c =
    no_role c.args.item.now _ _ c.in-Some.kind c.in-Some-id_front.id (first_behind c.args.item.now c.in-len1-up.len_at_least) (sym c.kind_of.ensures ∙ c.in-Some.is) (sym c.in-Some-id_front.ensures.value)
    (none_behind _ _ _ c.in-Some-id_front.ensures.rest c.in_default-after.is)

pub returns-in_err-role : goal.returns-in_err-role
returns-in_err-role c =
    let left = role_left c.args.item.now _ _ c.in-Some.kind c.in-Some-id_front.id c.in-Some-after.role.now (first_behind c.args.item.now c.in-len1-up.len_at_least) (sym c.kind_of.ensures ∙ c.in-Some.is) (sym c.in-Some-id_front.ensures.value)
    (some_behind _ _ _ c.in-Some-id_front.ensures.rest _ c.in-Some-after.is) in
    passed (λ member. member) c.from_residual.result c.in_err-role.field-0.0 _ c.from_residual.ensures.1 (rw left (fails_first _ _ _ c.in_err-role.ensures))

pub returns : goal.returns
returns c =
    let same : to_z w64 (of_z w64 c.in-Some-id_front.id) ≡ c.in-Some-id_front.id = grind (arith, to_z-of_z) in
    whole_member c.args.item.now _ _ c.in-Some.kind (to_z w64 (of_z w64 c.in-Some-id_front.id)) c.in-Some-after.role.now c.in_ok-role.role (first_behind c.args.item.now c.in-len1-up.len_at_least) (sym c.kind_of.ensures ∙ c.in-Some.is)
    (sym c.in-Some-id_front.ensures.value ∙ ap Some (sym same)) (some_behind _ _ _ c.in-Some-id_front.ensures.rest _ c.in-Some-after.is) c.in_ok-role.ensures
