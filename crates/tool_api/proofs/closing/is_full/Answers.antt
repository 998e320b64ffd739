use Rattle.std.proofs.Common.{is_some, ap, subst, ◌∙◌, ◌≤◌}
use Rattle.std.specs.List.{count_by}
use Rattle.osm_table.specs.Table.{entry_of}
use Rattle.dataset.specs.Draft.{drafted}
use Rattle.tool_api.proofs.Rooms.{too_many, room_for_all}
use Rattle.tool_api.proofs.closing.is_full.Goals as goal

pub returns-then-len-limit : goal.returns-then-len-limit
returns-then-len-limit c =
    room_for_all c.args.draft.now c.args.ds.now c.args.limit _ _ c.len.ensures c.len-2.ensures (subst (λ n. n ≤ 1000000000000000000) c.next.ensures c.if-next-gt-LAST_NUMBER.false) c.if-len-limit.true

pub returns : goal.returns
returns c =
    too_many c.args.draft.now c.args.ds.now c.in_ok-keys.keys.items c.args.limit _ _ _ c.in_ok-keys.ensures
    (c.held_before-before.ensures ∙ ap (count_by (λ k. is_some (entry_of c.args.ds.now k))) c.deref.ensures.value)
    (c.held_after-after.ensures ∙ ap (count_by (λ k. is_some (entry_of (drafted c.args.draft.now c.args.ds.now) k))) c.deref-2.ensures.value)
    c.len-3.ensures
    (subst (λ n. n ≤ 1000000000000000000) c.next.ensures c.if-next-gt-LAST_NUMBER.false)
