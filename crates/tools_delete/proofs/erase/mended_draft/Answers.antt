use Rattle.std.proofs.Common.{◌∙◌, ap}
use Rattle.osm_table.specs.Table.{TableValue}
use Rattle.tool_api.specs.Basic.{with_members, with_refs}
use Rattle.tool_api.specs.Changes.{changed, delete, edit}
use Rattle.tool_api.specs.Gone.{members_without, mended}
use Rattle.tool_api.specs.Checks.{is_named}
use Rattle.tools_delete.proofs.erase.mended_draft.Goals as goal

pub returns : goal.returns
returns c =
    let t = c.args.ds.now in
    let mend = edit t (with_refs (mended c.args.named.now)) in
    let lose = edit t (with_members (members_without (is_named c.args.going.now))) in
    let deleted = c.in_ok-draft.ensures ∙ ap (changed t (delete t)) c.as_slice.ensures in
    c.in_ok-edit_all-2.ensures ∙ ap (λ (u : TableValue). changed u lose c.args.relations.now) (c.in_ok-edit_all.ensures ∙ ap (λ (u : TableValue). changed u mend c.args.ways.now) deleted)
