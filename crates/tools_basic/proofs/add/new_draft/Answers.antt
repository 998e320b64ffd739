use Rattle.std.proofs.Common.{◌∙◌, ap}
use Rattle.osm_table.specs.Table.{TableValue}
use Rattle.dataset.specs.Draft.{DraftValue, drafted}
use Rattle.dataset.proofs.Changes.{drafted_none}
use Rattle.tool_api.specs.Changes.{added}
use Rattle.tools_basic.proofs.add.new_draft.Goals as goal

pub returns : goal.returns
returns c =
    let t = c.args.ds.now in
    c.in_ok-add_new.ensures.added t ∙ ap (λ (u : TableValue). added u c.args.content) (ap (λ (d : DraftValue). drafted d t) c.new-draft.ensures ∙ drafted_none t.next t)
