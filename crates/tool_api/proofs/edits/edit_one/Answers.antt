use Rattle.std.proofs.Common.{ap, ◌∙◌, Option}
use Rattle.std.specs.FinMap as map
use Rattle.std.proofs.lemmas.Result.{on_ok_weaker}
use Rattle.osm_table.specs.declared.entry.Entry.{Entry}
use Rattle.tool_api.proofs.edits.edit_one.Goals as goal

pub returns : goal.returns
returns g c =
    on_ok_weaker c.put.result (λ is. is ∙ ap (λ (after : Option Entry). record { puts = map.insert c.args.draft.now.puts c.args.key after; next = c.args.draft.now.next }) c.in_ok-after.ensures) c.put.ensures.ok
