use Rattle.std.proofs.Common.{ap, ◌∙◌, Option}
use Rattle.std.specs.FinMap as map
use Rattle.std.proofs.lemmas.Result.{on_ok_weaker}
use Rattle.osm_table.specs.declared.entry.Entry.{Entry}
use Rattle.dataset.proofs.draft.Draft.put.Goals as goal

pub returns-clause-ok : goal.returns-clause-ok
returns-clause-ok c =
    on_ok_weaker c.put_shared.result (λ is. is ∙ ap (λ (after : Option Entry). record { puts = map.insert c.args.self.now.puts c.args.key after; next = c.args.self.now.next }) c.in_ok-after.ensures) c.put_shared.ensures.ok
