use Rattle.std.proofs.Common.{sym, subst}
use Rattle.dataset.specs.Patch.{PatchValue, IsDiff}
use Rattle.dataset.proofs.Differs.{is_diff}
use Rattle.dataset.proofs.EntriesPatch.{table_with, entries_differ}
use Rattle.dataset.proofs.dataset.DataSet.patch_of_entries.Goals as goal

pub listed-requires : goal.listed-requires
listed-requires c =
    (entries_differ c.args.entries.now c.in_ok-edits.edits.items c.self.inside.table c.args.self.now c.next.result c.args.next c.self.view_is c.requires.empty c.next.ensures c.requires.order c.in_ok-edits.ensures).patch

pub returns-clause-differs : goal.returns-clause-differs
returns-clause-differs c =
    subst (IsDiff c.args.self.now (table_with c.args.entries.now c.args.next)) (sym c.listed.ensures)
    (entries_differ c.args.entries.now c.in_ok-edits.edits.items c.self.inside.table c.args.self.now c.next.result c.args.next c.self.view_is c.requires.empty c.next.ensures c.requires.order c.in_ok-edits.ensures)

pub returns-clause-value : goal.returns-clause-value
returns-clause-value c = is_diff c.args.self.now (table_with c.args.entries.now c.args.next) c.listed.result (returns-clause-differs c)
