use Rattle.std.proofs.Common.{refl, sym, subst}
use Rattle.std.specs.FinMap as fin
use Rattle.dataset.specs.Draft.{drafted}
use Rattle.dataset.specs.Patch.{IsDiff}
use Rattle.dataset.proofs.Drafted.{whole_at}
use Rattle.dataset.proofs.Differs.{is_diff}
use Rattle.dataset.proofs.dataset.DataSet.patch_of.Goals as goal

pub listed-requires : goal.listed-requires
listed-requires c =
    (whole_at c.args.draft.now c.self.inside.table c.args.self.now (fin.keys c.args.draft.now.puts) c.in_ok-edits.edits.items c.next.result c.next-2.result c.self.view_is refl c.in_ok-edits.ensures c.next.ensures c.next-2.ensures).patch

pub returns-clause-differs : goal.returns-clause-differs
returns-clause-differs c =
    subst (IsDiff c.args.self.now (drafted c.args.draft.now c.args.self.now)) (sym c.listed.ensures)
    (whole_at c.args.draft.now c.self.inside.table c.args.self.now (fin.keys c.args.draft.now.puts) c.in_ok-edits.edits.items c.next.result c.next-2.result c.self.view_is refl c.in_ok-edits.ensures c.next.ensures c.next-2.ensures)

pub returns-clause-value : goal.returns-clause-value
returns-clause-value c = is_diff c.args.self.now (drafted c.args.draft.now c.args.self.now) c.listed.result (returns-clause-differs c)
