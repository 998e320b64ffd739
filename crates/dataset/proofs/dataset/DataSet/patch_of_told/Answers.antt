use Rattle.std.proofs.Common.{◌≡◌, refl, sym, subst, arith}
use Rattle.std.specs.FinMap as fin
use Rattle.osm_table.specs.Told.{ToldValue}
use Rattle.dataset.specs.Arrivals.{arrivals}
use Rattle.dataset.specs.Draft.{drafted}
use Rattle.dataset.specs.Patch.{IsDiff}
use Rattle.dataset.proofs.Arrivals.{told_whole}
use Rattle.dataset.proofs.Differs.{is_diff}
use Rattle.dataset.proofs.ToldPatch.{told_differs}
use Rattle.dataset.proofs.dataset.DataSet.patch_of_told.Goals as goal

pub returns-then-len-eq0-clause-differs : goal.returns-then-len-eq0-clause-differs
returns-then-len-eq0-clause-differs c =
    let none : fin.len c.self.inside.table.entries ≡ 0 = omega (arith, c.len.ensures, c.if-len-eq0.true) in
    subst (λ (m : ToldValue). IsDiff c.args.self.now (drafted (arrivals m.told c.args.self.now.next) c.args.self.now) c.told.result) c.in_ok-copy.ensures
    (subst (IsDiff c.args.self.now (drafted (arrivals c.in_ok-copy.field-0.told c.args.self.now.next) c.args.self.now)) (sym c.told.ensures)
    (told_differs c.in_ok-copy.field-0.told c.self.inside.table c.args.self.now c.next-number.result c.self.view_is (fin.empty_of_len c.self.inside.table.entries none) c.next-number.ensures))

pub returns-then-len-eq0-clause-value : goal.returns-then-len-eq0-clause-value
returns-then-len-eq0-clause-value c = is_diff c.args.self.now (drafted (arrivals c.args.told.now.told c.args.self.now.next) c.args.self.now) c.told.result (returns-then-len-eq0-clause-differs c)

pub listed-requires : goal.listed-requires
listed-requires c =
    (told_whole c.value.result.now.told c.self.inside.table c.args.self.now (fin.keys c.value.result.now.told) c.in_ok-edits.edits.items c.next-number.result c.self.view_is refl c.in_ok-edits.ensures c.next-number.ensures).patch

pub returns-clause-differs : goal.returns-clause-differs
returns-clause-differs c =
    subst (λ (m : ToldValue). IsDiff c.args.self.now (drafted (arrivals m.told c.args.self.now.next) c.args.self.now) c.listed.result) c.value.ensures
    (subst (IsDiff c.args.self.now (drafted (arrivals c.value.result.now.told c.args.self.now.next) c.args.self.now)) (sym c.listed.ensures)
    (told_whole c.value.result.now.told c.self.inside.table c.args.self.now (fin.keys c.value.result.now.told) c.in_ok-edits.edits.items c.next-number.result c.self.view_is refl c.in_ok-edits.ensures c.next-number.ensures))

pub returns-clause-value : goal.returns-clause-value
returns-clause-value c = is_diff c.args.self.now (drafted (arrivals c.args.told.now.told c.args.self.now.next) c.args.self.now) c.listed.result (returns-clause-differs c)
