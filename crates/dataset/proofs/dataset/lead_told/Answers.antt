use Rattle.std.proofs.Common.{◌≡◌, ◌∙◌, List, sym, ap, subst, arith}
use Rattle.std.specs.FinMap as fin
use Rattle.std.specs.Prelude.{T}
use Rattle.std.proofs.lemmas.Result.{on_ok_weaker}
use Rattle.osm_table.specs.Told.{ToldValue}
use Rattle.dataset.specs.Edit.{Edit}
use Rattle.dataset.specs.Patch.{in_order}
use Rattle.dataset.proofs.ToldPatch.{told_comes, told_goes, told_patch}
use Rattle.dataset.proofs.dataset.lead_told.Goals as goal

pub returns-then-len-eq0-clause-ok : goal.returns-then-len-eq0-clause-ok
returns-then-len-eq0-clause-ok c =
    let none : fin.len c.args.table.now.entries ≡ 0 = omega (arith, c.len.ensures, c.if-len-eq0.true) in
    on_ok_weaker c.become_told.result (λ is. is ∙ told_comes c.args.told.now.told c.args.table.now c.args.forth c.args.next c.if-forth.true none) c.become_told.ensures.ok

pub returns-then-len-clause-ok : goal.returns-then-len-clause-ok
returns-then-len-clause-ok c =
    let len : fin.len c.args.table.now.entries ≡ fin.len c.value.result.now.told = omega (arith, c.len-then-not-forth.ensures, c.len-then-not-forth-2.ensures.value, c.if-len.true) in
    c.become_empty.ensures.table
    ∙ told_goes c.args.told.now.told c.args.table.now c.args.forth c.args.next c.if-not-forth.true c.requires.stands (len ∙ ap (λ (m : ToldValue). fin.len m.told) c.value.ensures)

pub lead_listed-led-requires-clause-order : goal.lead_listed-led-requires-clause-order
lead_listed-led-requires-clause-order c = subst (λ (es : List Edit). T (in_order es)) (sym (c.as_slice.ensures.value ∙ c.in_ok-edits.ensures)) (told_patch _ 0 0).by_rank
