use Rattle.std.proofs.Common.{Some}
use Rattle.std.proofs.lemmas.Result.{on_ok_weaker}
use Rattle.dataset.specs.Arrivals.{arrivals}
use Rattle.dataset.proofs.Arrivals.{puts_told, puts_none}
use Rattle.dataset.proofs.Drafted.{found_step, none_step}
use Rattle.dataset.proofs.difference.push_told.Goals as goal

pub returns-in_ok-edit-in-Some : goal.returns-in_ok-edit-in-Some
returns-in_ok-edit-in-Some c =
    on_ok_weaker c.push_found.result (λ items ks over.
    found_step (arrivals c.args.told.now.told c.args.table.now.next) c.args.table.now c.args.key (Some c.in-Some.after.now) c.in_ok-edit-in-Some.edit ks c.args.edits.now.items c.push_found.new.edits.items
    (puts_told c.args.told.now.told c.args.table.now.next c.args.key c.in-Some.after.now c.in-Some.ensures)
    c.in_ok-edit-in-Some.ensures items over) c.push_found.ensures

pub returns-in-None : goal.returns-in-None
returns-in-None c = λ ks over.
    none_step (arrivals c.args.told.now.told c.args.table.now.next) c.args.table.now c.args.key ks c.args.edits.now.items (puts_none c.args.told.now.told c.args.table.now.next c.args.key c.in-None.ensures) over
