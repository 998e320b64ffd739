use Rattle.std.proofs.Common.{◌<◌, ◌++◌, ◌∙◌, [], Option, length, ap, arith}
use Rattle.std.specs.List.{cons_option}
use Rattle.dataset.specs.declared.writes.Write.{Write}
use Rattle.dataset.proofs.SideLaws.{writes_more}
use Rattle.dataset.proofs.writes.push_writes.Goals as goal

pub loop-edit-preserved : goal.loop-edit-preserved
loop-edit-preserved c =
    let within : c.loop-edit.edit-index < length c.args.edits.now = grind (arith, c.loop-edit-test.true) in
    writes_more c.args.forth c.args.edits.now c.loop-edit.edit-index c.edit-item.result c.loop-edit.writes.items c.push_write.new.writes.items within c.edit-item.is c.loop-edit.invariant
    (c.in_ok-push_write.ensures ∙ ap (λ (write : Option Write). c.loop-edit.writes.items ++ cons_option write []) c.in_ok-write.ensures)
