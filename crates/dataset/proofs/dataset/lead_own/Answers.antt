use Rattle.std.proofs.Common.{◌∙◌}
use Rattle.dataset.specs.Index.{count_kept}
use Rattle.dataset.proofs.SideLaws.{writes_there, led_whole, keys_undone}
use Rattle.dataset.proofs.LeadLaws.{lead_gone, lead_exact, exact_as_it_was}
use Rattle.dataset.proofs.dataset.lead_own.Goals as goal

pub lead-requires : goal.lead-requires
lead-requires c = lead_gone c.args.table.now (count_kept c.args.index.now) c.args.forth c.args.edits.now c.requires.order c.requires.stands c.requires.exact

pub returns-in-Err-lead-clause-err : goal.returns-in-Err-lead-clause-err
returns-in-Err-lead-clause-err c = c.drop_keys.ensures ∙ keys_undone c.args.forth c.args.edits.now c.args.table.now c.put_keys.new.table c.requires.order c.requires.stands c.in_default.ensures.ok

pub returns-in-Err-lead-clause-exact : goal.returns-in-Err-lead-clause-exact
returns-in-Err-lead-clause-exact c = exact_as_it_was c.args.table.now c.drop_keys.new.table (count_kept c.args.index.now) (count_kept c.lead.new.self) (returns-in-Err-lead-clause-err c) c.in-Err-lead.ensures.err c.requires.exact

pub write_all-requires : goal.write_all-requires
write_all-requires c = writes_there c.args.forth c.args.edits.now c.in_ok-writes.writes.items c.args.table.now c.put_keys.new.table c.in_ok-writes.ensures c.requires.order c.requires.stands c.in_default.ensures.ok

pub returns-clause-ok : goal.returns-clause-ok
returns-clause-ok c =
    led_whole c.args.forth c.args.edits.now c.in_ok-writes.writes.items c.args.table.now c.put_keys.new.table c.write_all.new.table c.drop_keys-2.new.table c.requires.order c.in_ok-writes.ensures c.in_default.ensures.ok c.write_all.ensures
    c.drop_keys-2.ensures

pub returns-clause-exact : goal.returns-clause-exact
returns-clause-exact c =
    lead_exact c.args.table.now c.drop_keys-2.new.table (count_kept c.args.index.now) (count_kept c.lead.new.self) c.args.forth c.args.edits.now
    c.requires.order c.requires.stands (returns-clause-ok c) c.requires.exact c.in_default-lead.ensures.ok
