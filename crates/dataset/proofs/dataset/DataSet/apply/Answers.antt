use Rattle.std.proofs.Common.{sym, subst}
use Rattle.dataset.specs.Sound.{IsSound}
use Rattle.dataset.proofs.LeadLaws.{applied}
use Rattle.dataset.proofs.dataset.DataSet.apply.Goals as goal

pub invariant_of-self-2 : goal.invariant_of-self-2
invariant_of-self-2 c = (
  subst IsSound (sym (applied c.args.patch.now c.next_after.result c.self.inside.table c.args.self.now c.lead.new.table c.next_after.ensures c.self.view_is c.in_ok-lead.ensures.ok)) c.requires.sound,
  c.lead.ensures.exact,
)
