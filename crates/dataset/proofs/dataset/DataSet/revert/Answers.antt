use Rattle.std.proofs.Common.{sym, subst}
use Rattle.dataset.specs.Sound.{IsSound}
use Rattle.dataset.proofs.LeadLaws.{reverted}
use Rattle.dataset.proofs.dataset.DataSet.revert.Goals as goal

pub invariant_of-self-2 : goal.invariant_of-self-2
invariant_of-self-2 c = (
  subst IsSound (sym (reverted c.args.patch.now c.next_before.result c.self.inside.table c.args.self.now c.lead.new.table c.next_before.ensures c.self.view_is c.in_ok-lead.ensures.ok)) c.requires.sound,
  c.lead.ensures.exact,
)
