use Rattle.std.proofs.Common.{sym, subst}
use Rattle.server_world.specs.Codes.{Objects}
use Rattle.server_world.specs.Starts.{AreStartsOf}
use Rattle.server_world.proofs.Starting.{three_starts}
use Rattle.server_world.proofs.objects.Objects.starts.Goals as goal

pub invariant_of-self : goal.invariant_of-self
invariant_of-self c = record {
  index = c.self.invariant.index;
  starts = subst (λ (m : Objects). AreStartsOf m (record { node = c.start.result; way = c.start-2.result; relation = c.start-3.result })) (sym c.self.view_is) (three_starts c.args.self.now c.start.result c.start-2.result c.start-3.result c.start.ensures c.start-2.ensures c.start-3.ensures);
}

pub returns-clause-starts : goal.returns-clause-starts
returns-clause-starts c = three_starts c.args.self.now c.start.result c.start-2.result c.start-3.result c.start.ensures c.start-2.ensures c.start-3.ensures
