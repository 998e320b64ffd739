use Rattle.std.proofs.Common.{subst}
use Rattle.upload_order.specs.World.{World}
use Rattle.server_world.specs.Starts.{AreStartsOf}
use Rattle.server_world.proofs.world.World.starts.Goals as goal

pub returns-clause-starts : goal.returns-clause-starts
returns-clause-starts c = subst (λ (w : World). AreStartsOf w.entries c.starts.result) c.self.view_is c.starts.ensures.starts
