use Rattle.std.proofs.Common.{sym, subst}
use Rattle.upload_order.specs.World.{World}
use Rattle.server_world.specs.Starts.{AreStarts}
use Rattle.server_world.proofs.Starting.{still_starts}
use Rattle.server_world.proofs.sending.send_from.Goals as goal

pub returns-in-Ok-clause-starts : goal.returns-in-Ok-clause-starts
returns-in-Ok-clause-starts c =
    subst (λ (w : World). AreStarts w c.args.ds.now c.pick.new.starts) (sym c.in-Ok.ensures.ok)
    (still_starts c.args.world.now c.args.ds.now c.args.change.now _ c.pick.new.starts c.in_ok-picked.ensures.starts)
