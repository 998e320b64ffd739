use Rattle.std.proofs.Common.{sym, subst}
use Rattle.upload_order.specs.World.{World}
use Rattle.server_world.specs.Starts.{AreStarts}
use Rattle.server_world.proofs.world.World.send.Goals as goal

pub send_from-requires : goal.send_from-requires
send_from-requires c = record {
  starts =
      subst (λ (w : World). AreStarts w c.args.ds.now c.starts-starts.result) (sym c.starts-starts.ensures.unchanged)
      (λ kind. c.starts-starts.ensures.starts kind c.args.self.now.names c.args.ds.now);
}
