use Rattle.std.proofs.Common.{sym, subst}
use Rattle.server_world.specs.declared.starts.Starts.{Starts}
use Rattle.server_world.specs.Starts.{AreStarts}
use Rattle.server_world.proofs.Enough.{id_free}
use Rattle.server_world.proofs.Starting.{set_start}
use Rattle.server_world.proofs.sending.pick_id.Goals as goal

pub returns-clause-starts : goal.returns-clause-starts
returns-clause-starts c =
    subst (λ (s : Starts). AreStarts c.args.world.now c.args.ds.now s) (sym c.set.ensures)
    (set_start c.args.world.now c.args.ds.now c.args.starts.now c.args.kind c.free_from-id.result c.requires.starts c.free_from-id.ensures.start)

pub returns-clause-fresh : goal.returns-clause-fresh
returns-clause-fresh c = id_free c.args.world.now c.args.ds.now c.args.kind (c.fits_memory.ensures c.if-not-fits_memory.false)
