use Rattle.std.proofs.Common.{sym}
use Rattle.way_split.proofs.Endings.{target_refuses}
use Rattle.way_split.proofs.split.test_split.Goals as goal

pub returns-in-Some : goal.returns-in-Some
returns-in-Some c = target_refuses c.args.ds.now c.args.way c.args.nodes.now _ c.in-Some.ensures

pub cut-requires : goal.cut-requires
cut-requires c = record {
  refs = c.refs_at.ensures;
  target = sym c.in_default.ensures;
}
