use Rattle.std.proofs.Common.{refl, arith}
use Rattle.dataset.proofs.ToldIndex.{none_indexed, more_indexed, all_indexed}
use Rattle.dataset.proofs.pairs.add_objects.Goals as goal

pub loop-key-init : goal.loop-key-init
loop-key-init c = none_indexed c.args.told.now.told c.args.index.now c.requires.none

pub loop-key-preserved : goal.loop-key-preserved
loop-key-preserved c =
    more_indexed c.args.told.now c.args.keys.now c.loop-key.key-index _ _ c.loop-key.index c.add_object.new.index
    c.requires.keys (omega arith) refl c.in_ok-add_object.ensures.ok c.loop-key.invariant

pub returns : goal.returns
returns c = all_indexed c.args.told.now c.args.keys.now c.loop-key.key-index c.loop-key.index c.requires.keys (omega arith) c.loop-key.invariant
