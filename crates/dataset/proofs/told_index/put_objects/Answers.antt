use Rattle.std.proofs.Common.{refl, arith}
use Rattle.dataset.proofs.Beside.{more_kept, all_kept}
use Rattle.dataset.proofs.told_index.put_objects.Goals as goal

pub loop-key-init : goal.loop-key-init
loop-key-init c = (c.requires.places, c.requires.none)

pub loop-key-preserved : goal.loop-key-preserved
loop-key-preserved c = (
  c.in_ok-near.ensures.places,
  more_kept c.args.told.now c.args.keys.now c.loop-key.key-index _ _ c.loop-key.lists.users.items c.put_object.new.lists.users.items c.loop-key.lists.others c.put_object.new.lists.others
      (omega arith) refl c.in_ok-near.ensures.kept c.loop-key.invariant.1,
)

pub returns : goal.returns
returns c =
    all_kept c.args.told.now c.args.keys.now c.loop-key.key-index c.loop-key.lists.users.items c.loop-key.lists.others
    c.requires.keys (omega arith) c.loop-key.invariant.0 c.loop-key.invariant.1
