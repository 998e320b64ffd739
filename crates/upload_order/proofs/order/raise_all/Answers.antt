use Rattle.std.proofs.Common.{◌+◌, drop, arith}
use Rattle.std.proofs.lemmas.List.{drop_more}
use Rattle.upload_order.proofs.Raising.{raises_more, raises_none}
use Rattle.upload_order.proofs.order.raise_all.Goals as goal

pub loop-key-init : goal.loop-key-init
loop-key-init c = raises_none c.args.waiting.now c.args.keys.now c.requires.rise c.requires.room

pub loop-key-preserved : goal.loop-key-preserved
loop-key-preserved c =
    let ks = c.args.keys.now in
    let i = c.loop-key.key-index in
    raises_more c.args.waiting.now ks c.loop-key.waiting (drop i ks) _ (drop (i + 1) ks) (drop_more ks i _ (omega arith)) c.loop-key.invariant c.raise.new.self c.in_ok-raise.ensures
