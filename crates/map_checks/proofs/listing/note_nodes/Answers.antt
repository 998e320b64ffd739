use Rattle.std.proofs.Common.{arith, ◌<◌, length, take}
use Rattle.map_checks.proofs.Firsts.{noted_more, one_more}
use Rattle.map_checks.proofs.listing.note_nodes.Goals as goal

pub loop-key-preserved : goal.loop-key-preserved
loop-key-preserved c =
    let t = c.args.ds.now in
    let keys = c.args.keys.now in
    let i = c.loop-key.key-index in
    let within : c.loop-key.key-index < length c.args.keys.now = omega arith in
    record {
      noted = noted_more t keys i _ _ within (c.in_ok-of.ensures.noted (take i keys) c.loop-key.invariant.noted);
      found = one_more t keys i _ _ _ _ c.requires.keys within (c.in_ok-of.ensures.first (take i keys) c.loop-key.invariant.noted) c.loop-key.invariant.found c.in_ok-push_doubled.ensures;
    }
