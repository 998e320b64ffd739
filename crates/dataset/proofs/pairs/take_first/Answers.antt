use Rattle.std.proofs.Common.{◌≡◌, ◌≤◌, ◌<◌, length, arith}
use Rattle.std.proofs.lemmas.List.{length-map}
use Rattle.osm_base.specs.Content.{refs_of}
use Rattle.dataset.specs.Exact.{pairs_with}
use Rattle.dataset.proofs.Exactness.{next_pair, one_left}
use Rattle.dataset.proofs.pairs.take_first.Goals as goal

pub take-requires : goal.take-requires
take-requires c =
    let long : length (pairs_with c.args.user (refs_of c.args.content.now)) ≡ length (refs_of c.args.content.now) = length-map (refs_of c.args.content.now) _ in
    let few : c.args.few ≤ length (pairs_with c.args.user (refs_of c.args.content.now)) = omega (arith, long, c.requires.few) in
    let left = one_left (pairs_with c.args.user (refs_of c.args.content.now)) c.loop-i.i c.args.few c.pair_at.result (omega (arith, c.loop-i-test.true)) few c.pair_at.ensures in
    let there = c.requires.there c.pair_at.result in
    let taken = c.loop-i.invariant c.pair_at.result in
    omega (arith, left, there, taken)

pub loop-i-preserved : goal.loop-i-preserved
loop-i-preserved c = λ p.
    let long : length (pairs_with c.args.user (refs_of c.args.content.now)) ≡ length (refs_of c.args.content.now) = length-map (refs_of c.args.content.now) _ in
    let within : c.loop-i.i < length (pairs_with c.args.user (refs_of c.args.content.now)) = omega (arith, long, c.loop-i-test.true, c.requires.few) in
    let next = next_pair (pairs_with c.args.user (refs_of c.args.content.now)) c.loop-i.i c.pair_at.result p within c.pair_at.ensures in
    let before = c.loop-i.invariant p in
    let took = c.take.ensures p in
    omega (arith, next, before, took)
