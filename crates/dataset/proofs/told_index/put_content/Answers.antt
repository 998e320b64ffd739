use Rattle.std.proofs.Common.{◌≡◌, ◌<◌, length, arith}
use Rattle.std.proofs.lemmas.List.{length-map}
use Rattle.osm_base.specs.Content.{refs_of}
use Rattle.dataset.specs.Exact.{pairs_with}
use Rattle.dataset.proofs.Beside.{more_pairs}
use Rattle.dataset.proofs.told_index.put_content.Goals as goal

pub loop-i-preserved : goal.loop-i-preserved
loop-i-preserved c =
    let long : length (pairs_with c.args.user (refs_of c.args.content.now)) ≡ length (refs_of c.args.content.now) = length-map (refs_of c.args.content.now) _ in
    let within : c.loop-i.i < length (pairs_with c.args.user (refs_of c.args.content.now)) = omega (arith, long, c.loop-i-test.true, c.references-i-end.ensures) in
    (c.in_ok-near.ensures.places, λ p. more_pairs (pairs_with c.args.user (refs_of c.args.content.now)) c.loop-i.i c.pair_at.result p _ _ _ within c.pair_at.ensures (c.loop-i.invariant.1 p) (c.in_ok-near.ensures.kept p))
