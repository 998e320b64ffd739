use Rattle.std.proofs.Common.{arith}
use Rattle.dataset.proofs.Results.{and_ok}
use Rattle.dataset.proofs.index.own_led.Goals as goal

pub lead_pairs-requires : goal.lead_pairs-requires
lead_pairs-requires c = λ p.
    let there = c.requires p in
    let same = c.in_ok-index.ensures p in
    omega (arith, there, same)

pub returns : goal.returns
returns c =
    and_ok _ c.lead_pairs.result c.lead_pairs.new.index c.and.result c.and.ensures
    (λ led p.
    let moved = led p in
    let same = c.in_ok-index.ensures p in
    omega (arith, moved, same))
    c.lead_pairs.ensures.ok
