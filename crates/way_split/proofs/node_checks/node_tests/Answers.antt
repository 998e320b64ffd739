use Rattle.std.proofs.Common.{arith, ◌<◌, length}
use Rattle.way_split.proofs.Cuts.{test_step, test_refuses}
use Rattle.way_split.proofs.node_checks.node_tests.Goals as goal

pub loop-key-preserved : goal.loop-key-preserved
loop-key-preserved c =
    test_step c.args.refs.now c.in_ok-in_way.in_way c.in_ok-in_way.ensures c.loop-key.seen _ c.args.nodes.now c.loop-key.key-index _ _ (let h : c.loop-key.key-index < length c.args.nodes.now = omega arith in h) c.in_default.ensures c.in_ok-put.ensures.ok c.loop-key.invariant

pub returns-in-Some-clause-test : goal.returns-in-Some-clause-test
returns-in-Some-clause-test c =
    test_refuses c.args.refs.now c.in_ok-in_way.in_way c.in_ok-in_way.ensures c.loop-key.seen c.args.nodes.now c.loop-key.key-index _ _ _ (let h : c.loop-key.key-index < length c.args.nodes.now = omega arith in h) c.in-Some.ensures c.loop-key.invariant.1
