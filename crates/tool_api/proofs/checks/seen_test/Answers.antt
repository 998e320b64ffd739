use Rattle.std.proofs.Common.{◌∙◌, sym, ◌<◌, length, arith, false, true}
use Rattle.tool_api.proofs.Seen.{is_not, named_again, named_once}
use Rattle.tool_api.proofs.checks.seen_test.Goals as goal

pub returns-then-not-branch : goal.returns-then-not-branch
returns-then-not-branch c =
    let within : c.loop-key.key-index < length c.args.keys.now = omega arith in
    named_again c.args.keys.now c.loop-key.seen c.loop-key.key-index _ _ within (is_not false _ (sym c.if-not-branch.true ∙ c.in_ok-put.ensures.new)) c.loop-key.invariant

pub loop-key-preserved : goal.loop-key-preserved
loop-key-preserved c =
    let within : c.loop-key.key-index < length c.args.keys.now = omega arith in
    named_once c.args.keys.now c.loop-key.seen _ c.loop-key.key-index _ _ within (is_not true _ (sym c.if-not-branch.false ∙ c.in_ok-put.ensures.new)) c.in_ok-put.ensures.ok c.loop-key.invariant
