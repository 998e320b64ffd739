use Rattle.std.proofs.Common.{arith, ◌<◌, length, ◌∙◌}
use Rattle.dataset.specs.Draft.{drafted}
use Rattle.conflict.proofs.Entered.{one_more}
use Rattle.conflict.proofs.settling.enter_all.Goals as goal

pub loop-key-preserved : goal.loop-key-preserved
loop-key-preserved c = (
  one_more (drafted c.args.draft.now c.args.ds.now) (drafted c.loop-key.draft c.args.ds.now) (drafted c.enter.new.draft c.args.ds.now) c.args.keys.now c.loop-key.key-index _ (let h : c.loop-key.key-index < length c.args.keys.now = omega arith in h)
      c.loop-key.invariant.0 c.in_ok-enter.ensures.entries,
  c.in_ok-enter.ensures.number ∙ c.loop-key.invariant.1,
)
