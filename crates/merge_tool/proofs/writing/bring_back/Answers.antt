use Rattle.std.proofs.Common.{add-one, ◌∙◌}
use Rattle.dataset.specs.Draft.{drafted}
use Rattle.merge_tool.proofs.Puts.{brought_more}
use Rattle.merge_tool.proofs.writing.bring_back.Goals as goal

pub loop-i-preserved : goal.loop-i-preserved
loop-i-preserved c = rw add-one (
  brought_more (drafted c.args.draft.now c.args.ds.now) (drafted c.loop-i.draft c.args.ds.now) (drafted c.bring_one.new.draft c.args.ds.now) c.args.wanted.now c.loop-i.i c.index.result.now c.loop-i.invariant.0 c.index.ensures c.in_ok-bring_one.ensures.entries,
  c.in_ok-bring_one.ensures.number ∙ c.loop-i.invariant.1,
)
