use Rattle.std.proofs.Common.{add-one, ◌∙◌, sym}
use Rattle.dataset.specs.Draft.{drafted}
use Rattle.merge_tool.specs.Passes.{is_going, left}
use Rattle.merge_tool.proofs.Puts.{gone_more, each_at}
use Rattle.merge_tool.proofs.writing.let_go.Goals as goal

pub let_one_go-requires : goal.let_one_go-requires
let_one_go-requires c = record { going = each_at (is_going c.args.ds.now c.args.told.now.told) c.args.candidates.now c.loop-i.i c.index.result.now (λ k h. sym (c.requires.going k) ∙ h) c.index.ensures }

pub loop-i-preserved : goal.loop-i-preserved
loop-i-preserved c = rw add-one (
  gone_more (left c.args.ds.now c.args.told.now.told c.args.held.now) (drafted c.args.draft.now c.args.ds.now) (drafted c.loop-i.draft c.args.ds.now) (drafted c.let_one_go.new.draft c.args.ds.now) c.args.candidates.now c.loop-i.i c.index.result.now c.loop-i.invariant.0 c.index.ensures c.in_ok-let_one_go.ensures.entries,
  c.in_ok-let_one_go.ensures.number ∙ c.loop-i.invariant.1,
)
