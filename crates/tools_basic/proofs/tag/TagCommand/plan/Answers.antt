use Rattle.tools_basic.proofs.tag.TagCommand.plan.Goals as goal

pub returns : goal.returns
returns c = record { plans = let h = c.tags_plan.ensures in rw c.in-SetTags.is (rw c.as_slice.ensures at h) }
