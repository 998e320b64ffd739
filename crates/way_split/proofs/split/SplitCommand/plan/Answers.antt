use Rattle.way_split.proofs.split.SplitCommand.plan.Goals as goal

pub returns : goal.returns
returns c = record { plans = let h = c.split_plan.ensures in rw c.in-Split.is (rw c.as_slice.ensures at h) }
