use Rattle.way_combine.proofs.combine.CombineCommand.plan.Goals as goal

pub returns : goal.returns
returns c = record { plans = let h = c.combine_plan.ensures in rw c.in-Combine.is (rw c.as_slice.ensures at h) }
