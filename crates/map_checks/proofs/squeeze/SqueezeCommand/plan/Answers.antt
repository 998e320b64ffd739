use Rattle.map_checks.proofs.squeeze.SqueezeCommand.plan.Goals as goal

pub returns : goal.returns
returns c = record { plans = let h = c.squeeze_plan.ensures in rw c.in-Squeeze.is (rw c.as_slice.ensures at h) }
