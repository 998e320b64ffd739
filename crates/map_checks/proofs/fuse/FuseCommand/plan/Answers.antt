use Rattle.map_checks.proofs.fuse.FuseCommand.plan.Goals as goal

pub returns : goal.returns
returns c = record { plans = let h = c.fuse_plan.ensures in rw c.in-Fuse.is (rw c.as_slice.ensures at h) }
