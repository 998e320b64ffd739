use Rattle.import_tool.proofs.import.ImportCommand.plan.Goals as goal

pub returns : goal.returns
returns c = record { plans = let h = c.import_plan.ensures in rw c.in-Import.is h }
