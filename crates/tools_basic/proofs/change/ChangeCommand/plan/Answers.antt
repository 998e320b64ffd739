use Rattle.tools_basic.proofs.change.ChangeCommand.plan.Goals as goal

pub returns-in-Place : goal.returns-in-Place
returns-in-Place c = record { plans = rw c.in-Place.is c.place_plan.ensures }

pub returns-in-SetNodes : goal.returns-in-SetNodes
returns-in-SetNodes c = record { plans = rw c.in-SetNodes.is c.nodes_plan.ensures }

pub returns-in-SetMembers : goal.returns-in-SetMembers
returns-in-SetMembers c = record { plans = rw c.in-SetMembers.is c.members_plan.ensures }
