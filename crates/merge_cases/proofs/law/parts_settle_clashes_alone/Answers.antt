use Rattle.merge_cases.proofs.Parts.{parts_joined}
use Rattle.merge_cases.proofs.law.parts_settle_clashes_alone.Goals as goal

pub returns : goal.returns
returns c = parts_joined
