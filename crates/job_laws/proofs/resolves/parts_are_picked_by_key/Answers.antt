use Rattle.job_laws.proofs.ResolveTags.{in_parts_has, picked_value}
use Rattle.job_laws.proofs.resolves.parts_are_picked_by_key.Goals as goal

pub returns-clause-picked : goal.returns-clause-picked
returns-clause-picked c = picked_value

pub returns-clause-parts : goal.returns-clause-parts
returns-clause-parts c = λ side listed base mine theirs content sm st is. in_parts_has side listed base mine theirs content sm st is
