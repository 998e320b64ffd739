use Rattle.map_checks.proofs.Squeezes.{leaves_no_repeat}
use Rattle.map_checks.proofs.law.a_squeeze_leaves_no_repeat.Goals as goal

pub returns : goal.returns
returns c = leaves_no_repeat
