use Rattle.map_checks.proofs.Fuses.{leaves_one}
use Rattle.map_checks.proofs.law.a_fuse_leaves_the_kept_node.Goals as goal

pub returns : goal.returns
returns c = leaves_one
