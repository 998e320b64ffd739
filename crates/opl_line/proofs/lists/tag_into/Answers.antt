use Rattle.opl_line.proofs.TagSteps.{behind_named}
use Rattle.opl_line.proofs.lists.tag_into.Goals as goal

pub put-requires : goal.put-requires
put-requires c = behind_named _ _ _ c.in-Some.rest.now c.in-Some.ensures
