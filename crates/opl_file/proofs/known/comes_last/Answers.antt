use Rattle.std.proofs.Common.{ap, ◌∙◌}
use Rattle.std.specs.Ordering.{is_lt}
use Rattle.opl_file.proofs.Rising.{comes_last}
use Rattle.opl_file.proofs.known.comes_last.Goals as goal

pub returns-in-Some : goal.returns-in-Some
returns-in-Some c = c.is_lt.ensures ∙ ap is_lt c.rank.ensures ∙ comes_last _ _ _ _ c.in-Some.ensures.1 c.requires
