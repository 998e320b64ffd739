use Rattle.std.proofs.Common.{◌∙◌}
use Rattle.tool_api.proofs.Lasts.{last_got}
use Rattle.tool_api.proofs.nodes.last_in.Goals as goal

pub returns : goal.returns
returns c = c.copied.ensures ∙ c.last.ensures.value ∙ last_got c.args.refs.now
