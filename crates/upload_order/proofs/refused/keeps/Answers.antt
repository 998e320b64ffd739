use Rattle.std.proofs.Common.{sym, ◌∙◌, ap}
use Rattle.std.specs.Option.{option_copied}
use Rattle.upload_order.proofs.Vouching.{kept_user}
use Rattle.upload_order.proofs.refused.keeps.Goals as goal

pub returns-else-not-is_living : goal.returns-else-not-is_living
returns-else-not-is_living c = c.is_user.ensures ∙ kept_user c.args.ds.now c.args.key c.args.of c.in-Some.entry.now (sym c.entry.ensures ∙ ap option_copied c.in-Some.is) (sym c.is_living.ensures ∙ c.if-not-is_living.false)
