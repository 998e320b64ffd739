use Rattle.std.proofs.Common.{Option, sym, ap, ◌∙◌}
use Rattle.std.specs.Option.{option_or}
use Rattle.osm_base.specs.declared.key.Key.{Key}
use Rattle.tool_api.specs.Upkeep.{first_in}
use Rattle.tool_api.proofs.Named.{first_got}
use Rattle.relation_upkeep.proofs.joining.kept_key.Goals as goal

pub returns-in-Some : goal.returns-in-Some
returns-in-Some c = ap (λ (o : Option Key). option_or o (first_in c.args.keys.now)) (sym c.first_positive.ensures ∙ c.in-Some.is)

pub returns-in-None : goal.returns-in-None
returns-in-None c = ap (λ (o : Option Key). option_or o (first_in c.args.keys.now)) (sym c.first_positive.ensures ∙ c.in-None.is) ∙ first_got c.args.keys.now _ c.requires
