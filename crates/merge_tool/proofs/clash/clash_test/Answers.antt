use Rattle.std.proofs.Common.{◌∙◌}
use Rattle.merge_tool.specs.Passes.{is_clashing}
use Rattle.merge_tool.proofs.Clashes.{least_is, clash_none, clash_some}
use Rattle.merge_tool.proofs.clash.clash_test.Goals as goal

pub returns-in-None : goal.returns-in-None
returns-in-None c = clash_none c.args.ds.now c.args.told.now c.in_ok-least.field-0 (c.in_ok-least.ensures ∙ least_is (is_clashing c.args.ds.now c.args.told.now.told) c.args.told.now c.args.clashes.items c.requires.clashes c.sound.ensures.each) c.in-None.is

pub returns-in-Some : goal.returns-in-Some
returns-in-Some c = clash_some c.args.ds.now c.args.told.now c.in_ok-least.field-0 c.in-Some.key _ (c.in_ok-least.ensures ∙ least_is (is_clashing c.args.ds.now c.args.told.now.told) c.args.told.now c.args.clashes.items c.requires.clashes c.sound.ensures.each) c.in-Some.is c.version_clash.ensures
