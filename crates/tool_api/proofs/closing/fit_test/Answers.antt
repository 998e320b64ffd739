use Rattle.tool_api.proofs.Least.{makes_unfit_of}
use Rattle.tool_api.proofs.closing.fit_test.Goals as goal

pub returns-in-None : goal.returns-in-None
returns-in-None c = makes_unfit_of c.args.ds.now c.args.draft.now c.args.keys.now _ c.in-None.ensures c.requires.keys

pub returns-in-Some : goal.returns-in-Some
returns-in-Some c = makes_unfit_of c.args.ds.now c.args.draft.now c.args.keys.now _ c.in-Some.ensures c.requires.keys
