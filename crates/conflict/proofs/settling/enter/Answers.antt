use Rattle.std.proofs.Common.{◌∙◌, sym, ap}
use Rattle.std.specs.Option.{option_copied}
use Rattle.dataset.specs.Draft.{drafted}
use Rattle.conflict.proofs.Entered.{enters, stays}
use Rattle.conflict.proofs.settling.enter.Goals as goal

pub returns-in-Some-clause-entries : goal.returns-in-Some-clause-entries
returns-in-Some-clause-entries c = stays (drafted c.args.draft.now c.args.ds.now) c.args.key _ (sym (ap option_copied c.in-Some.is) ∙ c.entry.ensures)

pub returns-in_ok-put-in-None-clause-entries : goal.returns-in_ok-put-in-None-clause-entries
returns-in_ok-put-in-None-clause-entries c = enters c.args.draft.now c.put.new.self c.args.ds.now c.args.key (sym (ap option_copied c.in-None.is) ∙ c.entry.ensures) c.in_ok-put-in-None.ensures.ok
