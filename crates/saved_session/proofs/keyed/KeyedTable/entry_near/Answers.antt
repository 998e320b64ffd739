use Rattle.std.proofs.Common.{◌∙◌}
use Rattle.saved_session.proofs.KeyedTable.{found_in}
use Rattle.saved_session.proofs.keyed.KeyedTable.entry_near.Goals as goal

pub returns : goal.returns
returns c = c.entry_near.ensures ∙ found_in (record { next = c.args.self.now.next; entries = c.args.self.now.entries }) c.args.key
