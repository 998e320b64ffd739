use Rattle.std.proofs.Common.{◌∙◌}
use Rattle.ref_index.proofs.TakenOut.{take_there, take_none}
use Rattle.ref_index.specs.Listed.{listed}
use Rattle.ref_index.proofs.users.take_item.Goals as goal

pub returns-then-stands_at : goal.returns-then-stands_at
returns-then-stands_at c = c.remove_at.ensures ∙ take_there c.args.key (listed c.args.items.now) c.place_among-at.result c.requires (cc) (cc)

pub returns-else-stands_at : goal.returns-else-stands_at
returns-else-stands_at c = take_none c.args.key (listed c.args.items.now) c.place_among-at.result c.requires (cc) (cc)
