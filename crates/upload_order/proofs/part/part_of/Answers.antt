use Rattle.std.proofs.Common.{◌∙◌, ap}
use Rattle.std.specs.List.{filter}
use Rattle.upload_order.specs.Part.{in_part}
use Rattle.upload_order.proofs.Changed.{part_among}
use Rattle.upload_order.proofs.part.part_of.Goals as goal

pub returns : goal.returns
returns c = c.in_ok-keys.ensures ∙ ap (filter (in_part c.args.ds.now c.args.part)) c.requires ∙ part_among c.args.ds.now c.args.part
