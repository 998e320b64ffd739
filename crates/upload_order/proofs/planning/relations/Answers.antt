use Rattle.std.proofs.Common.{◌∙◌}
use Rattle.upload_order.specs.declared.part.Part.TheVariants.{RisingRelations}
use Rattle.upload_order.proofs.Parts.{rises_part}
use Rattle.upload_order.proofs.planning.relations.Goals as goal

pub order_of-requires : goal.order_of-requires
order_of-requires c = rises_part c.args.ds.now RisingRelations c.deref.result.now (c.deref.ensures.value ∙ c.in_ok-relations.ensures)
