use Rattle.std.proofs.Common.{◌∙◌}
use Rattle.upload_order.specs.declared.part.Part.TheVariants.{FallingRelations}
use Rattle.upload_order.proofs.Parts.{rises_part}
use Rattle.upload_order.proofs.sending.push_falls.Goals as goal

pub falls_of-requires : goal.falls_of-requires
falls_of-requires c = rises_part c.args.ds.now FallingRelations c.deref.result.now (c.deref.ensures.value ∙ c.in_ok-relations.ensures)
