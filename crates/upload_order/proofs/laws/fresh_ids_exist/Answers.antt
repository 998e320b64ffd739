use Rattle.upload_order.proofs.FreshIds.{fresh_exist}
use Rattle.upload_order.proofs.laws.fresh_ids_exist.Goals as goal

pub returns : goal.returns
returns c = fresh_exist
