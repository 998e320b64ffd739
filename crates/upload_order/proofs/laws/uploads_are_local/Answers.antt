use Rattle.upload_order.proofs.Accepted.{plan_sent_soundly}
use Rattle.upload_order.proofs.laws.uploads_are_local.Goals as goal

pub returns : goal.returns
returns c = plan_sent_soundly
