use Rattle.sample_city.proofs.Led.{led}
use Rattle.sample_city.proofs.law.references_are_told.Goals as goal

pub returns : goal.returns
returns c = led
