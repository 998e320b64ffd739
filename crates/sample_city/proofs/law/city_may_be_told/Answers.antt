use Rattle.sample_city.proofs.Led.{all_allowed}
use Rattle.sample_city.proofs.law.city_may_be_told.Goals as goal

pub returns : goal.returns
returns c = all_allowed
