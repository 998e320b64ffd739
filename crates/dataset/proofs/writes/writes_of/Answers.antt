use Rattle.dataset.proofs.Results.{and_ok}
use Rattle.dataset.proofs.writes.writes_of.Goals as goal

pub returns : goal.returns
returns c = and_ok _ c.push_writes.result c.push_writes.new.writes c.and.result c.and.ensures (λ all. all) c.push_writes.ensures
