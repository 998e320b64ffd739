use Rattle.map_checks.proofs.Rings.{has_doubled}
use Rattle.map_checks.proofs.listing.doubled_keys.Goals as goal

pub returns : goal.returns
returns c = has_doubled c.args.ds.now c.args.keys.now c.args.found.now _ _ c.requires.keys c.requires.found c.in_ok-doubled.ensures c.in_ok-set.ensures
