use Rattle.std.specs.HashSet.{IsFromIterResult}
use Rattle.std.proofs.lemmas.Iterator.{YieldsList-from_slice}
use Rattle.std.proofs.lemmas.Iterator.Adapters.{fact_from_collect}
use Rattle.std.proofs.lemmas.Iterator.Consumers.{YieldsList-from_copied}
use Rattle.osm_base.specs.KeyEq.{eq}
use Rattle.closure.proofs.key_set.index_of.Goals as goal

pub returns : goal.returns
returns c = fact_from_collect (IsFromIterResult eq) c.collect.result c.collect.ensures.ran (YieldsList-from_copied (YieldsList-from_slice c.args.keys.now cc))
