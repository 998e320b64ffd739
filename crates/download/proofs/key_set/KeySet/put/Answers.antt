use Rattle.std.proofs.Common.{◌∙◌, ap, List}
use Rattle.osm_base.specs.declared.key.Key.{Key}
use Rattle.download.specs.FilterCode.{with_key}
use Rattle.download.proofs.Sets.{inserted}
use Rattle.download.proofs.key_set.KeySet.put.Goals as goal

pub returns-clause-ok : goal.returns-clause-ok
returns-clause-ok c =
    inserted c.self.inside.keys.keys c.insert.new.self.keys c.args.key c.in_ok-insert.ensures.keys
    ∙ ap (λ (ks : List Key). with_key ks c.args.key) c.self.view_is
