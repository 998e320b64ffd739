use Rattle.std.proofs.Common.{ap}
use Rattle.osm_table.specs.Told.{ToldValue}
use Rattle.dataset.specs.Exact.{times_key}
use Rattle.dataset.specs.ToldIndex.{refs_told}
use Rattle.dataset.proofs.ToldIndex.{told_exact}
use Rattle.dataset.proofs.index.Index.told.Goals as goal

pub returns : goal.returns
returns c = λ next.
    told_exact c.args.told next (λ p. times_key p.of (refs_told c.in_ok-new.field-0 p.user))
    (λ p. ap (λ (m : ToldValue). times_key p.of (refs_told m p.user)) c.in_ok-new.ensures)
