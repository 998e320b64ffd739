use Rattle.std.proofs.Common.{◌∙◌, ap}
use Rattle.osm_table.specs.Table.{TableValue}
use Rattle.osm_table.specs.Table.{users}
use Rattle.dataset.specs.Index.{count_kept}
use Rattle.dataset.proofs.Listed.{lent}
use Rattle.dataset.proofs.dataset.DataSet.users.Goals as goal

pub returns : goal.returns
returns c =
    lent c.self.inside.table (count_kept c.self.inside.index) c.args.key c.users.result.now c.self.invariant.1 c.users.ensures.rises c.users.ensures.members
    ∙ ap (λ (t : TableValue). users t c.args.key) c.self.view_is
