use Rattle.std.proofs.Common.{◌∙◌, ap, sym}
use Rattle.std.specs.Prelude.{nat_lt}
use Rattle.osm_base.specs.RisingKeys.{is_in}
use Rattle.osm_table.specs.Table.{TableValue, users}
use Rattle.dataset.proofs.Listed.{user_in}
use Rattle.dataset.proofs.dataset.DataSet.is_user.Goals as goal

pub returns : goal.returns
returns c =
    c.is_user.ensures
    ∙ ap (nat_lt 0) (c.self.invariant.1 c.args.key c.args.user)
    ∙ sym (user_in c.self.inside.table c.args.key c.args.user)
    ∙ ap (λ (t : TableValue). is_in c.args.user (users t c.args.key)) c.self.view_is
