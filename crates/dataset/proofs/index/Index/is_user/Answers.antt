use Rattle.std.proofs.Common.{◌∙◌, sym, ap}
use Rattle.std.specs.Prelude.{nat_lt}
use Rattle.dataset.specs.Index.{count_kept}
use Rattle.dataset.specs.ToldIndex.{refs_told}
use Rattle.dataset.specs.declared.index.Index.{Index}
use Rattle.dataset.proofs.Listed.{any_count}
use Rattle.dataset.proofs.index.Index.is_user.Goals as goal

pub returns-in-Told : goal.returns-in-Told
returns-in-Told c =
    c.is_user-in-Told.ensures
    ∙ any_count c.args.of (refs_told c.in-Told.index c.args.user)
    ∙ ap (λ (x : Index). nat_lt 0 (count_kept x (record { of = c.args.of; user = c.args.user }))) (sym c.in-Told.is)
