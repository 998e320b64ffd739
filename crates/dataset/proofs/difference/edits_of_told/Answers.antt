use Rattle.std.proofs.Common.{List, ◌∙◌, subst}
use Rattle.std.specs.Prelude.{IfOk}
use Rattle.osm_base.specs.declared.key.Key.{Key}
use Rattle.dataset.specs.Arrivals.{arrivals}
use Rattle.dataset.specs.Draft.{DiffOver, drafted}
use Rattle.dataset.proofs.difference.edits_of_told.Goals as goal

pub returns : goal.returns
returns c =
    subst (λ (keys : List Key). IfOk c.edits_of_keys-edits.result (λ edits. DiffOver c.args.table.now (drafted (arrivals c.args.told.now.told c.args.table.now.next) c.args.table.now) keys edits.items))
    (c.as_slice.ensures ∙ c.in_ok-keys.ensures) c.edits_of_keys-edits.ensures
