use Rattle.std.proofs.Common.{List, ◌∙◌, subst}
use Rattle.std.specs.Prelude.{IfOk}
use Rattle.osm_base.specs.declared.key.Key.{Key}
use Rattle.dataset.specs.Draft.{DiffOver, drafted}
use Rattle.dataset.proofs.difference.edits_of_draft.Goals as goal

pub returns : goal.returns
returns c =
    subst (λ (keys : List Key). IfOk c.edits_over-edits.result (λ edits. DiffOver c.args.table.now (drafted c.args.draft.now c.args.table.now) keys edits.items))
    (c.deref.ensures.value ∙ c.in_ok-keys.ensures) c.edits_over-edits.ensures
