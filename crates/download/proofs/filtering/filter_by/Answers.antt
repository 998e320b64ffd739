use Rattle.std.proofs.Common.{◌≡◌, ◌∙◌, ap, subst, List, IfOk}
use Rattle.osm_table.specs.Told.{ToldValue}
use Rattle.opl_line.specs.declared.object.OplObject.{OplObject}
use Rattle.download.specs.Tell.{told_of}
use Rattle.download.specs.Filter.{kept}
use Rattle.download.proofs.filtering.filter_by.Goals as goal

pub returns : goal.returns
returns c =
    subst (λ (os : List OplObject). IfOk c.tell_batches.result (λ (told : ToldValue). told ≡ told_of os))
    (c.in_ok-kept.ensures ∙ ap (λ (os : List OplObject). kept os c.args.area c.args.wanted.now) c.into_batches.ensures)
    c.tell_batches.ensures
