use Rattle.std.proofs.Common.{ap, ◌-◌, List, length, ◌∙◌}
use Rattle.std.specs.List.{slice_get}
use Rattle.opl_line.specs.declared.object.OplObject.{OplObject}
use Rattle.opl_file.proofs.Batches.{Batch, last_object}
use Rattle.opl_file.proofs.objects.Objects.last.Goals as goal

pub returns : goal.returns
returns c =
    last_object c.self.inside.batches.items c.in_ok-last.field-0.now c.args.self.now c.last-2.result c.self.invariant c.self.view_is
    (c.in_ok-last.ensures.value ∙ ap (λ (bs : List Batch). slice_get bs (length bs - 1)) c.deref.ensures.value)
    (c.last-2.ensures.value ∙ ap (λ (os : List OplObject). slice_get os (length os - 1)) c.deref-2.ensures.value)
