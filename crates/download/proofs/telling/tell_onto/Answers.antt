use Rattle.std.proofs.Common.{◌∙◌, ap, List}
use Rattle.opl_file.specs.Objects.{objects_in}
use Rattle.opl_file.proofs.Batches.{Batch}
use Rattle.download.specs.Tell.{references}
use Rattle.download.specs.TellCode.{keys_in}
use Rattle.download.proofs.Closed.{closed_there}
use Rattle.download.proofs.telling.tell_onto.Goals as goal

pub close-requires : goal.close-requires
close-requires c =
    closed_there (objects_in c.args.batches.items) (keys_in c.deref-2.result.now) c.args.told.now c.tell_all.new.told c.mention_all.new.told c.in_ok-mention_all.field-0
    (ap keys_in c.deref-2.ensures.value ∙ c.in_ok-references.ensures ∙ ap (λ (bs : List Batch). references (objects_in bs)) c.deref.ensures.value)
    c.requires.none c.in_ok-tell_all.ensures c.in_ok-mention_all.ensures c.if-branch.true
