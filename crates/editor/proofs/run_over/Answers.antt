use Rattle.std.proofs.Common.{is_some, map, string_bytes, sym}
use Rattle.edit_session.specs.Verbs.{four_of_each}
use Rattle.editor.proofs.Over.{over}
use Rattle.editor.proofs.run_over.Goals as goal

pub returns-clause-right : goal.returns-clause-right
returns-clause-right g c =
    over (λ shelf. g.F.Folder.files shelf.folder) (λ shelf. is_some shelf.file) (λ shelf. shelf.notes.list) (λ shelf. shelf.faults) (λ sink. g.W.Write.contents sink.inner) (λ sink. sink.faults) four_of_each (map string_bytes c.args.words.now) c.new-shelf.result _ c.new-out.result _ _
    _ _ _ c.new-shelf.ensures.told c.new-shelf.ensures.begun c.new-shelf.ensures.noted c.new-shelf.ensures.faults c.new-out.ensures.taken c.new-out.ensures.faults (sym c.into_inner.ensures) c.run_with-status.ensures.right
