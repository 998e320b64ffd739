use Rattle.many_editors.proofs.editor.Editor.step.Goals as goal

pub step-requires : goal.step-requires
step-requires g c = record { valid = c.requires.valid.history; asked = c.requires.asked.may }
