use Rattle.std.proofs.Common.{map, string_bytes}
use Rattle.edit_session.specs.Verbs.{four_of_each}
use Rattle.editor.proofs.Over.{unchanged}
use Rattle.editor.proofs.run_with.Goals as goal

pub returns-in-Err-clause-right : goal.returns-in-Err-clause-right
returns-in-Err-clause-right g c = unchanged g.S.Shelf.told g.S.Shelf.begun g.S.Shelf.noted g.S.Shelf.faults g.K.Sink.taken g.K.Sink.faults four_of_each (map string_bytes c.args.words.now) _ _ _ _ c.in-Err.ensures.err.0 c.in-Err.ensures.err.1
