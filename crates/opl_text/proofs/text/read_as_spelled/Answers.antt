use Rattle.osm_base.proofs.Told.{finds}
use Rattle.opl_text.specs.Text.{SpellsText, unescaped}
use Rattle.opl_text.proofs.Read.{text_spelled, spelled_text}
use Rattle.opl_text.proofs.text.read_as_spelled.Goals as goal

pub returns : goal.returns
returns c = λ field answer. finds (SpellsText field) (unescaped field) answer (text_spelled field) (spelled_text field)
