use Rattle.osm_base.proofs.Told.{finds}
use Rattle.map_search.specs.Grammar.{SpellsQuery}
use Rattle.map_search.specs.Reading.{query_of_words}
use Rattle.map_search.proofs.Complete.{spelled_is_read}
use Rattle.map_search.proofs.Sound.{read_is_spelled}
use Rattle.map_search.proofs.law.read_as_spelled.Goals as goal

pub returns : goal.returns
returns c = λ words answer. finds (SpellsQuery words) (query_of_words words) answer (read_is_spelled words) (spelled_is_read words)
