use Rattle.map_search.specs.Words.{words_of}
use Rattle.map_search.proofs.Levels.{gives_shallow}
use Rattle.map_search.proofs.reading.read_query.Goals as goal

pub returns-clause-shallow : goal.returns-clause-shallow
returns-clause-shallow c = gives_shallow c.read_words.result (words_of c.args.words.now) c.read_words.ensures
