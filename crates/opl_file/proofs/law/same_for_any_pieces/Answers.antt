use Rattle.std.proofs.Common.{◌≡◌, ℕ, List, [], refl, ◌∙◌}
use Rattle.opl_file.specs.declared.reader.Reader.{Reader}
use Rattle.opl_file.specs.Feeding.{reads_on, lends_on}
use Rattle.opl_file.specs.Pieces.{Fed, none, one_more, joined}
use Rattle.opl_file.proofs.law.same_for_any_pieces.Goals as goal

read_all : (old last : Reader) (pieces : List (List ℕ)) → Fed old pieces last → reads_on last [] ≡ reads_on old (joined pieces)
read_all old last pieces (none reader) = refl
read_all old last pieces (one_more first new end piece later feeds fed) = read_all new end later fed ∙ feeds.reads (joined later)

lent_all : (old last : Reader) (pieces : List (List ℕ)) → Fed old pieces last → lends_on last [] ≡ lends_on old (joined pieces)
lent_all old last pieces (none reader) = refl
lent_all old last pieces (one_more first new end piece later feeds fed) = lent_all new end later fed ∙ feeds.lends (joined later)

pub returns-clause-read : goal.returns-clause-read
returns-clause-read c = λ mode limit new last pieces begins fed. read_all new last pieces fed ∙ begins.reads (joined pieces)

pub returns-clause-lent : goal.returns-clause-lent
returns-clause-lent c = λ mode limit new last pieces begins fed. lent_all new last pieces fed ∙ begins.lends (joined pieces)
