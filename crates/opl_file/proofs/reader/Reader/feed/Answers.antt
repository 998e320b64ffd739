use Rattle.opl_file.specs.Feeding.{reads_on, lends_on}
use Rattle.opl_file.proofs.reader.Reader.feed.Goals as goal

pub returns-clause-reads : goal.returns-clause-reads
unfolding reads_on
returns-clause-reads c = c.take-answer.ensures.reads

pub returns-clause-lends : goal.returns-clause-lends
unfolding lends_on
returns-clause-lends c = c.take-answer.ensures.lends
