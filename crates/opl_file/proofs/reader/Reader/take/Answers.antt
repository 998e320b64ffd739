use Rattle.std.proofs.Common.{Some, ap}
use Rattle.opl_file.specs.Feeding.{reads_on, lends_on}
use Rattle.opl_file.proofs.Room.{stays-long, grows-long, fits-on}
use Rattle.opl_file.proofs.reader.Reader.take.Goals as goal

pub returns-then-self-clause-reads : goal.returns-then-self-clause-reads
unfolding reads_on
returns-then-self-clause-reads c = λ more. stays-long c.args.self.now.too_long _ _ _ _ _ c.if-self.true

pub returns-then-self-clause-lends : goal.returns-then-self-clause-lends
unfolding lends_on
returns-then-self-clause-lends c = λ more. stays-long c.args.self.now.too_long _ _ _ _ _ c.if-self.true

pub returns-then-self-length-clause-reads : goal.returns-then-self-length-clause-reads
unfolding reads_on
returns-then-self-length-clause-reads c = λ more. grows-long c.args.self.now.too_long c.args.self.now.room c.args.piece.now more _ _ c.if-self-length.true

pub returns-then-self-length-clause-lends : goal.returns-then-self-length-clause-lends
unfolding lends_on
returns-then-self-length-clause-lends c = λ more. grows-long c.args.self.now.too_long c.args.self.now.room c.args.piece.now more _ _ c.if-self-length.true

pub returns-clause-reads : goal.returns-clause-reads
unfolding reads_on
returns-clause-reads c = λ more. fits-on c.args.self.now.too_long c.args.self.now.room c.args.piece.now more _ _ _ c.if-self-length.false (c.in_ok-take.ensures.reads more)

pub returns-clause-lends : goal.returns-clause-lends
unfolding lends_on
returns-clause-lends c = λ more. fits-on c.args.self.now.too_long c.args.self.now.room c.args.piece.now more _ _ _ c.if-self-length.false (ap Some (c.in_ok-take.ensures.lends more))
