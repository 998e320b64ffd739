use Rattle.std.proofs.Common.{◌++◌, sym}
use Rattle.opl_file.specs.Feeding.{lines_read_on, lines_lend_on}
use Rattle.opl_file.proofs.Steps.{faulty, faulty-lends}
use Rattle.opl_file.proofs.lines.Lines.take_front.Goals as goal

pub returns-then-is_some-clause-reads : goal.returns-then-is_some-clause-reads
unfolding lines_read_on
returns-then-is_some-clause-reads c = λ more.
    let self = c.args.self.now in
    faulty self.mode self.fault self.count self.objects (self.unfinished.items ++ more) (self.unfinished.items ++ (c.args.bytes.now ++ more)) (sym c.if-is_some.ensures)

pub returns-then-is_some-clause-lends : goal.returns-then-is_some-clause-lends
unfolding lines_lend_on
returns-then-is_some-clause-lends c = λ more.
    let self = c.args.self.now in
    faulty-lends self.mode self.fault self.count self.objects (self.unfinished.items ++ more) (self.unfinished.items ++ (c.args.bytes.now ++ more)) (sym c.if-is_some.ensures)
