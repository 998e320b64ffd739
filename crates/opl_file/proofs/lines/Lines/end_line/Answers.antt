use Rattle.std.proofs.Common.{◌∙◌}
use Rattle.opl_file.specs.Feeding.{lines_read_on, lines_lend_on}
use Rattle.opl_file.proofs.Steps.{reads-line, lends-line-on, reads-bad, lends-bad}
use Rattle.opl_file.proofs.lines.Lines.end_line.Goals as goal

pub returns-in-Ok-clause-reads : goal.returns-in-Ok-clause-reads
unfolding lines_read_on
returns-in-Ok-clause-reads c = λ more.
    let self = c.args.self.now in
    rw c.clear.ensures.items (reads-line self.mode self.fault c.requires.good self.count self.objects self.unfinished.items c.args.front.now self.unbroken c.requires.unbroken _ more c.in-Ok.ensures.taken)

pub returns-in-Ok-clause-lends : goal.returns-in-Ok-clause-lends
unfolding lines_lend_on
returns-in-Ok-clause-lends c = λ more.
    let self = c.args.self.now in
    rw c.clear.ensures.items (lends-line-on self.mode self.fault c.requires.good self.count self.objects self.unfinished.items c.args.front.now self.unbroken c.requires.unbroken _ more c.in-Ok.ensures.taken)

pub returns-in-Bad-clause-reads : goal.returns-in-Bad-clause-reads
unfolding lines_read_on
returns-in-Bad-clause-reads c = λ more.
    let self = c.args.self.now in
    reads-bad self.mode self.fault c.requires.good self.count self.objects self.unfinished.items c.args.front.now self.unbroken c.requires.unbroken _ more (rw c.in-Bad.is at c.in-Err.ensures.taken)

pub returns-in-Bad-clause-lends : goal.returns-in-Bad-clause-lends
unfolding lines_lend_on
returns-in-Bad-clause-lends c = λ more.
    let self = c.args.self.now in
    c.in-Err.ensures.err ∙ lends-bad self.mode self.fault c.requires.good self.count self.objects self.unfinished.items c.args.front.now self.unbroken c.requires.unbroken _ more (rw c.in-Bad.is at c.in-Err.ensures.taken)
