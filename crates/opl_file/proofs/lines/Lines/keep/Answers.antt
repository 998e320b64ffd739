use Rattle.std.proofs.Common.{◌++◌, ◌∙◌, ap, append_assoc, arith}
use Rattle.opl_file.specs.Feeding.{goes_on, lends_so_far, lines_read_on, lines_lend_on}
use Rattle.opl_file.proofs.Steps.{reads-long, keeps-long}
use Rattle.opl_file.proofs.lines.Lines.keep.Goals as goal

pub returns-then-len-front-gt-LINE_LIMIT-clause-reads : goal.returns-then-len-front-gt-LINE_LIMIT-clause-reads
unfolding lines_read_on
returns-then-len-front-gt-LINE_LIMIT-clause-reads c = λ more.
    let self = c.args.self.now in
    reads-long self.mode self.fault c.requires.good self.count self.objects self.unfinished.items c.args.front.now self.unbroken c.requires.unbroken more
    (omega (arith, c.len.ensures, self.unfinished.ok.0, c.if-len-front-gt-LINE_LIMIT.true))

pub returns-then-len-front-gt-LINE_LIMIT-clause-lends : goal.returns-then-len-front-gt-LINE_LIMIT-clause-lends
unfolding lines_lend_on
returns-then-len-front-gt-LINE_LIMIT-clause-lends c = λ more.
    let self = c.args.self.now in
    keeps-long self.mode self.fault c.requires.good self.count self.objects self.unfinished.items c.args.front.now self.unbroken c.requires.unbroken more
    (omega (arith, c.len.ensures, self.unfinished.ok.0, c.if-len-front-gt-LINE_LIMIT.true))

pub returns-clause-reads : goal.returns-clause-reads
unfolding lines_read_on
returns-clause-reads c = λ more.
    let self = c.args.self.now in
    ap (goes_on self.mode self.fault self.count self.objects) (ap (λ kept. kept ++ more) c.in_ok-extend_from_slice.ensures.items ∙ append_assoc self.unfinished.items c.args.front.now more)

pub returns-clause-lends : goal.returns-clause-lends
unfolding lines_lend_on
returns-clause-lends c = λ more.
    let self = c.args.self.now in
    ap (lends_so_far self.mode self.fault self.count self.objects) (ap (λ kept. kept ++ more) c.in_ok-extend_from_slice.ensures.items ∙ append_assoc self.unfinished.items c.args.front.now more)
