use Rattle.std.proofs.Common.{sym, ◌∙◌}
use Rattle.opl_file.specs.Feeding.{lines_lend_on}
use Rattle.opl_file.proofs.Steps.{lends-now}
use Rattle.opl_file.proofs.lines.Lines.so_far.Goals as goal

pub returns : goal.returns
unfolding lines_lend_on
returns c =
    let self = c.args.self.now in
    c.objects.ensures ∙ sym (lends-now self.mode self.fault self.count self.objects self.unfinished.items self.unbroken)
