use Rattle.std.proofs.Common.{refl}
use Rattle.std.specs.FinMap as fin
use Rattle.std.proofs.lemmas.Result.{IfOk-weaker}
use Rattle.dataset.proofs.ToldPatch.{told_listed}
use Rattle.dataset.proofs.difference.told_edits.Goals as goal

pub returns : goal.returns
returns c =
    IfOk-weaker c.edits_of_told-edits.result _ _ (λ edits over. told_listed c.args.told.now.told c.new-nothing.result (fin.keys c.args.told.now.told) edits.items c.new-nothing.ensures refl over) c.edits_of_told-edits.ensures
