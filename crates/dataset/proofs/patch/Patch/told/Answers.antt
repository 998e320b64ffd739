use Rattle.dataset.proofs.ToldPatch.{told_patch}
use Rattle.dataset.proofs.patch.Patch.told.Goals as goal

pub invariant_of-result : goal.invariant_of-result
invariant_of-result c = told_patch c.args.told.told c.args.next c.args.next
