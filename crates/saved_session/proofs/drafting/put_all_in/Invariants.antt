use Rattle.std.proofs.Common.{◌≡◌, drop}
use Rattle.dataset.specs.Draft.{drafted}
use Rattle.saved_session.specs.Drafting.{with_all}
use Rattle.saved_session.proofs.drafting.put_all_in.Given as goal

abbrev pub invariant-loop-i : goal.invariant-loop-i
invariant-loop-i l = with_all (drop l.i l.entries) (drafted l.draft l.ds) ≡ with_all l.entries (drafted l.fn.draft l.ds)
