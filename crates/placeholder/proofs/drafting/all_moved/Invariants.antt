use Rattle.std.proofs.Common.{◌≡◌, drop}
use Rattle.dataset.specs.Draft.{drafted}
use Rattle.placeholder.specs.Confirmed.{moved}
use Rattle.placeholder.specs.Drafting.{all_moved}
use Rattle.placeholder.proofs.drafting.all_moved.Given as goal

abbrev pub invariant-loop-user : goal.invariant-loop-user
invariant-loop-user l = all_moved (moved l.placeholder l.id) (drafted l.moved l.ds) (drop l.user-index l.users) ≡ all_moved (moved l.placeholder l.id) (drafted l.fn.draft l.ds) l.users
