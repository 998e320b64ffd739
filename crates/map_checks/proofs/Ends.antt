-- The first of a list, and what is left where no test refuses.
use Rattle.std.proofs.Common.{◌≡◌, Option, Some, None, Ok, Result, refl}
use Rattle.tool_api.specs.declared.refusal.Refusal.{Refusal}
use Rattle.tool_api.specs.Changes.{Outcome}
use Rattle.tool_api.specs.Checks.{◌>>◌}

-- where a test lets through, what is behind it decides
pub through : (test : Option Refusal) (next : Result Outcome Refusal) (new : Outcome) → (test >> next) ≡ Ok new → next ≡ Ok new
through None next new e = e
through (Some r) next new e = cc

pub last_through : (test : Option Refusal) (made new : Outcome) → (test >> Ok made) ≡ Ok new → made ≡ new
last_through None made new e = cc
last_through (Some r) made new e = cc

pub first_none : (test : Option Refusal) (next : Result Outcome Refusal) (new : Outcome) → (test >> next) ≡ Ok new → test ≡ None
first_none None next new e = refl
first_none (Some r) next new e = cc
