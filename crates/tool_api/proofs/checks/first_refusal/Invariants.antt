use Rattle.std.proofs.Common.{◌≡◌, Option, drop}
use Rattle.osm_base.specs.declared.key.Key.{Key}
use Rattle.tool_api.specs.declared.refusal.Refusal.{Refusal}
use Rattle.tool_api.specs.Checks.{first_of}
use Rattle.tool_api.proofs.checks.first_refusal.Given as goal

abbrev pub invariant-loop-key : goal.invariant-loop-key
invariant-loop-key g l = (expected : Key → Option Refusal) → ((k : Key) (r : Option Refusal) → goal.F-post g l.test k r → r ≡ expected k) → first_of expected (drop l.key-index l.keys) ≡ first_of expected l.keys
