-- What a plan says of a job's outcome.
use Rattle.std.specs.Prelude.{◌≡◌, Result, Ok, Err}
use Rattle.osm_table.specs.Table.{TableValue}
use Rattle.dataset.specs.Diff.{diff}
use Rattle.dataset.specs.Draft.{drafted}
use Rattle.dataset.specs.Patch.{PatchValue, StandsBefore, after_of}
use Rattle.dataset.specs.Sound.{IsSound}
use Rattle.tool_api.specs.declared.plan.Plan.{Plan}
use Rattle.tool_api.specs.declared.plan.Plan.TheVariants.{Refused, Change, Ready}
use Rattle.tool_api.specs.declared.refusal.Refusal.{Refusal}
use Rattle.tool_api.specs.Changes.{Outcome, done}

-- A patch that can be taken on: it is the whole difference from the table to a sound one.
pub record IsReady (t : TableValue) (patch : PatchValue) : Type 0 where
  pub stands : StandsBefore patch t
  pub sound : IsSound (after_of patch t)
  pub whole : patch ≡ diff t (after_of patch t)

-- A refusal is the outcome's; a change leads to the outcome's table, which is sound, and makes its keys; a patch that is
-- ready leads to it too, and then nothing is made.
abbrev pub Plans : TableValue → Result Outcome Refusal → Plan → Type 0
Plans t o (Refused why) = o ≡ Err why
Plans t o (Change draft made) = IsSound (drafted draft t) × (o ≡ Ok (record { keys = made; table = drafted draft t }))
Plans t o (Ready patch) = IsReady t patch × (o ≡ Ok (done (after_of patch t)))
