-- Runs of the first changes of a list.
use Rattle.std.specs.Prelude.{◌≡◌, ℤ, List, [], ◌++◌}
use Rattle.osm_table.specs.Table.{TableValue}
use Rattle.upload_order.specs.declared.change.Change.{Change}
use Rattle.upload_order.specs.Run.{run_from, Ended, AreFresh}
use Rattle.upload_order.specs.World.{World, IsSoundWorld}

-- Whatever fresh ids are picked for the first of the changes, however many these are, the run of them ends, and in a sound
-- world; and of the world after all changes P holds.
abbrev pub RunsEachFront : TableValue → World → List Change → (World → Type 0) → Type 0
RunsEachFront t w cs P = (front back : List Change) (picks : List ℤ) → front ++ back ≡ cs → AreFresh w t front picks → (v : World) × (run_from 1 w front picks ≡ Ended v) × IsSoundWorld v × (back ≡ [] → P v)
