-- Changes that are sent one after the other, each with the least free id: the ids, and the run that it is.
use Rattle.std.specs.Prelude.{◌≡◌, ℕ, ◌+◌, ℤ, pos, List, [], ◌∷◌, take, Option, Some, None}
use Rattle.osm_table.specs.Table.{TableValue}
use Rattle.upload_order.specs.declared.change.Change.{Change}
use Rattle.upload_order.specs.declared.change.Change.TheVariants.{Create}
use Rattle.upload_order.specs.Run.{Ran, Ended, Stopped, run_from}
use Rattle.upload_order.specs.World.{World, after}
use Rattle.upload_order.specs.declared.world.WorldRefusal.{WorldRefusal}
use Rattle.server_world.specs.declared.rehearsal.Rehearsal.{Rehearsal}
use Rattle.server_world.specs.declared.rehearsal.Rehearsal.TheVariants.{Accepted, Refused}
use Rattle.server_world.specs.Free.{free_id}

-- the ids of the objects that are made, each the least that is free in the world as it is then, and in the table
abbrev pub free_picks : World → TableValue → List Change → List ℤ
free_picks w t [] = []
free_picks w t (Create k c ∷ cs) = free_id w t k.kind ∷ free_picks (after w (Create k c) (free_id w t k.kind)) t cs
free_picks w t (c ∷ cs) = free_picks (after w c (pos 0)) t cs

-- what is told of a run of so many changes
abbrev pub told_of : ℕ → Ran → Rehearsal
told_of count (Ended w) = Accepted count
told_of count (Stopped n why) = Refused n why

-- a run that ends, or is stopped at the change of this number
abbrev pub ended_by : Option WorldRefusal → ℕ → World → Ran
ended_by None n v = Ended v
ended_by (Some why) n v = Stopped n why

-- The first changes, so many, are taken with these ids and lead from w to v; the next one is refused for this reason, if
-- there is one. Whatever number the first of them has.
pub record RunsTo (t : TableValue) (w v : World) (cs : List Change) (count : ℕ) (why : Option WorldRefusal) : Type 0 where
  pub front : (n : ℕ) → run_from n w (take count cs) (free_picks w t cs) ≡ Ended v
  pub whole : (n : ℕ) → run_from n w cs (free_picks w t cs) ≡ ended_by why (n + count) v
