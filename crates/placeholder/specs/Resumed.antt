-- When an upload can begin, and what is left of it after an answer.
use Rattle.std.specs.Prelude.{◌≡◌, ℤ, List, map, None}
use Rattle.osm_table.specs.Table.{TableValue}
use Rattle.dataset.specs.Sound.{IsSound}
use Rattle.upload_order.specs.declared.change.Change.{Change}
use Rattle.upload_order.specs.declared.change.Change.TheVariants.{Create, Modify, Delete}
use Rattle.upload_order.specs.Refused.{upload_refusal}
use Rattle.upload_order.specs.World.{World, IsSoundWorld, Holds, Alone}
use Rattle.placeholder.specs.Confirmed.{moved, moved_change}

-- The table can be sent, and the server takes it.
pub record IsReady (w : World) (t : TableValue) : Type 0 where
  -- the table is sound, and clear to be sent
  pub sound : IsSound t
  pub clear : upload_refusal t ≡ None
  -- what stands on the server refers only to what stands there
  pub world : IsSoundWorld w
  -- it has the table's bases
  pub holds : Holds w t
  -- and nothing else that refers to what is to be deleted
  pub alone : Alone w t

-- the changes that are left, with the id that an object got
abbrev pub left_after : Change → ℤ → List Change → List Change
left_after (Create k c) id cs = map (moved_change (moved k id)) cs
left_after (Modify k version c) id cs = cs
left_after (Delete k version) id cs = cs
