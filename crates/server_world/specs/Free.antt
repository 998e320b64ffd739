-- Ids that are free.
use Rattle.std.specs.Prelude.{◌≡◌, ◌<◌, ◌≤◌, ℕ, zero, suc, ◌+◌, ◌-◌, ℤ, pos, Bool, true, ◌||◌, is_some, None, if◌then◌else◌}
use Rattle.std.specs.FinMap as fin
use Rattle.osm_base.specs.declared.key.Kind.{Kind}
use Rattle.osm_base.specs.declared.key.Key.{Key}
use Rattle.osm_table.specs.Table.{TableValue, entry_of}
use Rattle.upload_order.specs.Rename.{is_positive}
use Rattle.upload_order.specs.World.{World, stands}

-- the positive id stands in the world or in the table
abbrev pub is_taken : World → TableValue → Kind → ℕ → Bool
is_taken w t kind n = let k : Key = record { kind = kind; id = pos n } in is_some (stands w k) || is_some (entry_of t k)

-- the first number from n on that isn't taken; that behind them, where the next so many are
abbrev pub first_free : (ℕ → Bool) → ℕ → ℕ → ℕ
first_free taken zero n = n
first_free taken (suc more) n = if taken n then first_free taken more (n + 1) else n

-- the greatest id, 10 ^ 18
abbrev pub last_id : ℕ
last_id = 1000000000000000000

-- The least positive id of the kind that stands neither in the world nor in the table, and the greatest id where all
-- below it do.
unfoldable pub free_id : World → TableValue → Kind → ℤ
free_id w t kind = pos (first_free (is_taken w t kind) (last_id - 1) 1)

-- a number from which a free id may be sought: each positive id below is taken
pub record IsStart (w : World) (t : TableValue) (kind : Kind) (from : ℕ) : Type 0 where
  pub least : 1 ≤ from
  pub most : from ≤ last_id
  pub below : (n : ℕ) → 1 ≤ n → n < from → is_taken w t kind n ≡ true

-- the id is positive, and stands neither in the world nor in the table
abbrev pub IsFreeId : World → TableValue → Kind → ℤ → Type 0
IsFreeId w t kind id = let k : Key = record { kind = kind; id = id } in (is_positive id ≡ true) × (stands w k ≡ None) × (entry_of t k ≡ None)

-- as many objects as memory may have room for, 2 ^ 58: each takes more than 32 bytes, and there are fewer than 2 ^ 63
abbrev pub most_objects : ℕ
most_objects = 288230376151711744

-- memory may have room for the world, and for the table
abbrev pub FitsMemory : World → TableValue → Type 0
FitsMemory w t = (fin.len w.entries ≤ most_objects) × (fin.len t.entries ≤ most_objects)
