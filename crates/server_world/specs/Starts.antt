-- Where free ids are sought.
use Rattle.std.specs.Prelude.{ℕ, pos}
use Rattle.osm_base.specs.declared.key.Kind.{Kind}
use Rattle.osm_base.specs.declared.key.Kind.TheVariants.{Node, Way, Relation}
use Rattle.osm_base.specs.declared.key.Key.{Key}
use Rattle.osm_table.specs.Table.{TableValue}
use Rattle.upload_order.specs.Rename.{Names}
use Rattle.upload_order.specs.World.{World}
use Rattle.server_world.specs.declared.starts.Starts.{Starts}
use Rattle.server_world.specs.Codes.{Objects}
use Rattle.server_world.specs.Free.{IsStart}

abbrev pub start_at : Starts → Kind → ℕ
start_at s Node = s.node
start_at s Way = s.way
start_at s Relation = s.relation

abbrev pub with_start : Starts → Kind → ℕ → Starts
with_start s Node id = record { node = id; way = s.way; relation = s.relation }
with_start s Way id = record { node = s.node; way = id; relation = s.relation }
with_start s Relation id = record { node = s.node; way = s.way; relation = id }

-- a start for each kind
abbrev pub AreStarts : World → TableValue → Starts → Type 0
AreStarts w t s = (kind : Kind) → IsStart w t kind (start_at s kind)

-- the positive id of a kind
abbrev pub key_at : Kind → ℕ → Key
key_at kind n = record { kind = kind; id = pos n }

-- a start in each world of these objects, whatever its names are, and whatever the table
abbrev pub IsStartOf : Objects → Kind → ℕ → Type 0
IsStartOf m kind from = (names : Names) (t : TableValue) → IsStart (record { entries = m; names = names }) t kind from

abbrev pub AreStartsOf : Objects → Starts → Type 0
AreStartsOf m s = (kind : Kind) → IsStartOf m kind (start_at s kind)
