use Rattle.std.proofs.Common.{◌≡◌, ◌++◌, drop}
use Rattle.std.specs.List.{flat_map}
use Rattle.osm_table.specs.Table.{users}
use Rattle.tool_api.proofs.uses.all_users.Given as goal

abbrev pub invariant-loop-key : goal.invariant-loop-key
invariant-loop-key l = l.all.items ++ flat_map (users l.ds) (drop l.key-index l.keys) ≡ flat_map (users l.ds) l.keys
