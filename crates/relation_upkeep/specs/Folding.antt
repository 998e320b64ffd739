-- How far the members are read when runs are folded.
use Rattle.std.specs.Prelude.{ℕ, List, ◌++◌, Option, Some, None}
use Rattle.std.specs.Option.{option_map}
use Rattle.osm_base.specs.declared.key.Key.{Key}
use Rattle.osm_base.specs.declared.members.Member.{Member}
use Rattle.tool_api.specs.Upkeep.{folded_from}

-- what is made of the rest stands behind what was made before
abbrev pub behind : List Member → Option (List Member) → Option (List Member)
behind made rest = option_map (λ ms. made ++ ms) rest

-- reading goes on behind so many members, or ends
abbrev pub read_on : List Key → Key → List Member → Option ℕ → List Member → Option (List Member)
read_on ways kept made None rest = None
read_on ways kept made (Some skip) rest = behind made (folded_from ways kept skip rest)
