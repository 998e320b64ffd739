-- The innermost of what waits.
use Rattle.std.specs.Prelude.{Bool, false, List, [], ◌∷◌, Option, Some, None}
use Rattle.std.specs.Option.{option_map_or}
use Rattle.map_search.specs.declared.pending.Part.{Part}
use Rattle.map_search.specs.declared.pending.Pending.{Pending}
use Rattle.map_search.specs.Reading.{takes}

abbrev pub innermost : List Pending → Option Pending
innermost [] = None
innermost (p ∷ waiting) = Some p

abbrev pub innermost_takes : Part → List Pending → Bool
innermost_takes part waiting = option_map_or (takes part) (innermost waiting) false
