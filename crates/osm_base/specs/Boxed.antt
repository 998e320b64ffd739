use Rattle.std.specs.Prelude.{List, [], Option, Some, None, Vec, Box}

module _ {X Z : Type 0} where
  -- the items of a list behind a box, none where there is no box
  abbrev pub items_of : Option (Box (Vec X Z) Z) → List X
  items_of None = []
  items_of (Some list) = list.value.items
