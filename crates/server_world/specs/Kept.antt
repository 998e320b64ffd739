-- What is kept beside the objects of a world.
use Rattle.ref_index.specs.Bag.{Bag}
use Rattle.server_world.specs.declared.starts.Starts.{Starts}
use Rattle.server_world.specs.Codes.{Objects}
use Rattle.server_world.specs.Indexed.{IsIndexed}
use Rattle.server_world.specs.Starts.{AreStartsOf}

-- an exact index, and starts
pub record IsKept (m : Objects) (bag : Bag) (s : Starts) : Type 0 where
  pub index : IsIndexed m bag
  pub starts : AreStartsOf m s
