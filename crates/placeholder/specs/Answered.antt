-- A table whose upload a server takes, and the ids that it gave for the first changes.
use Rattle.std.specs.Prelude.{◌≡◌, ℤ, List, ◌∷◌, ◌++◌}
use Rattle.osm_table.specs.Table.{TableValue}
use Rattle.upload_order.specs.declared.change.Change.{Change}
use Rattle.upload_order.specs.Plan.{plan}
use Rattle.upload_order.specs.World.{World}
use Rattle.placeholder.specs.Answers.{IsAnswer, AreAnswers}
use Rattle.placeholder.specs.Resumed.{IsReady}

-- The change c is answered, and the changes cs are left.
pub record IsAnswered (w : World) (t : TableValue) (c : Change) (cs : List Change) (id : ℤ) : Type 0 where
  pub ready : IsReady w t
  pub changes : plan t ≡ c ∷ cs
  pub answer : IsAnswer w t c id

-- The changes cs are answered, and the changes ds are left.
pub record AreAnswered (w : World) (t : TableValue) (cs ds : List Change) (ids : List ℤ) : Type 0 where
  pub ready : IsReady w t
  pub changes : plan t ≡ cs ++ ds
  pub answers : AreAnswers w t cs ids
