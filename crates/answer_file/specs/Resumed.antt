-- When a file of answers is a server's own, and how the upload goes on from what it makes of a table.
--
-- For example the plan of a table makes the node n-1 and then the way w-1 through it. The server made the node as n50, and then
-- the connection broke. The file has the line `create n-1 n50 v1`. In the table after it n50 stands as the server has it, the
-- way runs through n50, and the plan is to make the way: what was left, under the new name.
use Rattle.std.specs.Prelude.{◌≡◌, ℕ, ℤ, List, map}
use Rattle.osm_table.specs.Table.{TableValue}
use Rattle.upload_order.specs.declared.change.Change.{Change}
use Rattle.upload_order.specs.Plan.{plan}
use Rattle.upload_order.specs.Rename.{called}
use Rattle.upload_order.specs.Run.{run_from, Ended}
use Rattle.upload_order.specs.World.{World}
use Rattle.placeholder.specs.Answered.{AreAnswered}
use Rattle.placeholder.specs.Confirm.{answers_of}
use Rattle.placeholder.specs.Confirmed.{moved_change, names_of}
use Rattle.placeholder.specs.Resumed.{IsReady}
use Rattle.answer_file.specs.Text.{text_of}

-- The server w can take the table's plan, and the bytes are the text of its answers to the first changes of the plan, with the
-- ids that it gave to what was made. The other changes are left.
pub record TellsAnswers (w : World) (t : TableValue) (changes left : List Change) (ids : List ℤ) (bytes : List ℕ) : Type 0 where
  pub answers : AreAnswered w t changes left ids
  pub text : bytes ≡ text_of (answers_of changes ids)

-- From the table u the upload goes on: where the server w took these changes and gave these ids, the table can be sent to the
-- server as it is then, and its plan is what was left, each placeholder that was answered under the id that its object got.
pub record GoesOn (w : World) (changes left : List Change) (ids : List ℤ) (u : TableValue) : Type 0 where
  pub server : World
  pub taken : run_from 1 w changes ids ≡ Ended server
  pub ready : IsReady server u
  pub rest : plan u ≡ map (moved_change (called (names_of changes ids))) left
