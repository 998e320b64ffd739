-- What becomes of changes in the world of a table's bases.
use Rattle.std.specs.Prelude.{ℕ, ◌+◌, Option, Some, None, List, [], ◌∷◌}
use Rattle.osm_table.specs.Table.{TableValue}
use Rattle.upload_order.specs.declared.change.Change.{Change}
use Rattle.upload_order.specs.World.{World, refusal, after}
use Rattle.upload_order.specs.declared.world.WorldRefusal.{WorldRefusal}
use Rattle.server_world.specs.declared.rehearsal.Rehearsal.{Rehearsal}
use Rattle.server_world.specs.declared.rehearsal.Rehearsal.TheVariants.{Accepted, Refused}
use Rattle.server_world.specs.Sent.{pick_for}

abbrev pub unless_refused : Option WorldRefusal → ℕ → Rehearsal → Rehearsal
unless_refused None n rest = rest
unless_refused (Some why) n rest = Refused n why

-- The changes one after the other, up to the first that is refused, where n of them were accepted before.
abbrev pub rehearsed : TableValue → ℕ → World → List Change → Rehearsal
rehearsed t n w [] = Accepted n
rehearsed t n w (c ∷ cs) = unless_refused (refusal w c (pick_for w t c)) (n + 1) (rehearsed t (n + 1) (after w c (pick_for w t c)) cs)
