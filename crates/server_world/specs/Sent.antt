-- What becomes of a change that is sent with the least free id.
use Rattle.std.specs.Prelude.{ℤ, pos}
use Rattle.std.specs.Option.{option_map_or}
use Rattle.osm_table.specs.Table.{TableValue}
use Rattle.upload_order.specs.declared.change.Change.{Change}
use Rattle.upload_order.specs.declared.change.Change.TheVariants.{Create}
use Rattle.upload_order.specs.World.{World, refusal, after}
use Rattle.server_world.specs.declared.sending.Sent.{Sent}
use Rattle.server_world.specs.declared.sending.Sent.TheVariants.{Taken, Refused}
use Rattle.server_world.specs.Free.{free_id}

-- the least free id for a Create, and 0 for each other change
abbrev pub pick_for : World → TableValue → Change → ℤ
pick_for w t (Create k c) = free_id w t k.kind
pick_for w t c = pos 0

-- that it is refused, or else that it is taken with its pick
abbrev pub answer_to : World → TableValue → Change → Sent
answer_to w t c = option_map_or Refused (refusal w c (pick_for w t c)) (Taken (pick_for w t c))

-- the same world, if it refuses the change; else the world after it
abbrev pub after_sent : World → TableValue → Change → World
after_sent w t c = option_map_or (λ why. w) (refusal w c (pick_for w t c)) (after w c (pick_for w t c))
