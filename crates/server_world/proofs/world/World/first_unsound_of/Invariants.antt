use Rattle.std.proofs.Common.{◌≡◌, drop}
use Rattle.std.specs.List.{find}
use Rattle.server_world.specs.Unsound.{is_unsound_at}
use Rattle.server_world.proofs.world.World.first_unsound_of.Given as goal

abbrev pub invariant-loop-key : goal.invariant-loop-key
invariant-loop-key l = find (is_unsound_at l.self) (drop l.key-index l.keys) ≡ find (is_unsound_at l.self) l.keys
