-- What a world answers to a change.
use Rattle.std.specs.Prelude.{◌≡◌, Option, Some, None, Result, Ok, Err}
use Rattle.upload_order.specs.declared.world.WorldRefusal.{WorldRefusal}
use Rattle.server_world.specs.declared.refusal.WorldFault.{WorldFault}
use Rattle.server_world.specs.declared.refusal.WorldFault.TheVariants.{Refused, Memory}

-- Ok where nothing refuses; else the world. That no memory was left is answered only where nothing refuses.
abbrev pub Answers : Result (Unit {0}) WorldFault → Option WorldRefusal → Type 0
Answers (Ok done) why = why ≡ None
Answers (Err (Refused refusal)) why = why ≡ Some refusal
Answers (Err Memory) why = why ≡ None
