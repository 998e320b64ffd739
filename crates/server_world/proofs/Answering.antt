-- What a world answers to a change that is sent, and the refusal that is behind it.
use Rattle.std.proofs.Common.{◌≡◌, ℤ, Option, Some, None, refl, ap}
use Rattle.std.specs.Option.{option_map_or}
use Rattle.upload_order.specs.declared.world.WorldRefusal.{WorldRefusal}
use Rattle.server_world.specs.declared.sending.Sent.{Sent}
use Rattle.server_world.specs.declared.sending.Sent.TheVariants.{Taken, Refused}

-- the reason of a refusal, or another
reason : WorldRefusal → Sent → WorldRefusal
reason other (Taken id) = other
reason other (Refused why) = why

-- where it is taken, nothing refuses it
pub taken_none : (o : Option WorldRefusal) (id p : ℤ) → Taken id ≡ option_map_or Refused o (Taken p) → o ≡ None
taken_none None id p is = refl
taken_none (Some r) id p is = cc

-- where it is refused, that is the refusal
pub refused_some : (o : Option WorldRefusal) (why : WorldRefusal) (p : ℤ) → Refused why ≡ option_map_or Refused o (Taken p) → Some why ≡ o
unfolding reason
refused_some None why p is = cc
refused_some (Some r) why p is = ap (λ s. Some (reason why s)) is
