-- What a test picks.
use Rattle.std.proofs.Common.{Bool, true, false, if◌then◌else◌}

-- what holds of both holds of the one that is picked
pub either : {X : Type 0} (P : X → Type 0) (b : Bool) (x y : X) → P x → P y → P (if b then x else y)
either P true x y h i = h
either P false x y h i = i
