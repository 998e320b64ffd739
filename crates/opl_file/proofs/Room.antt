-- Pieces against the bytes that may still come.
use Rattle.std.proofs.Common.{◌≡◌, ℕ, ◌-◌, ◌<◌, ◌≤◌, Bool, true, false, ◌||◌, nat_lt, if◌then◌else◌, List, ◌++◌, length, refl, arith}
use Rattle.std.proofs.lemmas.Grind.{common_steps}
use Rattle.std.proofs.lemmas.Bool.Decides.{nat_tests}

-- a file that is too long stays so
pub stays-long : {X : Type 0} (too_long : Bool) (a b : Bool) (stop go on : X) → too_long ≡ true → (if too_long || a then stop else go) ≡ (if too_long || b then stop else on)
stays-long true a b stop go on h = refl
stays-long false a b stop go on h = cc

-- a piece that is longer than the room makes the file too long
pub grows-long : {X : Type 0} (too_long : Bool) (room : ℕ) (piece more : List ℕ) (stop go : X) → room < length piece → stop ≡ (if too_long || nat_lt room (length (piece ++ more)) then stop else go)
grows-long true room piece more stop go h = refl
grows-long false room piece more stop go h =
    let test : nat_lt room (length (piece ++ more)) ≡ true = grind (arith, nat_tests, common_steps) in
    rw test refl

-- a piece that fits takes its length off the room
pub same_room : (room : ℕ) (piece more : List ℕ) → length piece ≤ room → nat_lt (room - length piece) (length more) ≡ nat_lt room (length (piece ++ more))
same_room room piece more h = grind (arith, nat_tests, common_steps)

pub fits-on : {X : Type 0} (too_long : Bool) (room : ℕ) (piece more : List ℕ) (stop go on : X) → length piece ≤ room → go ≡ on
    → (if too_long || nat_lt (room - length piece) (length more) then stop else go) ≡ (if too_long || nat_lt room (length (piece ++ more)) then stop else on)
fits-on too_long room piece more stop go on h same = rw (same_room room piece more h, same) refl
