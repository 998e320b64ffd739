-- What decides, and what reads just what is so, tell it by each answer.
use Rattle.std.proofs.Common.{◌≡◌, Bool, true, false, Option, Some, None, refl, Decides}
use Rattle.std.specs.Prelude.{◌↔◌}
use Rattle.osm_base.specs.Told.{Tells, Finds}

pub tells : {P : Type 0} (test answer : Bool) → Decides test P → (test ≡ answer) ↔ Tells P answer
tells true true d = (λ e. d.0 refl, λ p. refl)
tells true false d = (λ e. cc, λ none. absurd (none (d.0 refl)))
tells false true d = (λ e. cc, λ p. d.1 p)
tells false false d = ((λ e p. let is = d.1 p in cc), λ none. refl)

pub finds : {A : Type 0} (P : A → Type 0) (read answer : Option A) → ((x : A) → read ≡ Some x → P x) → ((x : A) → P x → read ≡ Some x) → (read ≡ answer) ↔ Finds P answer
finds P read (Some x) given found = (given x, found x)
finds P None None given found = ((λ e x p. let is = found x p in cc), λ none. refl)
finds P (Some y) None given found = (λ e. cc, λ none. absurd (none y (given y refl)))
