-- Bytes that a writer appended to, one write after the other.
use Rattle.std.proofs.Common.{◌≡◌, ℕ, ◌≤◌, List, [], ◌++◌, length, take, sym, ◌∙◌, ap, arith, length-append, Result, Ok, Err, OnErr}
use Rattle.std.proofs.Math.Seq.{take-append_seam}
use Rattle.std.proofs.lemmas.List.{append-nil, take-take, length-take, take-append-le}
use Rattle.osm_base.specs.Extends.{Extends}

-- nothing was written
pub extends_itself : (old new : List ℕ) → new ≡ old → take (length old) new ≡ old
extends_itself old new e = ap (take (length old)) (e ∙ sym (append-nil old)) ∙ take-append_seam old []

-- all was written
pub extends_appended : (old new more : List ℕ) → new ≡ old ++ more → take (length old) new ≡ old
extends_appended old new more e = ap (take (length old)) e ∙ take-append_seam old more

-- some was written after the rest
pub extends_more : (old mid new more : List ℕ) → mid ≡ old ++ more → take (length mid) new ≡ mid → take (length old) new ≡ old
extends_more old mid new more e h =
    let longer : length old ≤ length mid = omega (arith, ap length e, length-append old more) in
    sym (take-take (length old) (length mid) new longer) ∙ ap (take (length old)) h ∙ extends_appended old mid more e

-- something more was written
pub extends_on : (old mid new more : List ℕ) → take (length old) mid ≡ old → new ≡ mid ++ more → take (length old) new ≡ old
extends_on old mid new more h e =
    let within : length old ≤ length mid = omega (arith, ap length h, length-take (length old) mid) in
    ap (take (length old)) e ∙ take-append-le (length old) mid more within ∙ h

pub ruleset extends_steps = (extends_itself, extends_appended, extends_more)

-- a later write failed
pub failed_after : {A E : Type 0} (r : Result A E) (old mid new more : List ℕ) → mid ≡ old ++ more → take (length mid) new ≡ mid → OnErr r (Extends old new)
failed_after (Ok x) old mid new more e h = tt
failed_after (Err x) old mid new more e h = extends_more old mid new more e h

-- a first write failed
pub failed_first : {A E : Type 0} (r : Result A E) (old new : List ℕ) → new ≡ old → OnErr r (Extends old new)
failed_first (Ok x) old new e = tt
failed_first (Err x) old new e = extends_itself old new e
