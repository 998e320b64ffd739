-- What a writer that found no memory leaves.
use Rattle.std.specs.Prelude.{◌≡◌, ℕ, List, length, take}

-- what stood there stands at the front of what is there now
abbrev pub Extends : List ℕ → List ℕ → Type 0
Extends old new = take (length old) new ≡ old
