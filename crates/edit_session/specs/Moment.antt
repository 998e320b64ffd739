-- What is outside of a session at one moment.
use Rattle.std.specs.Prelude.{ℕ, Bool, List, Option}
use Rattle.osm_outside.specs.Outside.{Note, Shelved}

-- The shelf and the sink at one moment, with what they tell: the files, whether one of them was begun, what was noted of the reads, the
-- text taken, and how often a call of each failed.
pub record Outside (S K : Type 0) : Type 0 where
  pub shelf : S
  pub sink : K
  pub files : Option Shelved
  pub begun : Bool
  pub noted : List Note
  pub text : Option (List ℕ)
  pub read_faults : ℕ
  pub write_faults : ℕ

-- a shelf and a sink that tell it so
abbrev pub outside : {S K : Type 0} → (told : S → Option Shelved) (begun : S → Bool) (noted : S → List Note) (read_faults : S → ℕ) (taken : K → Option (List ℕ)) (write_faults : K → ℕ) → S → K → Outside S K
outside told begun noted read_faults taken write_faults shelf sink = record {
  shelf = shelf;
  sink = sink;
  files = told shelf;
  begun = begun shelf;
  noted = noted shelf;
  text = taken sink;
  read_faults = read_faults shelf;
  write_faults = write_faults sink;
}
