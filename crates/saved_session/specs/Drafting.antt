-- A table with entries put in and keys taken out, and what a reader of lines answers: for the proof of the code.
use Rattle.std.specs.Prelude.{◌≡◌, List, [], ◌∷◌, Result, Err, ℕ}
use Rattle.osm_base.specs.declared.key.Key.{Key}
use Rattle.osm_table.specs.declared.entry.Entry.{Entry}
use Rattle.osm_table.specs.Table.{TableValue, with_entry, without_entry}
use Rattle.saved_session.specs.declared.fault.SavedFault.{SavedFault}
use Rattle.saved_session.specs.declared.fault.SavedFault.TheVariants as faults

-- the table with entries set, the first one first
abbrev pub with_all : List (Key × Entry) → TableValue → TableValue
with_all [] t = t
with_all (e ∷ es) t = with_all es (with_entry t e.0 e.1)

-- the table without some keys, the first one first
abbrev pub without_all : List Key → TableValue → TableValue
without_all [] t = t
without_all (k ∷ ks) t = without_all ks (without_entry t k)

-- the fault names the first bad line, or memory ran out
abbrev pub Refuses : {A : Type 0} → Result A ℕ → SavedFault → Type 0
Refuses read (faults.BadSaved line) = read ≡ Err line
Refuses read (faults.Unsound key) = ⊥
Refuses read faults.TableFull = ⊥
Refuses read faults.Memory = Unit {0}
