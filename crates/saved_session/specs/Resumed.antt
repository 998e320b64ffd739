-- What a saved text gives: the table, and the difference to it.
--
-- A text is refused by the first that holds: a line can't stand in its place (`BadSaved` with the first such line, or the
-- number after the last where the text ends too early); an entry breaks a condition of a sound table (`Unsound` with the
-- least such key); there are more entries than the limit (`TableFull`). This is how it is found; what it means stands in
-- `Told`, which leaves no other answer (`saved_table_is_told`).
use Rattle.std.specs.Prelude.{◌≡◌, ℕ, nat_lt, if◌then◌else◌, List, Option, Some, None, Result, Ok, Err}
use Rattle.std.specs.FinMap as fin
use Rattle.osm_base.specs.declared.key.Key.{Key}
use Rattle.osm_table.specs.Table.{TableValue}
use Rattle.dataset.specs.Patch.{PatchValue}
use Rattle.dataset.specs.Diff.{diff}
use Rattle.opl_file.specs.Cut.{lines_of}
use Rattle.saved_session.specs.Reading.{Session, session_from, table_of}
use Rattle.saved_session.specs.SoundTest.{least_unsound}
use Rattle.saved_session.specs.declared.fault.SavedFault.{SavedFault}
use Rattle.saved_session.specs.declared.fault.SavedFault.TheVariants.{BadSaved, Unsound, TableFull, Memory}

-- within the limit of entries
abbrev pub if_room : ℕ → TableValue → Result TableValue SavedFault
if_room limit t = if nat_lt limit (fin.len t.entries) then Err TableFull else Ok t

-- with the least key whose entry breaks a condition, where there is one
abbrev pub if_sound : ℕ → TableValue → Option Key → Result TableValue SavedFault
if_sound limit t (Some key) = Err (Unsound key)
if_sound limit t None = if_room limit t

-- a table that was read
abbrev pub within : ℕ → TableValue → Result TableValue SavedFault
within limit t = if_sound limit t (least_unsound t)

abbrev pub tested : ℕ → Result Session ℕ → Result TableValue SavedFault
tested limit (Err line) = Err (BadSaved line)
tested limit (Ok session) = within limit (table_of session)

-- The table of a text within the limit of entries, or why there is none.
unfoldable pub saved_table : ℕ → List ℕ → Result TableValue SavedFault
saved_table limit bytes = tested limit (session_from 1 (lines_of bytes))

abbrev pub patch_to : TableValue → Result TableValue SavedFault → Result PatchValue SavedFault
patch_to now (Ok t) = Ok (diff now t)
patch_to now (Err fault) = Err fault

-- The difference from a table to the one of a text within the limit of entries, or why there is none.
unfoldable pub saved_patch : ℕ → TableValue → List ℕ → Result PatchValue SavedFault
saved_patch limit now bytes = patch_to now (saved_table limit bytes)

-- what is answered, where memory is found
abbrev pub Resumes : Result PatchValue SavedFault → Result PatchValue SavedFault → Type 0
Resumes (Ok patch) answer = answer ≡ Ok patch
Resumes (Err Memory) answer = Unit {0}
Resumes (Err fault) answer = answer ≡ Err fault
