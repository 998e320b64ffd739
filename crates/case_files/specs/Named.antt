-- Files under names.
use Rattle.std.specs.Prelude.{◌≡◌, ℕ, Bool, false, List, None}
use Rattle.std.specs.List.{list_any}
use Rattle.std.specs.Str.{bytes_eq}
use Rattle.osm_outside.specs.Outside.{Shelved, held}
use Rattle.case_files.specs.declared.case.CaseFile.{CaseFile}

-- whether a file has the name
abbrev pub is_named : List ℕ → List CaseFile → Bool
is_named name files = list_any (λ file. bytes_eq file.name.items name) files

-- the shelf holds nothing under a name that none of the files has
abbrev pub LacksUnnamed : Shelved → List CaseFile → Type 0
LacksUnnamed shelved files = (name : List ℕ) → is_named name files ≡ false → held shelved name ≡ None
