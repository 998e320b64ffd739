-- How a told map is stored, and how it keeps what is told.
use Rattle.std.specs.Prelude.{◌≡◌, List, map, true, Some, refl}
use Rattle.std.specs.Coded.{Coded, code_by, coded×, coded_list}
use Rattle.std.specs.FinMap as fin
use Rattle.std.specs.Map.{lookup}
use Rattle.osm_base.specs.KeyEq.{eq}
use Rattle.osm_base.specs.declared.key.Key.{Key}
use Rattle.osm_base.specs.contracts.key.Key as key
use Rattle.osm_table.specs.contracts.told.Told as told
use Rattle.osm_table.specs.declared.entry.Entry.{Entry}
use Rattle.osm_table.specs.declared.told.Told.{Told}
use Rattle.osm_table.specs.Told.{ToldEntries, ToldValue, entry_told, told_of, is_told_there}

-- a told map is stored as its entries and its order
abbrev pub told_code : Coded ToldValue
told_code =
    code_by (ToldEntries × List Key) (coded× (fin.code key.the_row.coded told.the_row.coded) (coded_list key.the_row.coded)) (λ m. (m.told, m.order))
    (λ p. record { told = p.0; order = p.1 })
    (λ _. refl)

-- what is told, read off the entries that are kept
abbrev pub each_told : List (Key × Entry) → List (Key × Told)
each_told es = map (λ e. (e.0, told_of e.1)) es

abbrev pub told_kept : List (Key × Entry) → ToldEntries
told_kept es = fin.from_entries (each_told es)

-- each entry that is kept is one of which no more is known than what is told
abbrev pub AreTold : List (Key × Entry) → Type 0
AreTold es = (key : Key) (e : Entry) → lookup (eq key) es ≡ Some e → entry_told (told_of e) ≡ e

-- all that is told of is told of as there
abbrev pub AreThere : ToldEntries → Type 0
AreThere told = (key : Key) (t : Told) → fin.get told key ≡ Some t → is_told_there (Some t) ≡ true
