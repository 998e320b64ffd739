-- How a world is stored.
use Rattle.std.specs.Prelude.{ℕ, refl, Option}
use Rattle.std.specs.Coded.{Coded, code_by, coded×, coded_list, coded_option, coded_ℕ, coded_ℤ}
use Rattle.std.specs.FinMap as fin
use Rattle.osm_base.specs.Rank.{rank_cmp}
use Rattle.osm_base.specs.contracts.key.Key as key
use Rattle.osm_base.specs.contracts.content.Content as content
use Rattle.osm_base.specs.declared.content.Content.{Content}
use Rattle.upload_order.specs.Rename.{Names}
use Rattle.upload_order.specs.World.{World, WorldEntry}

-- the objects of a world
abbrev pub Objects : Type 0
Objects = fin.FinMap rank_cmp WorldEntry

abbrev pub entry_code : Coded WorldEntry
entry_code = code_by (ℕ × Option Content) (coded× coded_ℕ (coded_option content.the_row.coded)) (λ e. (e.version, e.content)) (λ p. record { version = p.0; content = p.1 }) (λ _. refl)

abbrev pub objects_code : Coded Objects
objects_code = fin.code key.the_row.coded entry_code

abbrev pub names_code : Coded Names
names_code = coded_list (coded× key.the_row.coded coded_ℤ)

abbrev pub world_code : Coded World
world_code = code_by (Objects × Names) (coded× objects_code names_code) (λ w. (w.entries, w.names)) (λ p. record { entries = p.0; names = p.1 }) (λ _. refl)
