use Rattle.std.specs.Prelude.{ℕ, refl}
use Rattle.std.specs.Coded.{Coded, code_by, coded×, coded_ℕ}
use Rattle.std.specs.FinMap as map
use Rattle.osm_base.specs.Rank.{rank_cmp}
use Rattle.osm_base.specs.contracts.key.Key as key
use Rattle.osm_table.specs.contracts.entry.Entry as entry
use Rattle.osm_table.specs.declared.entry.Entry.{Entry}
use Rattle.osm_table.specs.Table.{TableValue}

-- a table is stored as its entries and its number
abbrev pub table_code : Coded TableValue
table_code =
    code_by (map.FinMap rank_cmp Entry × ℕ) (coded× (map.code key.the_row.coded entry.the_row.coded) coded_ℕ) (λ t. (t.entries, t.next))
    (λ p. record { entries = p.0; next = p.1 })
    (λ _. refl)
