-- A worked example of all findings, on which the definition computes.
use Rattle.std.proofs.Common.{◌≡◌, ℕ, pos, [], List, ◌∷◌, ◌++◌, ◌∙◌, map, Some, None, refl}
use Rattle.std.specs.FinMap as fin
use Rattle.std.specs.List.{filter, filter_map}
use Rattle.osm_base.specs.Rank.{rank_cmp}
use Rattle.osm_base.specs.Content.{node}
use Rattle.osm_base.specs.Meta.{empty_meta}
use Rattle.osm_base.specs.declared.coord.Coord.{Coord}
use Rattle.osm_base.specs.declared.content.Content.{Content}
use Rattle.osm_base.specs.declared.content.Content.TheVariants as content
use Rattle.osm_base.specs.declared.key.Key.{Key}
use Rattle.osm_base.specs.declared.key.Kind.TheVariants as kind
use Rattle.osm_table.specs.declared.entry.Base.TheVariants.{Live}
use Rattle.osm_table.specs.declared.entry.Entry.{Entry}
use Rattle.osm_table.specs.declared.entry.Entry.TheVariants.{Known}
use Rattle.osm_table.specs.Table.{TableValue, keys_by_rank}
use Rattle.tool_api.specs.Findings.{is_repeated, is_open_ring}
use Rattle.map_checks.specs.Findings.{doubled_finding, findings}
use Rattle.map_checks.specs.declared.finding.Finding.TheVariants.{Doubled, Repeated, OpenRing}

abbrev n : ℕ → Key
n i = node (pos i)

abbrev w : ℕ → Key
w i = record { kind = kind.Way; id = pos i }

abbrev here : Coord
here = record { lon = pos 0; lat = pos 0; on_map = refl }

abbrev there : Coord
there = record { lon = pos 1; lat = pos 0; on_map = refl }

abbrev live : Key → Content → Key × Entry
live k c = (k, Known (Live 1 c empty_meta) (Some c) None)

abbrev way : List ℕ → Content
way ids = content.Way [] (map pos ids)

-- n1, n3 and n4 at one place, n2 at another; w6 is closed, w7 was deleted
abbrev entries : List (Key × Entry)
entries = live (n 1) (content.Node [] here) ∷ live (n 2) (content.Node [] there) ∷ live (n 3) (content.Node [] here) ∷ live (n 4) (content.Node [] here)
    ∷ live (w 5) (way (1 ∷ 2 ∷ 2 ∷ 3 ∷ [])) ∷ live (w 6) (way (1 ∷ 2 ∷ 4 ∷ 1 ∷ [])) ∷ (w 7, Known (Live 1 (way (2 ∷ 2 ∷ [])) empty_meta) None None) ∷ []

abbrev table : TableValue
table = record { entries = fin.from_sorted entries; next = 1 }

in_table : fin.entries (fin.from_sorted {R = rank_cmp} entries) ≡ entries
in_table = fin.entries-from_sorted rank_cmp entries tt

keys : keys_by_rank table ≡ n 1 ∷ n 2 ∷ n 3 ∷ n 4 ∷ w 5 ∷ w 6 ∷ w 7 ∷ []
keys = rw in_table refl

doubled : filter_map (doubled_finding table) (n 1 ∷ n 2 ∷ n 3 ∷ n 4 ∷ w 5 ∷ w 6 ∷ w 7 ∷ []) ≡ Doubled (n 3) (n 1) ∷ Doubled (n 4) (n 1) ∷ []
doubled = simp (fin.get-entries, in_table) refl

repeated : filter (is_repeated table) (n 1 ∷ n 2 ∷ n 3 ∷ n 4 ∷ w 5 ∷ w 6 ∷ w 7 ∷ []) ≡ w 5 ∷ []
repeated = simp (fin.get-entries, in_table) refl

rings : filter (is_open_ring table) (n 1 ∷ n 2 ∷ n 3 ∷ n 4 ∷ w 5 ∷ w 6 ∷ w 7 ∷ []) ≡ w 5 ∷ []
rings = simp (fin.get-entries, in_table) refl

all : findings table ≡ Doubled (n 3) (n 1) ∷ Doubled (n 4) (n 1) ∷ Repeated (w 5) ∷ OpenRing (w 5) ∷ []
all =
    (λ i. filter_map (doubled_finding table) (keys i) ++ (map Repeated (filter (is_repeated table) (keys i)) ++ map OpenRing (filter (is_open_ring table) (keys i))))
    ∙ (λ i. doubled i ++ (map Repeated (repeated i) ++ map OpenRing (rings i)))
