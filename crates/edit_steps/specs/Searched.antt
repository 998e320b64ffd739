-- The texts of `find` and `check`.
--
-- For example behind the reply of `find way` stand `found 2`, `w5` and `w-2`, and behind that of `check` stand `check 1` and
-- `doubled n3 n1`.
use Rattle.std.specs.Prelude.{ℕ, List, [], ◌∷◌, ◌++◌, length, flat_map, codes}
use Rattle.osm_base.specs.Number.{key_written}
use Rattle.osm_base.specs.declared.key.Key.{Key}
use Rattle.map_checks.specs.declared.finding.Finding.{Finding}
use Rattle.map_checks.specs.declared.finding.Finding.TheVariants.{Doubled, Repeated, OpenRing}
use Rattle.edit_steps.specs.Counted.{count_line}

-- a key, alone in its line
abbrev pub key_line : Key → List ℕ
key_line key = key_written key ++ 10 ∷ []

-- How many keys were found, and the keys, one a line.
abbrev pub found_text : List Key → List ℕ
found_text keys = count_line (codes "found ") (length keys) ++ flat_map key_line keys

-- what is broken, in a line
abbrev pub finding_line : Finding → List ℕ
finding_line (Doubled key of) = codes "doubled " ++ (key_written key ++ (32 ∷ key_line of))
finding_line (Repeated key) = codes "repeated " ++ key_line key
finding_line (OpenRing key) = codes "openring " ++ key_line key

abbrev pub findings_lines : List Finding → List ℕ
findings_lines findings = flat_map finding_line findings

-- How many findings there are, and the findings, one a line.
abbrev pub findings_text : List Finding → List ℕ
findings_text findings = count_line (codes "check ") (length findings) ++ findings_lines findings
