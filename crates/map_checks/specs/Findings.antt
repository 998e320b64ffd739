-- All that a check finds in a table.
--
-- For example with n1 and n3 at one place, n2 at another and w5 Nn1,n2,n2,n3 these are: n3 is doubled, of n1; w5 is
-- repeated; w5 is an open ring.
use Rattle.std.specs.Prelude.{◌≡◌, true, is_some, List, ◌++◌, map, Option, Some, None}
use Rattle.std.specs.List.{filter, filter_map}
use Rattle.std.specs.Option.{option_map}
use Rattle.osm_base.specs.RisingKeys.{is_in}
use Rattle.osm_base.specs.declared.key.Key.{Key}
use Rattle.osm_table.specs.Table.{TableValue, keys_by_rank}
use Rattle.tool_api.specs.Checks.{is_named}
use Rattle.tool_api.specs.Findings.{doubled_of, is_repeated, is_open_ring}
use Rattle.map_checks.specs.declared.finding.Finding.{Finding}
use Rattle.map_checks.specs.declared.finding.Finding.TheVariants.{Doubled, Repeated, OpenRing}

-- what is found of a node
abbrev pub doubled_finding : TableValue → Key → Option Finding
doubled_finding t k = option_map (λ of. Doubled k of) (doubled_of t k)

-- the key of a doubled node
abbrev pub doubled_key : Finding → Option Key
doubled_key (Doubled k of) = Some k
doubled_key (Repeated k) = None
doubled_key (OpenRing k) = None

-- All doubled nodes of the table are among the keys.
abbrev pub HasDoubled : TableValue → List Key → Type 0
HasDoubled t keys = (k : Key) → is_in k (keys_by_rank t) ≡ true → is_some (doubled_of t k) ≡ true → is_named keys k ≡ true

-- The doubled nodes, then the repeated ways, then the open rings, each by rank.
abbrev pub findings : TableValue → List Finding
findings t =
    filter_map (doubled_finding t) (keys_by_rank t)
    ++ (map Repeated (filter (is_repeated t) (keys_by_rank t))
    ++ map OpenRing (filter (is_open_ring t) (keys_by_rank t)))
