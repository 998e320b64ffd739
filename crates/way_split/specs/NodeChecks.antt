-- The tests of a split but for the closing ones, what they come to, and the test of one named node.
use Rattle.std.specs.Prelude.{◌≡◌, not, nat_lt, length, List, [], Option, Some, None}
use Rattle.std.specs.Option.{option_or}
use Rattle.osm_base.specs.Content.{node}
use Rattle.osm_base.specs.declared.key.Key.{Key}
use Rattle.osm_table.specs.Table.{TableValue}
use Rattle.tool_api.specs.declared.kinds.Kinds.TheVariants.{Nodes, Ways}
use Rattle.tool_api.specs.declared.refusal.Refusal.{Refusal}
use Rattle.tool_api.specs.declared.refusal.Refusal.TheVariants.{NamedTwice, WrongKind, NotInWay, NothingToSplit}
use Rattle.tool_api.specs.Checks.{when, is_named, takes, target_test}
use Rattle.tool_api.specs.Changes.{content_of}
use Rattle.tool_api.specs.Split.{way_refs, node_tests, complete_test, split_pieces}
use Rattle.way_split.specs.declared.split.Tested.{Tested}
use Rattle.way_split.specs.declared.split.Tested.TheVariants.{Refused, Cut}

-- NamedTwice, WrongKind, NotInWay: among the nodes named before it, and the nodes of the way as keys
abbrev pub one_test : List Key → List Key → Key → Option Refusal
one_test in_way seen k =
    option_or (when (is_named seen k) (NamedTwice k))
    (option_or (when (not (takes Nodes k.kind)) (WrongKind k))
    (when (not (is_named in_way (node k.id))) (NotInWay k)))

-- the first refusal of a split before its closing tests
abbrev pub split_tests : TableValue → Key → List Key → Option Refusal
split_tests t way nodes =
    option_or (target_test t Ways way)
    (option_or (node_tests (way_refs (content_of t way)) [] nodes)
    (option_or (complete_test t (way_refs (content_of t way)))
    (when (nat_lt (length (split_pieces t way nodes)) 2) (NothingToSplit way))))

-- the first refusal, or the pieces where there is none
abbrev pub IsTested : TableValue → Key → List Key → Tested → Type 0
IsTested t way nodes (Refused refusal) = split_tests t way nodes ≡ Some refusal
IsTested t way nodes (Cut pieces) = (split_tests t way nodes ≡ None) × (pieces.items ≡ split_pieces t way nodes)
