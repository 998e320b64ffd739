use Rattle.std.proofs.Common.{◌≡◌, ◌++◌, drop}
use Rattle.osm_base.specs.Content.{node}
use Rattle.tool_api.specs.Checks.{is_named}
use Rattle.tool_api.specs.Split.{pieces, pieces_from}
use Rattle.way_split.proofs.pieces.pieces.Given as goal

abbrev pub invariant-loop-i : goal.invariant-loop-i
invariant-loop-i l = l.out.items ++ pieces_from (λ n. is_named l.cuts (node n)) l.piece (drop l.i l.refs) ≡ pieces (λ n. is_named l.cuts (node n)) l.refs
