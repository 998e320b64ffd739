use Rattle.std.proofs.Common.{◌≡◌, take}
use Rattle.std.specs.List.{filter_map}
use Rattle.map_checks.specs.Findings.{doubled_finding}
use Rattle.map_checks.specs.Places.{HasFirst}
use Rattle.map_checks.proofs.listing.note_nodes.Given as goal

abbrev pub invariant-loop-key : goal.invariant-loop-key
invariant-loop-key l = record {
  noted : HasFirst l.ds (take l.key-index l.keys) l.places.first.entries;
  found : l.found.items ≡ filter_map (doubled_finding l.ds) (take l.key-index l.keys);
}
