use Rattle.std.proofs.Common.{◌≡◌, take, length}
use Rattle.std.specs.List.{flat_map, list_all}
use Rattle.std.specs.Prelude.{T, nat_lt}
use Rattle.osm_base.specs.Tags.{Pair}
use Rattle.tool_api.specs.Split.{tags_at}
use Rattle.relation_upkeep.proofs.joining.all_tags.Given as goal

abbrev pub invariant-loop-key : goal.invariant-loop-key
invariant-loop-key l = record {
  value : l.all.items ≡ flat_map (tags_at l.ds) (take l.key-index l.keys);
  named : T (list_all (λ (t : Pair). nat_lt 0 (length t.0)) l.all.items);
}
