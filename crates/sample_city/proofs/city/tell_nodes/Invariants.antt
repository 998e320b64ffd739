use Rattle.std.proofs.Common.{◌≡◌, ◌+◌, ◌-◌, ◌≤◌}
use Rattle.osm_base.specs.declared.key.Kind.TheVariants as kind
use Rattle.sample_city.specs.City.{all_of, all_told, junction}
use Rattle.sample_city.proofs.Rows.{row}
use Rattle.sample_city.proofs.city.tell_nodes.Given as goal

abbrev pub invariant-loop-k : goal.invariant-loop-k
invariant-loop-k l = record {
  low : 1 ≤ l.k;
  high : l.k ≤ l.nodes + 1;
  left : all_told l.told (row kind.Node junction l.k (l.nodes + 1 - l.k)) ≡ all_told l.fn.told (all_of kind.Node junction l.nodes);
}
