use Rattle.std.proofs.Common.{◌≡◌, ◌+◌, ◌-◌, ◌≤◌}
use Rattle.osm_base.specs.declared.key.Kind.TheVariants as kind
use Rattle.sample_city.specs.City.{all_of, all_told, street}
use Rattle.sample_city.proofs.Rows.{row}
use Rattle.sample_city.proofs.city.tell_streets.Given as goal

abbrev pub invariant-loop-j : goal.invariant-loop-j
invariant-loop-j l = record {
  low : 1 ≤ l.j;
  high : l.j ≤ l.streets + 1;
  left : all_told l.told (row kind.Way street l.j (l.streets + 1 - l.j)) ≡ all_told l.fn.told (all_of kind.Way street l.streets);
}
