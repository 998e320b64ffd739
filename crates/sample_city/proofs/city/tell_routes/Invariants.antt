use Rattle.std.proofs.Common.{◌≡◌, ◌+◌, ◌-◌, ◌≤◌}
use Rattle.osm_base.specs.declared.key.Kind.TheVariants as kind
use Rattle.sample_city.specs.City.{all_of, all_told, route}
use Rattle.sample_city.proofs.Rows.{row}
use Rattle.sample_city.proofs.city.tell_routes.Given as goal

abbrev pub invariant-loop-q : goal.invariant-loop-q
invariant-loop-q l = record {
  low : 1 ≤ l.q;
  high : l.q ≤ l.routes + 1;
  left : all_told l.told (row kind.Relation route l.q (l.routes + 1 - l.q)) ≡ all_told l.fn.told (all_of kind.Relation route l.routes);
}
