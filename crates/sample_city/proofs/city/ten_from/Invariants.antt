use Rattle.std.proofs.Common.{◌≡◌, ◌+◌, ◌-◌, ◌++◌, ◌≤◌}
use Rattle.sample_city.proofs.Rows.{ids}
use Rattle.sample_city.proofs.city.ten_from.Given as goal

abbrev pub invariant-loop-id : goal.invariant-loop-id
invariant-loop-id l = record {
  low : l.first ≤ l.id;
  high : l.id ≤ l.first + 10;
  left : l.ids.items ++ ids l.id (l.first + 10 - l.id) ≡ ids l.first (l.first + 10 - l.first);
}
