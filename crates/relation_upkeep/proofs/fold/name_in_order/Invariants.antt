use Rattle.std.proofs.Common.{◌≡◌, map, drop, length}
use Rattle.std.specs.Cmp.Lexicographic.{pointwise}
use Rattle.osm_base.specs.declared.members.Member.{Member}
use Rattle.osm_base.specs.Rank.{is_key}
use Rattle.relation_upkeep.proofs.fold.name_in_order.Given as goal

abbrev pub invariant-loop-i : goal.invariant-loop-i
invariant-loop-i l = record {
  long : length l.run ≡ length l.keys;
  same : pointwise is_key (map (λ (m : Member). m.key) (drop l.i l.run)) (drop l.i l.keys) ≡ pointwise is_key (map (λ (m : Member). m.key) l.run) l.keys;
}
