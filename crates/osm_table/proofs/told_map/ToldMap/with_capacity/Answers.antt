use Rattle.std.proofs.Common.{sym, subst, List, []}
use Rattle.std.specs.List.{IsDistinct}
use Rattle.std.specs.Map.{keys_of}
use Rattle.osm_base.specs.KeyEq.{eq}
use Rattle.osm_base.specs.declared.key.Key.{Key}
use Rattle.osm_table.specs.declared.entry.Entry.{Entry}
use Rattle.osm_table.specs.Told.{IsToldMap}
use Rattle.osm_table.specs.ToldCode.{told_kept, AreTold, AreThere}
use Rattle.osm_table.proofs.OrderLaws.{rises_distinct}
use Rattle.osm_table.proofs.ToldLaws.{told_empty, there_empty}
use Rattle.osm_table.proofs.told_map.ToldMap.with_capacity.Goals as goal

pub invariant_of-result : goal.invariant_of-result
invariant_of-result c = (
  subst (λ (es : List (Key × Entry)). IsToldMap (told_kept es)) (sym c.in_ok-with_capacity.ensures) told_empty,
  subst (λ (es : List (Key × Entry)). AreTold es) (sym c.in_ok-with_capacity.ensures) (λ key e has. cc),
  subst (λ (es : List (Key × Entry)). IsDistinct eq (keys_of es)) (sym c.in_ok-with_capacity.ensures) (rises_distinct [] tt),
  c.in_ok-told.ensures,
  λ _. subst (λ (es : List (Key × Entry)). AreThere (told_kept es)) (sym c.in_ok-with_capacity.ensures) there_empty,
  λ closed. cc,
)
