use Rattle.std.proofs.Common.{List, ap, sym, subst}
use Rattle.std.specs.FinMap as fin
use Rattle.osm_base.specs.Rank.{rank_cmp}
use Rattle.osm_base.specs.declared.key.Key.{Key}
use Rattle.upload_order.specs.World.{WorldEntry}
use Rattle.server_world.specs.Starts.{AreStartsOf}
use Rattle.server_world.proofs.Indexing.{empty_indexed}
use Rattle.server_world.proofs.Starting.{first_starts_of}
use Rattle.server_world.proofs.objects.Objects.new.Goals as goal

pub invariant_of-result : goal.invariant_of-result
invariant_of-result c = record {
  index = empty_indexed _ c.new-2.result (ap (λ (es : List (Key × WorldEntry)). fin.from_entries {R = rank_cmp} es) c.new.ensures.empty) c.new-2.ensures;
  starts = subst (AreStartsOf _) (sym c.new-3.ensures) (first_starts_of _);
}
