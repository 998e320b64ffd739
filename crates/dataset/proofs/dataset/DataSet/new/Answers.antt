use Rattle.std.proofs.Common.{sym, subst, arith}
use Rattle.std.specs.FinMap as fin
use Rattle.osm_base.specs.Rank.{rank_cmp}
use Rattle.dataset.specs.Sound.{IsSound}
use Rattle.dataset.specs.Index.{count_kept}
use Rattle.dataset.proofs.Kept.{empty_sound}
use Rattle.dataset.proofs.Exactness.{empty_exact}
use Rattle.dataset.proofs.dataset.DataSet.new.Goals as goal

pub invariant_of-result : goal.invariant_of-result
invariant_of-result c = (
  subst IsSound (sym c.new.ensures) (empty_sound (record { entries = fin.empty; next = 1 }) (λ k. fin.get-empty rank_cmp k) (omega arith, omega arith)),
  empty_exact c.new.result (count_kept c.new-2.result) 1 c.new.ensures c.new-2.ensures,
)
