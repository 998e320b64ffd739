-- How often each pair is there in the index of a data set.
use Rattle.std.specs.Prelude.{ℕ}
use Rattle.ref_index.specs.declared.pair.Pair.{Pair}
use Rattle.ref_index.specs.Bag.{count}
use Rattle.dataset.specs.Exact.{times_key}
use Rattle.dataset.specs.ToldIndex.{refs_told}
use Rattle.dataset.specs.declared.index.Index.{Index}
use Rattle.dataset.specs.declared.index.Index.TheVariants.{Own, Told}

-- beside a told map as often as what is told of the user refers to the key
abbrev pub count_kept : Index → Pair → ℕ
count_kept (Own index) p = count index p
count_kept (Told told) p = times_key p.of (refs_told told p.user)
