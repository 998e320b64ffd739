use Rattle.std.proofs.Common.{ℕ, Option, ◌∙◌, ap}
use Rattle.std.specs.Option.{unwrap_or}
use Rattle.std.specs.FinMap as fin
use Rattle.ref_index.specs.Bag.{Bag, count, pair_cmp}
use Rattle.dataset.proofs.index.Index.new.Goals as goal

pub returns : goal.returns
returns c = λ p. ap (λ (b : Bag). count b p) c.new.ensures ∙ ap (λ (o : Option ℕ). unwrap_or o 0) (fin.get-empty pair_cmp p)
