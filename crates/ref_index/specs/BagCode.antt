use Rattle.std.specs.Coded.{Coded, coded_ℕ}
use Rattle.std.specs.FinMap as map
use Rattle.ref_index.specs.contracts.pair.Pair as pair
use Rattle.ref_index.specs.Bag.{Bag}

abbrev pub bag_code : Coded Bag
bag_code = map.code pair.the_row.coded coded_ℕ
