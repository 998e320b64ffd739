use Rattle.std.proofs.Common.{◌≡◌, drop, fold}
use Rattle.osm_base.specs.Rank.{is_key}
use Rattle.closure.specs.Closure.{with_key}
use Rattle.closure.proofs.key_set.KeySet.put_all.Given as goal

abbrev pub invariant-loop-key : goal.invariant-loop-key
invariant-loop-key l = fold (with_key is_key) l.self (drop l.key-index l.keys) ≡ fold (with_key is_key) l.fn.self l.keys
