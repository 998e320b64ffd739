-- Lists of keys without repeats.
--
-- For example of n1, n2, n1 the distinct keys are n1 and n2.
use Rattle.std.specs.Prelude.{List, [], fold}
use Rattle.osm_base.specs.Rank.{is_key}
use Rattle.osm_base.specs.declared.key.Key.{Key}
use Rattle.closure.specs.Closure.{with_key}

-- those that were seen, and after them each of the others that wasn't
abbrev pub with_new : List Key → List Key → List Key
with_new seen ks = fold (with_key is_key) seen ks

-- Each of the keys once, in the order in which it comes first.
abbrev pub distinct : List Key → List Key
distinct keys = with_new [] keys
