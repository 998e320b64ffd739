-- What is hashed of a key. No clause of a map or a set sees it.
use Rattle.std.specs.Prelude.{ℕ, ◌+◌, ◌*◌, ◌/◌}
use Rattle.osm_base.specs.declared.key.Key.{Key}
use Rattle.osm_base.specs.Rank.{kind_place, side, size}

-- the group of four ids that a key is in, with its side and its kind
abbrev pub key_group : Key → ℕ
key_group key = size key.id / 4 * 8 + side key.id * 4 + kind_place key.kind
