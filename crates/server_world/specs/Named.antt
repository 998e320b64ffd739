-- The names of placeholders, as they are looked up.
use Rattle.std.specs.Prelude.{◌≡◌, ℤ, List, reverse}
use Rattle.std.specs.Map.{lookup}
use Rattle.osm_base.specs.KeyEq.{eq}
use Rattle.osm_base.specs.declared.key.Key.{Key}
use Rattle.upload_order.specs.Rename.{named}

-- a look-up by key finds the id that was picked last
abbrev pub FindsNames : List (Key × ℤ) → List (Key × ℤ) → Type 0
FindsNames names ids = (key : Key) → lookup (eq key) ids ≡ named (reverse names) key
