-- What is kept to find the new key of a key of the file.
use Rattle.std.specs.Prelude.{◌≡◌, ℕ, Bool, List, is_some}
use Rattle.std.specs.Option.{unwrap_or}
use Rattle.std.specs.Map.{lookup}
use Rattle.osm_base.specs.KeyEq.{eq}
use Rattle.osm_base.specs.declared.key.Key.{Key}
use Rattle.tool_api.specs.declared.new_objects.NewObject.{NewObject}
use Rattle.tool_api.specs.Import.{new_key_of}

-- whether a key is one of the file's own
abbrev pub has : List (Key × Key) → Key → Bool
has pairs key = is_some (lookup (eq key) pairs)

-- what a key is called in the table
abbrev pub called : List (Key × Key) → Key → Key
called pairs key = unwrap_or (lookup (eq key) pairs) key

-- The pairs have the new key of each of the objects, from a number on, and no other.
abbrev pub Names : ℕ → List NewObject → List (Key × Key) → Type 0
Names next objects pairs = (key : Key) → lookup (eq key) pairs ≡ new_key_of next objects key
