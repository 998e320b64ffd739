-- Objects of a file, and their keys.
use Rattle.std.specs.Prelude.{Bool, List, map, Vec}
use Rattle.std.specs.Global.{Global}
use Rattle.std.specs.List.{list_any, flat_map}
use Rattle.osm_base.specs.Rank.{is_key}
use Rattle.osm_base.specs.declared.key.Key.{Key}
use Rattle.opl_line.specs.declared.object.OplObject.{OplObject}

-- whether an object of that key is among them
abbrev pub has_key : List OplObject → Key → Bool
has_key objects key = list_any (λ object. is_key key object.key) objects

-- their keys, in order
abbrev pub keys_of : List OplObject → List Key
keys_of objects = map (λ object. object.key) objects

-- the objects of batches, one batch behind the other
abbrev pub objects_in : List (Vec OplObject Global) → List OplObject
objects_in batches = flat_map (λ batch. batch.items) batches
