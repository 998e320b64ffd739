-- Objects that refer to what isn't there.
use Rattle.std.specs.Prelude.{Bool, false, not, Option, is_some}
use Rattle.std.specs.List.{find, list_any}
use Rattle.std.specs.Option.{option_map, option_map_or}
use Rattle.std.specs.FinMap as fin
use Rattle.osm_base.specs.Content.{refs_of}
use Rattle.osm_base.specs.declared.key.Key.{Key}
use Rattle.osm_base.specs.declared.content.Content.{Content}
use Rattle.upload_order.specs.World.{World, WorldEntry, stands, content_at}

-- it refers to a key under which no content stands
abbrev pub lacks : World → Content → Bool
lacks w c = list_any (λ r. not (is_some (content_at w r))) (refs_of c)

abbrev pub is_unsound : World → WorldEntry → Bool
is_unsound w e = option_map_or (lacks w) e.content false

abbrev pub is_unsound_at : World → Key → Bool
is_unsound_at w k = option_map_or (is_unsound w) (stands w k) false

-- The least object whose content refers to a key under which no content stands.
abbrev pub first_unsound : World → Option Key
first_unsound w = option_map (λ e. e.0) (find (λ e. option_map_or (lacks w) e.1.content false) (fin.entries w.entries))
