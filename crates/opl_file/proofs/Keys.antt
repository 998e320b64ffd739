-- Keys found among objects.
use Rattle.std.proofs.Common.{◌≡◌, Bool, true, not, List, [], ◌∷◌, ◌++◌, refl, sym, ap, ◌∙◌}
use Rattle.std.specs.List.{list_any}
use Rattle.std.specs.Bool.{passes}
use Rattle.osm_base.specs.KeyEq.{eq}
use Rattle.osm_base.specs.RankLaws.{rank_ties}
use Rattle.osm_base.specs.RisingKeys.{rises}
use Rattle.osm_base.specs.declared.key.Key.{Key}
use Rattle.opl_line.specs.declared.object.OplObject.{OplObject}
use Rattle.opl_file.specs.Objects.{has_key, keys_of}
use Rattle.opl_file.proofs.Rising.{last_new}

-- a key is among the keys of the objects where an object has it
pub found_key : (objects : List OplObject) (key : Key) → list_any (eq key) (keys_of objects) ≡ has_key objects key
found_key [] key = refl
found_key (object ∷ objects) key = rw (rank_ties key object.key, found_key objects key) refl

-- a key is new among the objects where it isn't found among their keys
pub new_key : (objects : List OplObject) (found : Bool) (key : Key) → found ≡ list_any (eq key) (keys_of objects) → not found ≡ not (has_key objects key)
new_key objects found key e = ap not (e ∙ found_key objects key)

-- and where it rises behind them
pub new_last : (objects : List OplObject) (key : Key) → rises (keys_of objects ++ key ∷ []) ≡ true → true ≡ not (has_key objects key)
new_last objects key e = ap not (sym (last_new (keys_of objects) key (passes _ e))) ∙ ap not (found_key objects key)
