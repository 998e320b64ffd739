-- Tags that are merged with pairs, from the lesser keys to the greater.
use Rattle.std.specs.Prelude.{ℕ, List, [], ◌∷◌, Option, Some, None, if◌then◌else◌}
use Rattle.std.specs.Ordering.{is_lt, eq_by_cmp}
use Rattle.osm_base.specs.Tags.{Pair, bytes_cmp}

-- the first where its key comes before another, and those behind it
abbrev pub lesser_first : List ℕ → List Pair → Option (Pair × List Pair)
lesser_first key [] = None
lesser_first key (t ∷ ts) = if is_lt (bytes_cmp t.0 key) then Some (t, ts) else None

-- those behind the first where it has the key, else all
abbrev pub behind : List ℕ → List Pair → List Pair
behind key [] = []
behind key (t ∷ ts) = if eq_by_cmp bytes_cmp key t.0 then ts else t ∷ ts
