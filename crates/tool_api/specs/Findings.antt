-- What a check of the map finds: doubled nodes, repeated references and open rings.
--
-- For example with n1 and n3 at one place, n2 at another and w5 Nn1,n2,n2,n3: n3 is doubled, of n1; w5 is repeated, since
-- n2 stands twice side by side; and w5 is an open ring, since it ends where it begins, at another node.
use Rattle.std.specs.Prelude.{ℤ, ◌&&◌, ◌||◌, Bool, false, not, nat_le, List, [], ◌∷◌, length, Option, Some, None}
use Rattle.std.specs.List.{find}
use Rattle.std.specs.Ordering.{int_eq, is_lt}
use Rattle.osm_base.specs.Content.{node}
use Rattle.osm_base.specs.Rank.{rank_cmp}
use Rattle.osm_base.specs.Same.{same_coord}
use Rattle.osm_base.specs.declared.key.Key.{Key}
use Rattle.osm_base.specs.declared.coord.Coord.{Coord}
use Rattle.osm_base.specs.declared.content.Content.{Content}
use Rattle.osm_base.specs.declared.content.Content.TheVariants as content
use Rattle.osm_table.specs.Table.{TableValue, keys_by_rank}
use Rattle.tool_api.specs.Changes.{content_of}
use Rattle.tool_api.specs.Upkeep.{first_in}
use Rattle.tool_api.specs.Combine.{refs_at, last_in}

-- the place of a node
abbrev pub place_of : Option Content → Option Coord
place_of (Some (content.Node tags at)) = Some at
place_of c = None

-- the place of a living node by its key
abbrev pub place_at : TableValue → Key → Option Coord
place_at t k = place_of (content_of t k)

-- both are there, and the same place
abbrev pub same_place : Option Coord → Option Coord → Bool
same_place (Some a) (Some b) = same_coord a b
same_place a b = false

-- whether both are living nodes, at one place
abbrev pub are_together : TableValue → Key → Key → Bool
are_together t j k = same_place (place_at t j) (place_at t k)

-- the least living node of lower rank at the place of a living node
abbrev pub doubled_of : TableValue → Key → Option Key
doubled_of t k = find (λ j. is_lt (rank_cmp j k) && are_together t j k) (keys_by_rank t)

-- whether two equal references stand side by side
abbrev pub has_repeat : List ℤ → Bool
has_repeat [] = false
has_repeat (a ∷ []) = false
has_repeat (a ∷ b ∷ refs) = int_eq a b || has_repeat (b ∷ refs)

-- A living way is repeated where two of its references do.
abbrev pub is_repeated : TableValue → Key → Bool
is_repeated t k = has_repeat (refs_at t k)

-- whether the ends are two living nodes, at one place
abbrev pub ends_meet : TableValue → Option ℤ → Option ℤ → Bool
ends_meet t (Some a) (Some b) = not (int_eq a b) && are_together t (node a) (node b)
ends_meet t a b = false

-- A living way of at least three references is an open ring where its ends do.
abbrev pub is_open_ring : TableValue → Key → Bool
is_open_ring t k = nat_le 3 (length (refs_at t k)) && ends_meet t (first_in (refs_at t k)) (last_in (refs_at t k))
