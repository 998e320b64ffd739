-- The members after a split, as the code makes them.
--
-- For example in a restriction with a member that names the split way as `from`, the turn is Some (Some p) with the
-- piece p that touches the `via` nodes, and p alone stands for the way there. In a route the turn is None.
use Rattle.std.specs.Prelude.{ℕ, ℤ, Bool, List, [], ◌∷◌, map, Option, Some, None, if◌then◌else◌}
use Rattle.std.specs.Option.{option_map, option_map_or}
use Rattle.std.specs.List.{flat_map}
use Rattle.osm_base.specs.Tags.{Pair}
use Rattle.osm_base.specs.declared.key.Key.{Key}
use Rattle.osm_base.specs.declared.members.Member.{Member}
use Rattle.osm_base.specs.declared.content.Content.{Content}
use Rattle.osm_base.specs.declared.content.Content.TheVariants as content
use Rattle.osm_table.specs.Table.{TableValue}
use Rattle.tool_api.specs.Upkeep.{PieceValue, via_nodes, restricted_piece, in_order, is_turn, is_restriction, member_of}
use Rattle.relation_upkeep.specs.declared.replace.Piece.{Piece}

-- a piece as the definitions of the split know it
abbrev pub piece_value : Piece → PieceValue
piece_value p = record { key = p.key; first = p.first; last = p.last; kept = p.kept }

-- several
abbrev pub piece_values : List Piece → List PieceValue
piece_values ps = map piece_value ps

-- the members of a relation; of another object none
abbrev pub members_of : Content → List Member
members_of (content.Relation tags members) = members
members_of c = []

-- in a restriction the nodes of its `via` members
abbrev pub via_of : TableValue → Key → List Pair → List Member → Option (List ℤ)
via_of t way tags members = if is_restriction tags then Some (flat_map (via_nodes t way) members) else None

-- in a restriction the one piece that stands for the way at `from` and `to`, if there is one
abbrev pub turn_of : Option (List ℤ) → List PieceValue → Option (Option PieceValue)
turn_of via pieces = option_map (λ v. restricted_piece v pieces) via

-- the same of what the code found
abbrev pub turn_value : Option (Option Piece) → Option (Option PieceValue)
turn_value turn = option_map (option_map piece_value) turn

-- the two ends of a way, as a list
abbrev pub ends_list : Option (ℤ × ℤ) → List ℤ
ends_list None = []
ends_list (Some e) = e.0 ∷ e.1 ∷ []

-- the members that stand for one with that role
abbrev pub stood : Option (Option PieceValue) → List PieceValue → List ℕ → Bool → List Member
stood (Some one) pieces role backward = if is_turn role then option_map_or (λ p. member_of p role ∷ []) one [] else map (λ p. member_of p role) (in_order backward pieces)
stood None pieces role backward = map (λ p. member_of p role) (in_order backward pieces)
