-- The members of relations after a split and after a joining.
--
-- For example w10 Nn1,n2,n3 is cut at n2, and w-1 has n2,n3. A route with w11 Nn3,n4 before w10 goes on with w-1 and
-- then w10, since w11 touches the end n3. A restriction from w10 via n3 is one from w-1. Where w1 and w2 are joined, a
-- route with w2,w1 side by side has the kept way in their place, and one with w2 alone refuses the joining.
use Rattle.std.specs.Prelude.{ℕ, zero, suc, ℤ, pos, ◌-◌, ◌&&◌, ◌||◌, Bool, true, false, not, if◌then◌else◌, List, [], ◌∷◌, ◌++◌, length, map, reverse, take, Option, Some, None, codes}
use Rattle.std.specs.List.{list_any, list_all, find, flat_map, last_or}
use Rattle.std.specs.Ordering.{int_eq}
use Rattle.std.specs.Option.{option_map, option_map_or, option_or, unwrap_or}
use Rattle.osm_base.specs.Rank.{is_key}
use Rattle.osm_base.specs.declared.key.Key.{Key}
use Rattle.osm_base.specs.declared.key.Kind.{Kind}
use Rattle.osm_base.specs.declared.key.Kind.TheVariants as kind
use Rattle.osm_base.specs.declared.members.Member.{Member}
use Rattle.osm_base.specs.declared.content.Content.{Content}
use Rattle.osm_base.specs.declared.content.Content.TheVariants as content
use Rattle.osm_base.specs.Tags.{Pair, value_of}
use Rattle.osm_table.specs.Table.{TableValue}
use Rattle.std.specs.Cmp.Lexicographic.{pointwise}
use Rattle.osm_base.specs.Same.{same_text}
use Rattle.tool_api.specs.Checks.{is_named}
use Rattle.tool_api.specs.Changes.{content_of}

-- a piece of a way: its key, its first and last node, and whether it stays in the way
pub record PieceValue : Type 0 where
  pub key : Key
  pub first : ℤ
  pub last : ℤ
  pub kept : Bool

-- the first, where there is one
abbrev pub first_in : {X : Type 0} → List X → Option X
first_in [] = None
first_in (x ∷ xs) = Some x

-- the first and the last node of a way
abbrev pub ends : Content → List ℤ
ends (content.Way tags []) = []
ends (content.Way tags (n ∷ ns)) = n ∷ unwrap_or (last_or None (n ∷ ns)) n ∷ []
ends c = []

-- whether a node is one of those
abbrev pub is_among : List ℤ → ℤ → Bool
is_among ids id = list_any (int_eq id) ids

-- the first and last nodes of a key that is a living way other than the split one
abbrev pub ends_beside : TableValue → Key → Key → List ℤ
ends_beside t way k = if is_key way k then [] else option_map_or ends (content_of t k) []

-- the nodes that a member reaches: itself, or the ends of its way
abbrev pub nodes_at : TableValue → Key → Key → Kind → List ℤ
nodes_at t way k kind.Node = k.id ∷ []
nodes_at t way k other = ends_beside t way k

-- the nodes that a member with the role `via` brings: itself, or the ends of its way
abbrev pub via_nodes : TableValue → Key → Member → List ℤ
via_nodes t way m = if same_text m.role (codes "via") then nodes_at t way m.key m.key.kind else []

-- a piece as a member
abbrev pub member_of : PieceValue → List ℕ → Member
member_of p role = record { key = p.key; role = role }

-- of a turn restriction: the first piece with an end among the `via` nodes, else the kept one
abbrev pub restricted_piece : List ℤ → List PieceValue → Option PieceValue
restricted_piece v pieces = option_or (find (λ p. is_among v p.first || is_among v p.last) pieces) (find (λ p. p.kept) pieces)

-- whether a neighbour is a living way other than the split one and the node is its first or last
abbrev pub touches : TableValue → Key → ℤ → Option Member → Bool
touches t way node m = option_map_or (λ (n : Member). is_among (ends_beside t way n.key) node) m false

-- whether the pieces stand backward: by the member before, else by the one after
abbrev pub is_backward : (before_a before_b after_a after_b : Bool) → Bool
is_backward false true after_a after_b = true
is_backward true false after_a after_b = false
is_backward before_a before_b after_a after_b = after_a && not after_b

-- along the way, or backward
abbrev pub in_order : Bool → List PieceValue → List PieceValue
in_order backward pieces = if backward then reverse pieces else pieces

-- the pieces in the order in which they stand between the neighbours
abbrev pub pieces_between : TableValue → Key → List PieceValue → ℤ → ℤ → Option Member → Option Member → List PieceValue
pieces_between t way pieces a b before after =
    in_order (is_backward (touches t way a before) (touches t way b before) (touches t way a after) (touches t way b after)) pieces

-- whether a role of a restriction names one piece alone
abbrev pub is_turn : List ℕ → Bool
is_turn role = same_text role (codes "from") || same_text role (codes "to")

-- the first node of the first piece
abbrev pub first_node : List PieceValue → ℤ
first_node ps = option_map_or (λ (p : PieceValue). p.first) (first_in ps) (pos 0)

-- the last node of the last piece
abbrev pub last_node : List PieceValue → ℤ
last_node ps = option_map_or (λ (p : PieceValue). p.last) (last_or None ps) (pos 0)

-- what stands for a member that names the way
abbrev pub stand_ins : TableValue → Key → List PieceValue → Option (List ℤ) → Option Member → Member → Option Member → List Member
stand_ins t way pieces (Some v) before m after =
    if is_turn m.role
    then option_map_or (λ p. member_of p m.role ∷ []) (restricted_piece v pieces) []
    else map (λ p. member_of p m.role) (pieces_between t way pieces (first_node pieces) (last_node pieces) before after)
stand_ins t way pieces None before m after =
    map (λ p. member_of p m.role) (pieces_between t way pieces (first_node pieces) (last_node pieces) before after)

-- from the left, with the member before as it was
abbrev pub replaced_from : TableValue → Key → List PieceValue → Option (List ℤ) → Option Member → List Member → List Member
replaced_from t way pieces v before [] = []
replaced_from t way pieces v before (m ∷ ms) =
    (if is_key way m.key then stand_ins t way pieces v before m (first_in ms) else m ∷ []) ++ replaced_from t way pieces v (Some m) ms

-- whether the tags have `type=restriction`
abbrev pub is_restriction : List Pair → Bool
is_restriction tags = option_map_or (same_text (codes "restriction")) (value_of tags (codes "type")) false

-- Members after a split. Each that names the way is replaced by itself, with neighbours as they were.
abbrev pub replaced : TableValue → Key → List PieceValue → Content → Content
replaced t way pieces (content.Relation tags members) =
    content.Relation tags (replaced_from t way pieces (if is_restriction tags then Some (flat_map (via_nodes t way) members) else None) None members)
replaced t way pieces c = c

-- The run rule. A run is all the ways, each once, in the order or wholly reversed, with one role.
abbrev pub is_run : List Key → List Member → Bool
is_run ways run =
    (pointwise is_key (map (λ m. m.key) run) ways || pointwise is_key (map (λ m. m.key) run) (reverse ways))
    && option_map_or (λ (m : Member). list_all (λ n. same_text n.role m.role) run) (first_in run) true

-- read from the left; so many members of a run are still to be skipped
abbrev pub folded_from : List Key → Key → ℕ → List Member → Option (List Member)
folded_from ways kept skip [] = Some []
folded_from ways kept (suc n) (m ∷ ms) = folded_from ways kept n ms
folded_from ways kept zero (m ∷ ms) =
    if is_named ways m.key
    then (if is_run ways (take (length ways) (m ∷ ms))
    then option_map (λ out. record { key = kept; role = m.role } ∷ out) (folded_from ways kept (length ways - 1) ms)
    else None)
    else option_map (λ out. m ∷ out) (folded_from ways kept 0 ms)

-- The members after a joining, or none where they don't meet the run rule.
abbrev pub folded : List Key → Key → List Member → Option (List Member)
folded ways kept members = folded_from ways kept 0 members
