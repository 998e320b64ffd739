-- Where the pieces of a split way stand in relations: worked examples.
--
-- w10 Nn1,n2,n3 was cut at n2: w10 keeps n1,n2, and w-1 has n2,n3.
use Rattle.std.proofs.Common.{◌≡◌, ℕ, pos, negsuc, true, false, List, [], ◌∷◌, map, Some, None, refl}
use Rattle.std.specs.Prelude.{codes}
use Rattle.std.specs.FinMap as fin
use Rattle.osm_base.specs.Rank.{rank_cmp}
use Rattle.osm_base.specs.Content.{node}
use Rattle.osm_base.specs.declared.content.Content.{Content}
use Rattle.osm_base.specs.declared.content.Content.TheVariants as content
use Rattle.osm_base.specs.declared.key.Key.{Key}
use Rattle.osm_base.specs.declared.key.Kind.TheVariants as kind
use Rattle.osm_base.specs.declared.members.Member.{Member}
use Rattle.osm_base.specs.declared.meta.Meta.{Meta}
use Rattle.osm_table.specs.declared.entry.Base.TheVariants.{Live}
use Rattle.osm_table.specs.declared.entry.Entry.{Entry}
use Rattle.osm_table.specs.declared.entry.Entry.TheVariants.{Incomplete, Known}
use Rattle.osm_table.specs.Table.{TableValue}
use Rattle.tool_api.specs.Upkeep.{PieceValue, is_backward, replaced}

abbrev n : ℕ → Key
n i = node (pos i)

abbrev w : ℕ → Key
w i = record { kind = kind.Way; id = pos i }

abbrev new_w : Key
new_w = record { kind = kind.Way; id = negsuc 0 }

abbrev m : Key → List ℕ → Member
m k role = record { key = k; role = role }

-- The member before decides where it touches one of the two ends; else the one after does; else they stand along the way.
before_ends : is_backward false true true true ≡ true
before_ends = refl

before_begins : is_backward true false true false ≡ false
before_begins = refl

before_neither : is_backward false false true false ≡ true
before_neither = refl

before_both : is_backward true true true false ≡ true
before_both = refl

after_both : is_backward false false true true ≡ false
after_both = refl

nothing_touches : is_backward false false false false ≡ false
nothing_touches = refl

-- w11 touches n3 alone, w12 n1 alone, w13 neither, w14 both, and of w15 only the key is known
abbrev server : Meta
server = record { changeset = 1; time = None; uid = 1; user = [] }

abbrev way : List ℕ → Entry
way ids = Known (Live 1 (content.Way [] (map pos ids)) server) (Some (content.Way [] (map pos ids))) None

abbrev entries : List (Key × Entry)
entries = (w 10, way (1 ∷ 2 ∷ 3 ∷ [])) ∷ (w 11, way (3 ∷ 4 ∷ [])) ∷ (w 12, way (5 ∷ 1 ∷ [])) ∷ (w 13, way (8 ∷ 9 ∷ [])) ∷ (w 14, way (1 ∷ 7 ∷ 3 ∷ [])) ∷ (w 15, Incomplete) ∷ []

abbrev table : TableValue
table = record { entries = fin.from_sorted entries; next = 1 }

in_table : fin.entries (fin.from_sorted {R = rank_cmp} entries) ≡ entries
in_table = fin.entries-from_sorted rank_cmp entries tt

abbrev pieces : List PieceValue
pieces = record { key = w 10; first = pos 1; last = pos 2; kept = true } ∷ record { key = new_w; first = pos 2; last = pos 3; kept = false } ∷ []

abbrev route : List Key → Content
route keys = content.Relation [] (map (λ k. m k []) keys)

-- the member after decides where the one before touches neither end, or both
after_decides : replaced table (w 10) pieces (route (w 13 ∷ w 10 ∷ w 12 ∷ [])) ≡ route (w 13 ∷ new_w ∷ w 10 ∷ w 12 ∷ [])
after_decides = simp (fin.get-entries, in_table) refl

after_decides_too : replaced table (w 10) pieces (route (w 14 ∷ w 10 ∷ w 12 ∷ [])) ≡ route (w 14 ∷ new_w ∷ w 10 ∷ w 12 ∷ [])
after_decides_too = simp (fin.get-entries, in_table) refl

-- but not where the one before touches the first end
before_decides : replaced table (w 10) pieces (route (w 12 ∷ w 10 ∷ w 12 ∷ [])) ≡ route (w 12 ∷ w 10 ∷ new_w ∷ w 12 ∷ [])
before_decides = simp (fin.get-entries, in_table) refl

-- undecided: along the way
undecided : replaced table (w 10) pieces (route (w 14 ∷ w 10 ∷ w 14 ∷ [])) ≡ route (w 14 ∷ w 10 ∷ new_w ∷ w 14 ∷ [])
undecided = simp (fin.get-entries, in_table) refl

-- a node, and a way of which only the key is known, tell no direction
no_direction : replaced table (w 10) pieces (route (n 3 ∷ w 10 ∷ w 15 ∷ [])) ≡ route (n 3 ∷ w 10 ∷ new_w ∷ w 15 ∷ [])
no_direction = simp (fin.get-entries, in_table) refl

-- nor does a neighbour that is the split way: of two side by side the first stands along the way, and the second by w12
side_by_side : replaced table (w 10) pieces (route (w 10 ∷ w 10 ∷ w 12 ∷ [])) ≡ route (w 10 ∷ new_w ∷ new_w ∷ w 10 ∷ w 12 ∷ [])
side_by_side = simp (fin.get-entries, in_table) refl

-- Turn restrictions
abbrev restriction : List Member → Content
restriction members = content.Relation ((codes "type", codes "restriction") ∷ []) members

-- a `via` way brings its ends: n3 is an end of w-1
via_way : replaced table (w 10) pieces (restriction (m (w 10) (codes "from") ∷ m (w 11) (codes "via") ∷ m (w 12) (codes "to") ∷ []))
    ≡ restriction (m new_w (codes "from") ∷ m (w 11) (codes "via") ∷ m (w 12) (codes "to") ∷ [])
via_way = simp (fin.get-entries, in_table) refl

-- of two pieces that end there the first along the way
first_of_two : replaced table (w 10) pieces (restriction (m (w 10) (codes "to") ∷ m (n 2) (codes "via") ∷ []))
    ≡ restriction (m (w 10) (codes "to") ∷ m (n 2) (codes "via") ∷ [])
first_of_two = refl

-- where no piece ends there, the one that stays in the way, be it the second
abbrev second_kept : List PieceValue
second_kept = record { key = new_w; first = pos 1; last = pos 2; kept = false } ∷ record { key = w 10; first = pos 2; last = pos 3; kept = true } ∷ []

no_piece_there : replaced table (w 10) second_kept (restriction (m (w 10) (codes "from") ∷ m (n 9) (codes "via") ∷ []))
    ≡ restriction (m (w 10) (codes "from") ∷ m (n 9) (codes "via") ∷ [])
no_piece_there = refl

first_there : replaced table (w 10) second_kept (restriction (m (w 10) (codes "from") ∷ m (n 2) (codes "via") ∷ []))
    ≡ restriction (m new_w (codes "from") ∷ m (n 2) (codes "via") ∷ [])
first_there = refl

-- the split way as `via` brings no nodes, and becomes all pieces
via_itself : replaced table (w 10) pieces (restriction (m (w 12) (codes "from") ∷ m (w 10) (codes "via") ∷ m (w 11) (codes "to") ∷ []))
    ≡ restriction (m (w 12) (codes "from") ∷ m (w 10) (codes "via") ∷ m new_w (codes "via") ∷ m (w 11) (codes "to") ∷ [])
via_itself = simp (fin.get-entries, in_table) refl

-- without the tag it is no restriction
no_restriction : replaced table (w 10) pieces (content.Relation [] (m (w 10) (codes "from") ∷ m (w 11) (codes "via") ∷ []))
    ≡ content.Relation [] (m (w 10) (codes "from") ∷ m new_w (codes "from") ∷ m (w 11) (codes "via") ∷ [])
no_restriction = simp (fin.get-entries, in_table) refl
