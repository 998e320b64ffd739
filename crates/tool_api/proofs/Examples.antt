-- Worked examples, on which the definitions compute.
use Rattle.std.proofs.Common.{◌≡◌, ℕ, pos, negsuc, true, false, List, [], ◌∷◌, map, Option, Some, None, refl, Ok, Err}
use Rattle.std.specs.Prelude.{codes}
use Rattle.std.specs.FinMap as fin
use Rattle.osm_base.specs.Rank.{rank_cmp}
use Rattle.osm_base.specs.Content.{node}
use Rattle.osm_base.specs.Tags.{Pair}
use Rattle.osm_base.specs.declared.coord.Coord.{Coord}
use Rattle.osm_base.specs.declared.meta.Meta.{Meta}
use Rattle.osm_base.specs.declared.content.Content.{Content}
use Rattle.osm_base.specs.declared.key.Key.{Key}
use Rattle.osm_base.specs.declared.key.Kind.TheVariants as kind
use Rattle.osm_base.specs.declared.members.Member.{Member}
use Rattle.osm_base.specs.declared.content.Content.TheVariants as content
use Rattle.osm_table.specs.declared.entry.Base.TheVariants.{New}
use Rattle.osm_table.specs.declared.entry.Base.TheVariants as base
use Rattle.osm_table.specs.declared.entry.Entry.{Entry}
use Rattle.osm_table.specs.declared.entry.Entry.TheVariants.{Known}
use Rattle.osm_table.specs.Table.{TableValue, mine_of}
use Rattle.tool_api.specs.declared.kinds.Kinds.TheVariants.{Any}
use Rattle.tool_api.specs.declared.refusal.Refusal.TheVariants.{Absent, NamedTwice, InUse, WrongKind, NotInWay, NothingToSplit, TagClash, TableFull}
use Rattle.tool_api.specs.Checks.{is_named, twice_test, list_tests}
use Rattle.tool_api.specs.Basic.{add, reversed, moved_nodes}
use Rattle.tool_api.specs.Combine.{combine, united, clash_test}
use Rattle.tool_api.specs.Split.{all_pieces, keyed, kept_number, split}
use Rattle.std.specs.Prelude.{Result}
use Rattle.std.proofs.lemmas.Str.{chars-nil}
use Rattle.osm_base.specs.RankLaws.{rank_total}
use Rattle.tool_api.specs.declared.refusal.Refusal.{Refusal}
use Rattle.tool_api.specs.Changes.{Outcome}
use Rattle.tool_api.specs.Upkeep.{PieceValue, replaced, folded}
use Rattle.tool_api.specs.Gone.{mended, gone_keys, relations_left, delete_all, erase, purge}

abbrev pub n : ℕ → Key
n i = node (pos i)

abbrev pub w : ℕ → Key
w i = record { kind = kind.Way; id = pos i }

abbrev new_w : Key
new_w = record { kind = kind.Way; id = negsuc 0 }

abbrev pub m : Key → List ℕ → Member
m k role = record { key = k; role = role }

twice : twice_test [] (n 1 ∷ n 2 ∷ n 1 ∷ n 2 ∷ []) ≡ Some (NamedTwice (n 1))
twice = refl

open_way : all_pieces (λ i. is_named (n 2 ∷ n 3 ∷ []) (node i)) (pos 1 ∷ pos 2 ∷ pos 3 ∷ []) ≡ (pos 1 ∷ pos 2 ∷ []) ∷ (pos 2 ∷ pos 3 ∷ []) ∷ []
open_way = refl

-- w12 Nn4,n5,n6,n4 at n5 alone, and at n5 and n6
closed_once : all_pieces (λ i. is_named (n 5 ∷ []) (node i)) (pos 4 ∷ pos 5 ∷ pos 6 ∷ pos 4 ∷ []) ≡ (pos 5 ∷ pos 6 ∷ pos 4 ∷ pos 5 ∷ []) ∷ []
closed_once = refl

closed_twice : all_pieces (λ i. is_named (n 5 ∷ n 6 ∷ []) (node i)) (pos 4 ∷ pos 5 ∷ pos 6 ∷ pos 4 ∷ []) ≡ (pos 5 ∷ pos 6 ∷ []) ∷ (pos 6 ∷ pos 4 ∷ pos 5 ∷ []) ∷ []
closed_twice = refl

kept_second : kept_number ((pos 5 ∷ pos 6 ∷ []) ∷ (pos 6 ∷ pos 4 ∷ pos 5 ∷ []) ∷ []) ≡ 1
kept_second = refl

keys_second : keyed (w 12) 1 0 2 ((pos 5 ∷ pos 6 ∷ []) ∷ (pos 6 ∷ pos 4 ∷ pos 5 ∷ []) ∷ []) ≡ (record { kind = kind.Way; id = negsuc 1 }, pos 5 ∷ pos 6 ∷ []) ∷ (w 12, pos 6 ∷ pos 4 ∷ pos 5 ∷ []) ∷ []
keys_second = refl

-- w10 Nn1,n2,n3 cut at n2, with w11 Nn3,n4 in the table
abbrev entries : List (Key × Entry)
entries = (w 11, Known New (Some (content.Way [] (pos 3 ∷ pos 4 ∷ []))) None) ∷ []

abbrev table : TableValue
table = record { entries = fin.from_sorted entries; next = 1 }

abbrev pieces : List PieceValue
pieces = record { key = w 10; first = pos 1; last = pos 2; kept = true } ∷ record { key = new_w; first = pos 2; last = pos 3; kept = false } ∷ []

route : replaced table (w 10) pieces (content.Relation ((codes "type", codes "route") ∷ []) (m (w 11) [] ∷ m (w 10) [] ∷ []))
    ≡ content.Relation ((codes "type", codes "route") ∷ []) (m (w 11) [] ∷ m new_w [] ∷ m (w 10) [] ∷ [])
route = rw (fin.get-from_sorted rank_cmp entries (w 11) tt) refl

restriction : replaced table (w 10) pieces (content.Relation ((codes "type", codes "restriction") ∷ []) (m (w 10) (codes "from") ∷ m (n 3) (codes "via") ∷ m (w 11) (codes "to") ∷ []))
    ≡ content.Relation ((codes "type", codes "restriction") ∷ []) (m new_w (codes "from") ∷ m (n 3) (codes "via") ∷ m (w 11) (codes "to") ∷ [])
restriction = refl

-- two ways joined: each run in a relation becomes the kept way
run_folds : folded (w 1 ∷ w 2 ∷ []) (w 1) (m (w 1) [] ∷ m (w 2) [] ∷ m (n 9) [] ∷ m (w 2) [] ∷ m (w 1) [] ∷ []) ≡ Some (m (w 1) [] ∷ m (n 9) [] ∷ m (w 1) [] ∷ [])
run_folds = refl

run_clashes : folded (w 3 ∷ w 4 ∷ []) (w 3) (m (w 4) [] ∷ []) ≡ None
run_clashes = refl

roles_clash : folded (w 1 ∷ w 2 ∷ []) (w 1) (m (w 1) (codes "a") ∷ m (w 2) [] ∷ []) ≡ None
roles_clash = refl

-- n2 erased out of n1,n2,n1,n3,n3
mends : mended (n 2 ∷ []) (pos 1 ∷ pos 2 ∷ pos 1 ∷ pos 3 ∷ pos 3 ∷ []) ≡ pos 1 ∷ pos 3 ∷ []
mends = refl

-- a small town, from which n1 is erased
abbrev p : Key → Key × Entry
p k = (k, Known New (Some (content.Node [] (record { lon = pos 0; lat = pos 0; on_map = refl }))) None)

abbrev street : List (Key × Entry)
street = p (n 1) ∷ p (n 2) ∷ p (n 3) ∷ p (n 4)
    ∷ (w 5, Known New (Some (content.Way [] (pos 1 ∷ pos 2 ∷ []))) None) ∷ (w 6, Known New (Some (content.Way [] (pos 3 ∷ pos 4 ∷ []))) None)
    ∷ (record { kind = kind.Relation; id = pos 9 }, Known New (Some (content.Relation [] (m (w 5) [] ∷ m (w 6) [] ∷ []))) None) ∷ []

abbrev town : TableValue
town = record { entries = fin.from_sorted street; next = 1 }

-- on a sorted list of entries
in_town : fin.entries (fin.from_sorted {R = rank_cmp} street) ≡ street
in_town = fin.entries-from_sorted rank_cmp street tt

listed : fin.keys (fin.from_sorted {R = rank_cmp} street) ≡ n 1 ∷ n 2 ∷ n 3 ∷ n 4 ∷ w 5 ∷ w 6 ∷ record { kind = kind.Relation; id = pos 9 } ∷ []
listed = rw in_town refl

gone : gone_keys town (n 1 ∷ []) ≡ n 1 ∷ n 2 ∷ w 5 ∷ []
gone = simp (fin.get-entries, in_town) refl

left : relations_left town (n 1 ∷ []) ≡ record { kind = kind.Relation; id = pos 9 } ∷ []
left = simp (fin.get-entries, in_town) refl

-- and delete n1 is refused
used : delete_all town (n 1 ∷ []) ≡ Err (InUse (n 1) (w 5))
used = simp (fin.get-entries, in_town) refl

-- `split w10 n2`
abbrev ways : List (Key × Entry)
ways = p (n 1) ∷ p (n 2) ∷ p (n 3) ∷ p (n 4)
    ∷ (w 10, Known New (Some (content.Way [] (pos 1 ∷ pos 2 ∷ pos 3 ∷ []))) None) ∷ (w 11, Known New (Some (content.Way [] (pos 3 ∷ pos 4 ∷ []))) None)
    ∷ (record { kind = kind.Relation; id = pos 20 }, Known New (Some (content.Relation [] (m (w 11) [] ∷ m (w 10) [] ∷ []))) None) ∷ []

abbrev city : TableValue
city = record { entries = fin.from_sorted ways; next = 1 }

in_city : fin.entries (fin.from_sorted {R = rank_cmp} ways) ≡ ways
in_city = fin.entries-from_sorted rank_cmp ways tt

abbrev pub reply_keys : Result Outcome Refusal → Option (List Key)
reply_keys (Ok new) = Some new.keys
reply_keys (Err r) = None

splits : reply_keys (split city 1000 (w 10) (n 2 ∷ [])) ≡ Some (new_w ∷ [])
splits = simp (chars-nil, fin.len-entries, fin.get-entries, fin.entries-insert {X = Entry} rank_total, in_city) refl

-- a village that a server knows: w1 Nn1,n2, w2 Nn3,n2, and a route over both
abbrev pub server : Meta
server = record { changeset = 1; time = None; uid = 1; user = [] }

abbrev pub live : Key → Content → Key × Entry
live k c = (k, Known (base.Live 1 c server) (Some c) None)

abbrev here : Coord
here = record { lon = pos 0; lat = pos 0; on_map = refl }

abbrev pub dot : List Pair → Content
dot tags = content.Node tags here

abbrev line : List ℕ → Content
line ids = content.Way [] (map pos ids)

abbrev route_of : List Member → Content
route_of members = content.Relation [] members

abbrev pub r : ℕ → Key
r i = record { kind = kind.Relation; id = pos i }

abbrev houses : List (Key × Entry)
houses = live (n 1) (dot []) ∷ live (n 2) (dot []) ∷ live (n 3) (dot []) ∷ live (w 1) (line (1 ∷ 2 ∷ [])) ∷ live (w 2) (line (3 ∷ 2 ∷ [])) ∷ live (r 9) (route_of (m (w 1) [] ∷ m (w 2) [] ∷ [])) ∷ []

abbrev village : TableValue
village = record { entries = fin.from_sorted houses; next = 1 }

in_village : fin.entries (fin.from_sorted {R = rank_cmp} houses) ≡ houses
in_village = fin.entries-from_sorted rank_cmp houses tt

abbrev pub mine_in : Result Outcome Refusal → List (Key × Option Content)
mine_in (Ok new) = map (λ e. (e.0, mine_of e.1)) (fin.entries new.table.entries)
mine_in (Err r) = []

abbrev pub refused : Result Outcome Refusal → Option Refusal
refused (Ok new) = None
refused (Err r) = Some r

-- `erase n1`: w1 falls with n1, n2 stays since w2 refers to it, and the route keeps w2
erases : mine_in (erase village 9 (n 1 ∷ []))
    ≡ (n 1, None) ∷ (n 2, Some (dot [])) ∷ (n 3, Some (dot [])) ∷ (w 1, None) ∷ (w 2, Some (line (3 ∷ 2 ∷ []))) ∷ (r 9, Some (route_of (m (w 2) [] ∷ []))) ∷ []
erases = simp (chars-nil, fin.len-entries, fin.get-entries, fin.entries-insert {X = Entry} rank_total, in_village) refl

-- `combine w1,w2`: w2 is taken backward, and the run in the route is folded
combines : mine_in (combine village 9 (w 1 ∷ w 2 ∷ []))
    ≡ (n 1, Some (dot [])) ∷ (n 2, Some (dot [])) ∷ (n 3, Some (dot [])) ∷ (w 1, Some (line (1 ∷ 2 ∷ 3 ∷ []))) ∷ (w 2, None) ∷ (r 9, Some (route_of (m (w 1) [] ∷ []))) ∷ []
combines = simp (chars-nil, fin.len-entries, fin.get-entries, fin.entries-insert {X = Entry} rank_total, in_village) refl

-- `combine w2,w1` of the same run in reverse
combines_back : mine_in (combine village 9 (w 2 ∷ w 1 ∷ []))
    ≡ (n 1, Some (dot [])) ∷ (n 2, Some (dot [])) ∷ (n 3, Some (dot [])) ∷ (w 1, None) ∷ (w 2, Some (line (3 ∷ 2 ∷ 1 ∷ []))) ∷ (r 9, Some (route_of (m (w 2) [] ∷ []))) ∷ []
combines_back = simp (chars-nil, fin.len-entries, fin.get-entries, fin.entries-insert {X = Entry} rank_total, in_village) refl

-- the tags of both, and a key with two values
unites : united ((codes "b", codes "1") ∷ (codes "a", codes "2") ∷ (codes "b", codes "1") ∷ []) ≡ (codes "a", codes "2") ∷ (codes "b", codes "1") ∷ []
unites = refl

tags_clash : clash_test ((codes "b", codes "1") ∷ (codes "a", codes "2") ∷ (codes "b", codes "3") ∷ []) ≡ Some (TagClash (codes "b"))
tags_clash = refl

-- `reverse w2`
reverses : mine_in (reversed village 9 (w 2))
    ≡ (n 1, Some (dot [])) ∷ (n 2, Some (dot [])) ∷ (n 3, Some (dot [])) ∷ (w 1, Some (line (1 ∷ 2 ∷ []))) ∷ (w 2, Some (line (2 ∷ 3 ∷ []))) ∷ (r 9, Some (route_of (m (w 1) [] ∷ m (w 2) [] ∷ []))) ∷ []
reverses = simp (chars-nil, fin.len-entries, fin.get-entries, fin.entries-insert {X = Entry} rank_total, in_village) refl

-- `way Nn1,n8` has no n8, and `way Nn1,n3` is one entry too many for a limit of 6
no_node : refused (add village 9 (line (1 ∷ 8 ∷ []))) ≡ Some (Absent (n 8))
no_node = simp (fin.get-entries, in_village) refl

no_room : refused (add village 6 (line (1 ∷ 3 ∷ []))) ≡ Some TableFull
no_room = simp (chars-nil, fin.len-entries, fin.get-entries, fin.entries-insert {X = Entry} rank_total, in_village) refl

-- a list is looked at for repeats before its objects are looked up
twice_first : list_tests village Any (n 9 ∷ n 1 ∷ n 1 ∷ []) ≡ Some (NamedTwice (n 1))
twice_first = refl

-- `split n1 n2` names a node, and `split w1 n3` a node of another way
no_way : refused (split village 9 (n 1) (n 2 ∷ [])) ≡ Some (WrongKind (n 1))
no_way = simp (fin.get-entries, in_village) refl

not_in_way : refused (split village 9 (w 1) (n 3 ∷ [])) ≡ Some (NotInWay (n 3))
not_in_way = simp (fin.get-entries, in_village) refl

no_piece : refused (split village 9 (w 1) (n 1 ∷ [])) ≡ Some (NothingToSplit (w 1))
no_piece = simp (fin.get-entries, in_village) refl

-- `move w2` moves n2 and n3
moves : moved_nodes village (w 2 ∷ []) ≡ n 2 ∷ n 3 ∷ []
moves = simp (fin.get-entries, in_village) refl

-- `purge w1`: the route still refers to it, so it is Incomplete
purges : mine_in (purge village (w 1 ∷ []))
    ≡ (n 1, Some (dot [])) ∷ (n 2, Some (dot [])) ∷ (n 3, Some (dot [])) ∷ (w 1, None) ∷ (w 2, Some (line (3 ∷ 2 ∷ []))) ∷ (r 9, Some (route_of (m (w 1) [] ∷ m (w 2) [] ∷ []))) ∷ []
purges = simp (fin.get-entries, fin.entries-insert {X = Entry} rank_total, in_village) refl
