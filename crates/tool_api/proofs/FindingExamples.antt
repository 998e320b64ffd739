-- Worked examples of findings and of what mends them, on which the definitions compute.
use Rattle.std.proofs.Common.{◌≡◌, ℕ, pos, negsuc, true, false, List, [], ◌∷◌, map, Some, None, Ok, refl}
use Rattle.std.specs.Prelude.{codes}
use Rattle.std.specs.FinMap as fin
use Rattle.std.proofs.lemmas.Str.{chars-nil}
use Rattle.osm_base.specs.Rank.{rank_cmp}
use Rattle.osm_base.specs.RankLaws.{rank_total}
use Rattle.osm_base.specs.Content.{node}
use Rattle.osm_base.specs.Tags.{Pair}
use Rattle.osm_base.specs.declared.coord.Coord.{Coord}
use Rattle.osm_base.specs.declared.content.Content.{Content}
use Rattle.osm_base.specs.declared.content.Content.TheVariants as content
use Rattle.osm_base.specs.declared.key.Key.{Key}
use Rattle.osm_table.specs.declared.entry.Base.TheVariants as base
use Rattle.osm_table.specs.declared.entry.Entry.{Entry}
use Rattle.osm_table.specs.declared.entry.Entry.TheVariants.{Known}
use Rattle.osm_table.specs.Table.{TableValue}
use Rattle.tool_api.specs.declared.refusal.Refusal.TheVariants.{NoFinding, NotSamePlace, TagClash, NamedTwice, WrongKind}
use Rattle.tool_api.specs.Findings.{doubled_of, has_repeat, is_repeated, is_open_ring}
use Rattle.tool_api.specs.Squeeze.{squeezed, squeeze}
use Rattle.tool_api.specs.Changes.{done}
use Rattle.tool_api.specs.Fuse.{kept_node, fused_content, fused, fuse}
use Rattle.tool_api.proofs.Examples.{n, r, w, m, live, server, mine_in, refused}

abbrev here : Coord
here = record { lon = pos 0; lat = pos 0; on_map = refl }

abbrev there : Coord
there = record { lon = pos 1; lat = pos 0; on_map = refl }

abbrev at : Coord → List Pair → Content
at place tags = content.Node tags place

abbrev way : List ℕ → Content
way ids = content.Way [] (map pos ids)

-- n1 and n3 at one place, n2 at another, w5 Nn1,n2,n2,n3, and a relation that has n1 and n2
abbrev entries : List (Key × Entry)
entries = live (n 1) (at here []) ∷ live (n 2) (at there []) ∷ live (n 3) (at here []) ∷ live (w 5) (way (1 ∷ 2 ∷ 2 ∷ 3 ∷ [])) ∷ live (r 9) (content.Relation [] (m (n 1) [] ∷ m (n 2) [] ∷ [])) ∷ []

abbrev table : TableValue
table = record { entries = fin.from_sorted entries; next = 1 }

in_table : fin.entries (fin.from_sorted {R = rank_cmp} entries) ≡ entries
in_table = fin.entries-from_sorted rank_cmp entries tt

doubled : doubled_of table (n 3) ≡ Some (n 1)
doubled = simp (fin.get-entries, in_table) refl

-- the least of those at a place isn't doubled, nor one that is alone, nor a way
not_doubled : (doubled_of table (n 1) ≡ None) × (doubled_of table (n 2) ≡ None) × (doubled_of table (w 5) ≡ None)
not_doubled = (simp (fin.get-entries, in_table) refl, simp (fin.get-entries, in_table) refl, simp (fin.get-entries, in_table) refl)

repeated : (is_repeated table (w 5) ≡ true) × (is_repeated table (n 1) ≡ false)
repeated = (simp (fin.get-entries, in_table) refl, simp (fin.get-entries, in_table) refl)

-- equal references apart from each other are no repeat
repeats : (has_repeat (pos 1 ∷ pos 2 ∷ pos 1 ∷ []) ≡ false) × (has_repeat (pos 1 ∷ pos 2 ∷ pos 2 ∷ []) ≡ true) × (has_repeat (pos 1 ∷ []) ≡ false)
repeats = (refl, refl, refl)

ring : (is_open_ring table (w 5) ≡ true) × (is_open_ring table (r 9) ≡ false)
ring = (simp (fin.get-entries, in_table) refl, simp (fin.get-entries, in_table) refl)

-- a way of two references is none, nor one that is closed
abbrev lines : List (Key × Entry)
lines = live (n 1) (at here []) ∷ live (n 2) (at there []) ∷ live (n 3) (at here []) ∷ live (w 5) (way (1 ∷ 3 ∷ [])) ∷ live (w 6) (way (1 ∷ 2 ∷ 1 ∷ [])) ∷ (w 7, Known (base.Live 1 (way (1 ∷ 2 ∷ 3 ∷ [])) server) None None) ∷ []

abbrev others : TableValue
others = record { entries = fin.from_sorted lines; next = 1 }

in_others : fin.entries (fin.from_sorted {R = rank_cmp} lines) ≡ lines
in_others = fin.entries-from_sorted rank_cmp lines tt

no_ring : (is_open_ring others (w 5) ≡ false) × (is_open_ring others (w 6) ≡ false) × (is_open_ring others (w 7) ≡ false)
no_ring = (simp (fin.get-entries, in_others) refl, simp (fin.get-entries, in_others) refl, simp (fin.get-entries, in_others) refl)

-- `squeeze w5`
squeezes : mine_in (squeeze table 9 (w 5 ∷ []))
    ≡ (n 1, Some (at here [])) ∷ (n 2, Some (at there [])) ∷ (n 3, Some (at here [])) ∷ (w 5, Some (way (1 ∷ 2 ∷ 3 ∷ []))) ∷ (r 9, Some (content.Relation [] (m (n 1) [] ∷ m (n 2) [] ∷ []))) ∷ []
squeezes = simp (chars-nil, fin.len-entries, fin.get-entries, fin.entries-insert {X = Entry} rank_total, in_table) refl

-- a run of three, and one at each end
runs : squeezed (pos 1 ∷ pos 1 ∷ pos 2 ∷ pos 2 ∷ pos 2 ∷ pos 1 ∷ pos 3 ∷ pos 3 ∷ []) ≡ pos 1 ∷ pos 2 ∷ pos 1 ∷ pos 3 ∷ []
runs = refl

-- `squeeze w6`, which has no repeat, and `squeeze n1`
nothing_found : refused (squeeze others 9 (w 6 ∷ [])) ≡ Some (NoFinding (w 6))
nothing_found = simp (fin.get-entries, in_others) refl

no_way : refused (squeeze table 9 (n 1 ∷ [])) ≡ Some (WrongKind (n 1))
no_way = simp (fin.get-entries, in_table) refl

-- `fuse n3,n1`: n3 is kept
fuses : mine_in (fuse table 9 (n 3 ∷ n 1 ∷ []))
    ≡ (n 1, None) ∷ (n 2, Some (at there [])) ∷ (n 3, Some (at here [])) ∷ (w 5, Some (way (3 ∷ 2 ∷ 2 ∷ 3 ∷ []))) ∷ (r 9, Some (content.Relation [] (m (n 3) [] ∷ m (n 2) [] ∷ []))) ∷ []
fuses = simp (chars-nil, fin.len-entries, fin.get-entries, fin.entries-insert {X = Entry} rank_total, in_table) refl

kept : (kept_node (node (negsuc 0) ∷ n 3 ∷ n 1 ∷ []) ≡ Some (n 3)) × (kept_node (node (negsuc 0) ∷ node (negsuc 1) ∷ []) ≡ Some (node (negsuc 0)))
kept = (refl, refl)

-- of nodes that stand side by side one stays, and other repeats stay
fused_run : fused_content (n 1 ∷ n 3 ∷ []) (n 1) (way (2 ∷ 2 ∷ 3 ∷ 1 ∷ 3 ∷ 4 ∷ 1 ∷ [])) ≡ way (2 ∷ 2 ∷ 1 ∷ 4 ∷ 1 ∷ [])
fused_run = refl

apart : refused (fuse table 9 (n 1 ∷ n 2 ∷ [])) ≡ Some (NotSamePlace (n 2))
apart = simp (fin.get-entries, in_table) refl

twice : refused (fuse table 9 (n 1 ∷ n 1 ∷ [])) ≡ Some (NamedTwice (n 1))
twice = refl

-- a role stays
role : fused_content (n 1 ∷ n 3 ∷ []) (n 3) (content.Relation [] (m (n 1) (codes "stop") ∷ m (n 2) [] ∷ [])) ≡ content.Relation [] (m (n 3) (codes "stop") ∷ m (n 2) [] ∷ [])
role = refl

-- n1 Tk=1 and n2 Tk=2 at one place, and n3 Ta=1,k=2
abbrev k1 : List Pair
k1 = (codes "k", codes "1") ∷ []

abbrev k2 : List Pair
k2 = (codes "k", codes "2") ∷ []

abbrev tagged : List (Key × Entry)
tagged = live (n 1) (at here k1) ∷ live (n 2) (at here k2) ∷ live (n 3) (at here ((codes "a", codes "1") ∷ k2)) ∷ []

abbrev dots : TableValue
dots = record { entries = fin.from_sorted tagged; next = 1 }

in_tagged : fin.entries (fin.from_sorted {R = rank_cmp} tagged) ≡ tagged
in_tagged = fin.entries-from_sorted rank_cmp tagged tt

unlike : refused (fuse dots 9 (n 1 ∷ n 2 ∷ [])) ≡ Some (TagClash (codes "k"))
unlike = simp (fin.get-entries, in_tagged) refl

-- the kept node gets all tags
has_all : mine_in (Ok (done (fused dots (n 2 ∷ n 3 ∷ []) (n 2)))) ≡ (n 1, Some (at here k1)) ∷ (n 2, Some (at here ((codes "a", codes "1") ∷ k2))) ∷ (n 3, None) ∷ []
has_all = simp (fin.get-entries, fin.entries-insert {X = Entry} rank_total, in_tagged) refl
