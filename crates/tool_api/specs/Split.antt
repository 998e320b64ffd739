-- What splitting a way does.
--
-- For example `split w5 n2` of w5 Nn1,n2,n3,n4 gives the pieces n1,n2 and n2,n3,n4. The second is the longer one and
-- stays in w5; the first is the new way w-1 with w5's tags.
use Rattle.std.specs.Prelude.{ℕ, ℤ, pos, ◌+◌, ◌-◌, ◌==◌, ◌&&◌, Bool, true, false, not, nat_lt, nat_le, if◌then◌else◌, List, [], ◌∷◌, ◌++◌, length, map, take, drop, Option, Some, None, Result}
use Rattle.std.specs.List.{filter, find, last_or, position_or_len}
use Rattle.std.specs.Ordering.{int_eq}
use Rattle.std.specs.Option.{option_map, option_map_or, option_or, unwrap_or}
use Rattle.osm_base.specs.Rank.{is_key}
use Rattle.osm_base.specs.Content.{node, tags_of}
use Rattle.osm_base.specs.Tags.{Pair}
use Rattle.osm_base.specs.declared.key.Key.{Key}
use Rattle.osm_base.specs.declared.key.Kind.TheVariants as kind
use Rattle.osm_base.specs.declared.content.Content.{Content}
use Rattle.osm_base.specs.declared.content.Content.TheVariants as content
use Rattle.osm_table.specs.declared.entry.Entry.{Entry}
use Rattle.osm_table.specs.declared.entry.Entry.TheVariants.{Incomplete}
use Rattle.osm_table.specs.Table.{TableValue, entry_of}
use Rattle.osm_table.specs.Table.{users}
use Rattle.tool_api.specs.declared.kinds.Kinds.TheVariants.{Nodes, Ways}
use Rattle.tool_api.specs.declared.refusal.Refusal.{Refusal}
use Rattle.tool_api.specs.declared.refusal.Refusal.TheVariants.{NamedTwice, WrongKind, NotInWay, IncompleteObject, NothingToSplit}
use Rattle.tool_api.specs.Checks.{◌>>◌, when, is_named, takes, target_test}
use Rattle.tool_api.specs.Changes.{Outcome, changed, edit, content_of, all_added, new_key}
use Rattle.tool_api.specs.Closing.{closing}
use Rattle.tool_api.specs.Basic.{with_refs}
use Rattle.tool_api.specs.Gone.{is_relation}
use Rattle.tool_api.specs.Upkeep.{PieceValue, first_in, is_among, replaced}

-- the references of a living way
abbrev pub way_refs : Option Content → List ℤ
way_refs (Some (content.Way tags refs)) = refs
way_refs c = []

-- the tags of a living object
abbrev pub tags_at : TableValue → Key → List Pair
tags_at t k = option_map_or tags_of (content_of t k) []

-- per node as given: NamedTwice, WrongKind, NotInWay
abbrev pub node_tests : List ℤ → List Key → List Key → Option Refusal
node_tests refs seen [] = None
node_tests refs seen (k ∷ ks) =
    option_or (when (is_named seen k) (NamedTwice k))
    (option_or (when (not (takes Nodes k.kind)) (WrongKind k))
    (option_or (when (not (is_among refs k.id)) (NotInWay k))
    (node_tests refs (seen ++ k ∷ []) ks)))

-- whether nothing but the key is known
abbrev pub is_incomplete : Option Entry → Bool
is_incomplete (Some Incomplete) = true
is_incomplete e = false

-- IncompleteObject for the first Incomplete reference
abbrev pub complete_test : TableValue → List ℤ → Option Refusal
complete_test t refs = option_map (λ n. IncompleteObject (node n)) (find (λ n. is_incomplete (entry_of t (node n))) refs)

-- the pieces of references between the cuts inside, which share the nodes there; a piece is begun, and these are left
abbrev pub pieces_from : (ℤ → Bool) → List ℤ → List ℤ → List (List ℤ)
pieces_from cut piece [] = piece ∷ []
pieces_from cut piece (x ∷ xs) =
    if nat_lt 0 (length xs) && cut x
    then (piece ++ x ∷ []) ∷ pieces_from cut (x ∷ []) xs
    else pieces_from cut (piece ++ x ∷ []) xs

-- the pieces of references, cut at the nodes inside
abbrev pub pieces : (ℤ → Bool) → List ℤ → List (List ℤ)
pieces cut [] = []
pieces cut (x ∷ xs) = pieces_from cut (x ∷ []) xs

-- at least three references, and the first is the last
abbrev pub is_closed : List ℤ → Bool
is_closed refs = nat_le 3 (length refs) && option_map_or (λ a. option_map_or (λ b. int_eq a b) (last_or None refs) false) (first_in refs) false

-- the circle of a closed way, read from its first cut round to the same node
abbrev pub turned : (ℤ → Bool) → List ℤ → List ℤ
turned cut circle = let p = position_or_len cut circle in drop p circle ++ take p circle ++ take 1 (drop p circle)

-- the pieces of an open or a closed way
abbrev pub all_pieces : (ℤ → Bool) → List ℤ → List (List ℤ)
all_pieces cut refs =
    if is_closed refs
    then pieces cut (turned cut (take (length refs - 1) refs))
    else pieces cut refs

-- the number of the longest piece, the first of equals
abbrev pub longest_from : ℕ → ℕ → ℕ → List (List ℤ) → ℕ
longest_from i best size [] = best
longest_from i best size (p ∷ ps) = if nat_lt size (length p) then longest_from (i + 1) i (length p) ps else longest_from (i + 1) best size ps

-- the number of the piece that stays in the way
abbrev pub kept_number : List (List ℤ) → ℕ
kept_number ps = longest_from 0 0 0 ps

-- the pieces with their keys: the kept one has the way's, the others new ones in order
abbrev pub keyed : Key → ℕ → ℕ → ℕ → List (List ℤ) → List (Key × List ℤ)
keyed way kept i next [] = []
keyed way kept i next (p ∷ ps) = if i == kept then (way, p) ∷ keyed way kept (i + 1) next ps else (new_key kind.Way next, p) ∷ keyed way kept (i + 1) (next + 1) ps

-- a piece with its ends
abbrev pub piece_of : Key → Key × List ℤ → PieceValue
piece_of way p = record { key = p.0; first = unwrap_or (first_in p.1) (pos 0); last = unwrap_or (last_or None p.1) (pos 0); kept = is_key way p.0 }

-- the new ways, in order along the way
abbrev pub others : Key → List (Key × List ℤ) → List (Key × List ℤ)
others way ps = filter (λ p. not (is_key way p.0)) ps

-- the references that stay in the way
abbrev pub kept_refs : Key → List (Key × List ℤ) → List ℤ
kept_refs way ps = option_map_or (λ p. p.1) (find (λ p. is_key way p.0) ps) []

-- the living relations that refer to the way
abbrev pub relations_of : TableValue → Key → List Key
relations_of t way = filter (λ k. option_map_or is_relation (content_of t k) false) (users t way)

-- members after the split, the way with the piece that stays, and the others as new ways with the way's tags
abbrev pub split_table : TableValue → Key → List (Key × List ℤ) → TableValue
split_table t way ps =
    all_added (changed (changed t
    (edit t (replaced t way (map (piece_of way) ps))) (relations_of t way))
    (edit t (with_refs (λ _. kept_refs way ps))) (way ∷ []))
    (map (λ p. content.Way (tags_at t way) p.1) (others way ps))

-- the reply has the keys of the new ways
abbrev pub split_into : TableValue → Key → List (Key × List ℤ) → Outcome
split_into t way ps = record { keys = map (λ p. p.0) (others way ps); table = split_table t way ps }

-- the pieces of a way that is cut at nodes
abbrev pub split_pieces : TableValue → Key → List Key → List (List ℤ)
split_pieces t way nodes = all_pieces (λ n. is_named nodes (node n)) (way_refs (content_of t way))

-- Target tests of the way; per node NamedTwice, WrongKind, NotInWay; IncompleteObject with the way's first Incomplete
-- reference; NothingToSplit where fewer than two pieces come; closing tests.
abbrev pub split : TableValue → ℕ → Key → List Key → Result Outcome Refusal
split t limit way nodes = do
  target_test t Ways way
  node_tests (way_refs (content_of t way)) [] nodes
  complete_test t (way_refs (content_of t way))
  when (nat_lt (length (split_pieces t way nodes)) 2) (NothingToSplit way)
  closing t limit (way ∷ nodes) (split_into t way (keyed way (kept_number (split_pieces t way nodes)) 0 t.next (split_pieces t way nodes)))
