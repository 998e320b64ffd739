-- What the contents that a split makes refer to is seen.
use Rattle.std.proofs.Common.{◌≡◌, ◌+◌, ◌==◌, ◌∙◌, ℕ, ℤ, Bool, true, false, cond, List, [], ◌∷◌, map}
use mathlib.Core.Logic.{◌⊎◌, inl, inr}
use Rattle.std.specs.List.{AllByRecursion}
use Rattle.osm_base.specs.Rank.{is_key}
use Rattle.osm_base.specs.Content.{node, refers, refs_of}
use Rattle.osm_base.specs.Tags.{Pair}
use Rattle.osm_base.specs.declared.key.Key.{Key}
use Rattle.osm_base.specs.declared.key.Kind.TheVariants as kind
use Rattle.osm_base.specs.declared.content.Content.{Content}
use Rattle.osm_base.specs.declared.content.Content.TheVariants as content
use Rattle.osm_base.proofs.AnyMap.{list_any_map}
use Rattle.osm_base.proofs.Lists.{all_at}
use Rattle.osm_table.specs.Table.{TableValue}
use Rattle.tool_api.specs.Checks.{is_named}
use Rattle.tool_api.specs.Changes.{new_key}
use Rattle.tool_api.specs.Combine.{refs_at}
use Rattle.tool_api.specs.Split.{keyed, piece_of, others, kept_refs, split_pieces}
use Rattle.tool_api.specs.Upkeep.{PieceValue, replaced}
use Rattle.job_laws.proofs.SplitHolds.{all_pieces_hold, parts_hold, found_holds, all_filtered}
use Rattle.job_laws.proofs.SplitMembers.{has_piece, replaced_refers}
use Rattle.editor_laws.proofs.SeenLists.{map_of_all, all_more}
use Rattle.editor_laws.proofs.SeenKeeping.{IsSeen, RefersSeen, all_named}
use Rattle.editor_laws.proofs.SeenContents.{NodesSeen, way_at_seen}

module _ (t : TableValue) (way : Key) where
  -- The keys of pieces: the way's, and new ones.

  abbrev PieceSeen : PieceValue → Type 0
  PieceSeen p = IsSeen t p.key

  abbrev PartSeen : Key × List ℤ → Type 0
  PartSeen p = IsSeen t p.0

  part_case : (b : Bool) (p q : Key × List ℤ) (ps qs : List (Key × List ℤ)) → PartSeen p → PartSeen q → AllByRecursion PartSeen ps → AllByRecursion PartSeen qs → AllByRecursion PartSeen (cond b (p ∷ ps) (q ∷ qs))
  part_case true p q ps qs h i hs is = (h, hs)
  part_case false p q ps qs h i hs is = (i, is)

  parts_seen : IsSeen t way → (kept i next : ℕ) (ps : List (List ℤ)) → AllByRecursion PartSeen (keyed way kept i next ps)
  parts_seen seen kept i next [] = tt
  parts_seen seen kept i next (p ∷ ps) =
      part_case (i == kept) (way, p) (new_key kind.Way next, p) (keyed way kept (i + 1) next ps) (keyed way kept (i + 1) (next + 1) ps)
      seen (λ never. cc) (parts_seen seen kept (i + 1) next ps) (parts_seen seen kept (i + 1) (next + 1) ps)

  pub pieces_seen : IsSeen t way → (kept i next : ℕ) (ps : List (List ℤ)) → AllByRecursion PieceSeen (map (piece_of way) (keyed way kept i next ps))
  pieces_seen seen kept i next ps = map_of_all PieceSeen (piece_of way) (keyed way kept i next ps) (parts_seen seen kept i next ps)

  by_piece : (ps : List PieceValue) (r : Key) → AllByRecursion PieceSeen ps → has_piece r ps ≡ true → IsSeen t r
  by_piece ps r all e = all_at (IsSeen t) (map (λ (p : PieceValue). p.key) ps) r (map_of_all (IsSeen t) (λ (p : PieceValue). p.key) ps all) (list_any_map (is_key r) (λ (p : PieceValue). p.key) ps ∙ e)

  pub replaced_seen : (ps : List PieceValue) → AllByRecursion PieceSeen ps → (c : Content) → RefersSeen t c → RefersSeen t (replaced t way ps c)
  replaced_seen ps all c h = all_named (IsSeen t) (refs_of (replaced t way ps c)) (λ r e. by r (replaced_refers t way ps c r e))
    where
      by : (r : Key) → (refers c r ≡ true) ⊎ (has_piece r ps ≡ true) → IsSeen t r
      by r (inl old) = all_at (IsSeen t) (refs_of c) r h old
      by r (inr piece) = by_piece ps r all piece

  -- The nodes of pieces: the way's.

  abbrev pub PartsSeen : List (Key × List ℤ) → Type 0
  PartsSeen ps = AllByRecursion (λ (p : Key × List ℤ). NodesSeen t p.1) ps

  pub cut_seen : (nodes : List Key) (kept i next : ℕ) → PartsSeen (keyed way kept i next (split_pieces t way nodes))
  cut_seen nodes kept i next =
      parts_hold (λ n. IsSeen t (node n)) way kept i next (split_pieces t way nodes)
      (all_pieces_hold (λ n. IsSeen t (node n)) (λ n. is_named nodes (node n)) (refs_at t way) (way_at_seen t way))

  pub kept_part_seen : (ps : List (Key × List ℤ)) → PartsSeen ps → NodesSeen t (kept_refs way ps)
  kept_part_seen ps h = found_holds (λ n. IsSeen t (node n)) (λ p. is_key way p.0) ps h

  pub others_seen : (ps : List (Key × List ℤ)) → PartsSeen ps → PartsSeen (others way ps)
  others_seen ps h = all_filtered (λ (p : Key × List ℤ). NodesSeen t p.1) _ ps h

  pub new_ways_seen : (tags : List Pair) (ps : List (Key × List ℤ)) → PartsSeen ps → AllByRecursion (RefersSeen t) (map (λ (p : Key × List ℤ). content.Way tags p.1) ps)
  new_ways_seen tags ps h =
      map_of_all (RefersSeen t) (λ (p : Key × List ℤ). content.Way tags p.1) ps
      (all_more (λ (p : Key × List ℤ). NodesSeen t p.1) (λ (p : Key × List ℤ). RefersSeen t (content.Way tags p.1)) (λ p i. map_of_all (IsSeen t) node p.1 i) ps h)
