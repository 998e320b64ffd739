-- What holds of each node of a way holds of each node of its pieces.
use Rattle.std.proofs.Common.{◌+◌, ◌-◌, ◌==◌, ◌&&◌, ℕ, ℤ, Bool, true, false, cond, nat_lt, List, [], ◌∷◌, ◌++◌, length, drop, take, Option, Some}
use Rattle.std.specs.List.{AllByRecursion, find, filter, position_or_len}
use Rattle.std.specs.Option.{option_map_or}
use Rattle.osm_base.specs.declared.key.Key.{Key}
use Rattle.osm_base.specs.declared.key.Kind.TheVariants as kind
use Rattle.osm_base.proofs.Lists.{all_joined, all_taken, all_dropped}
use Rattle.tool_api.specs.Changes.{new_key}
use Rattle.tool_api.specs.Split.{pieces_from, pieces, is_closed, turned, all_pieces, keyed}

module _ (P : ℤ → Type 0) where
  abbrev All : List ℤ → Type 0
  All xs = AllByRecursion P xs

  piece_case : (b : Bool) (a : List ℤ) (front bs : List (List ℤ)) → All a → AllByRecursion All front → AllByRecursion All bs → AllByRecursion All (cond b (a ∷ front) bs)
  piece_case true a front bs h g f = (h, g)
  piece_case false a front bs h g f = f

  pieces_hold : (cut : ℤ → Bool) (piece xs : List ℤ) → All piece → All xs → AllByRecursion All (pieces_from cut piece xs)
  pieces_hold cut piece [] h g = (h, tt)
  pieces_hold cut piece (x ∷ xs) h g =
      let longer : All (piece ++ x ∷ []) = all_joined P piece (x ∷ []) h (g.0, tt) in
      piece_case (nat_lt 0 (length xs) && cut x) (piece ++ x ∷ []) (pieces_from cut (x ∷ []) xs) (pieces_from cut (piece ++ x ∷ []) xs)
      longer (pieces_hold cut (x ∷ []) xs (g.0, tt) g.1) (pieces_hold cut (piece ++ x ∷ []) xs longer g.1)

  whole_holds : (cut : ℤ → Bool) (xs : List ℤ) → All xs → AllByRecursion All (pieces cut xs)
  whole_holds cut [] h = tt
  whole_holds cut (x ∷ xs) h = pieces_hold cut (x ∷ []) xs (h.0, tt) h.1

  turned_holds : (cut : ℤ → Bool) (xs : List ℤ) → All xs → All (turned cut xs)
  turned_holds cut xs h =
      let p = position_or_len cut xs in
      all_joined P (drop p xs ++ take p xs) (take 1 (drop p xs))
      (all_joined P (drop p xs) (take p xs) (all_dropped P p xs h) (all_taken P p xs h))
      (all_taken P 1 (drop p xs) (all_dropped P p xs h))

  either_holds : (b : Bool) (xs ys : List (List ℤ)) → AllByRecursion All xs → AllByRecursion All ys → AllByRecursion All (cond b xs ys)
  either_holds true xs ys h g = h
  either_holds false xs ys h g = g

  pub all_pieces_hold : (cut : ℤ → Bool) (refs : List ℤ) → AllByRecursion P refs → AllByRecursion (λ xs. AllByRecursion P xs) (all_pieces cut refs)
  all_pieces_hold cut refs h =
      let circle = take (length refs - 1) refs in
      either_holds (is_closed refs) (pieces cut (turned cut circle)) (pieces cut refs)
      (whole_holds cut (turned cut circle) (turned_holds cut circle (all_taken P (length refs - 1) refs h))) (whole_holds cut refs h)

  part_case : (b : Bool) (a c : Key × List ℤ) (front cs : List (Key × List ℤ)) → All a.1 → All c.1 → AllByRecursion (λ p. All p.1) front → AllByRecursion (λ p. All p.1) cs → AllByRecursion (λ p. All p.1) (cond b (a ∷ front) (c ∷ cs))
  part_case true a c front cs h g f e = (h, f)
  part_case false a c front cs h g f e = (g, e)

  pub parts_hold : (way : Key) (kept i next : ℕ) (ps : List (List ℤ)) → AllByRecursion (λ xs. AllByRecursion P xs) ps → AllByRecursion (λ (p : Key × List ℤ). AllByRecursion P p.1) (keyed way kept i next ps)
  parts_hold way kept i next [] h = tt
  parts_hold way kept i next (p ∷ ps) h =
      part_case (i == kept) (way, p) (new_key kind.Way next, p) (keyed way kept (i + 1) next ps) (keyed way kept (i + 1) (next + 1) ps) h.0 h.0
      (parts_hold way kept (i + 1) next ps h.1) (parts_hold way kept (i + 1) (next + 1) ps h.1)

filter_case : {X : Type 0} (Q : X → Type 0) (b : Bool) (x : X) (xs : List X) → Q x → AllByRecursion Q xs → AllByRecursion Q (cond b (x ∷ xs) xs)
filter_case Q true x xs h g = (h, g)
filter_case Q false x xs h g = g

pub all_filtered : {X : Type 0} (Q : X → Type 0) (p : X → Bool) (xs : List X) → AllByRecursion Q xs → AllByRecursion Q (filter p xs)
all_filtered Q p [] h = tt
all_filtered Q p (x ∷ xs) h = filter_case Q (p x) x (filter p xs) h.0 (all_filtered Q p xs h.1)

found_case : (P : ℤ → Type 0) (b : Bool) (x : Key × List ℤ) (o : Option (Key × List ℤ)) → AllByRecursion P x.1 → AllByRecursion P (option_map_or (λ (p : Key × List ℤ). p.1) o []) → AllByRecursion P (option_map_or (λ (p : Key × List ℤ). p.1) (cond b (Some x) o) [])
found_case P true x o h g = h
found_case P false x o h g = g

pub found_holds : (P : ℤ → Type 0) (f : Key × List ℤ → Bool) (ps : List (Key × List ℤ)) → AllByRecursion (λ (p : Key × List ℤ). AllByRecursion P p.1) ps → AllByRecursion P (option_map_or (λ (p : Key × List ℤ). p.1) (find f ps) [])
found_holds P f [] h = tt
found_holds P f (x ∷ xs) h = found_case P (f x) x (find f xs) h.0 (found_holds P f xs h.1)
