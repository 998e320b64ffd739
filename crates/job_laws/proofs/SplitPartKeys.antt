-- The keys of the parts: the way's, and those of the new ways in order.
use Rattle.std.proofs.Common.{◌≡◌, ◌||◌, ◌+◌, ◌<◌, ◌≤◌, ◌==◌, ℕ, suc, ℤ, Bool, true, false, cond, not, List, [], ◌∷◌, length, map, refl, sym, ap, ◌∙◌, subst, arith}
use Rattle.std.specs.List.{list_any}
use Rattle.osm_base.specs.Rank.{is_key}
use Rattle.osm_base.specs.declared.key.Key.{Key}
use Rattle.osm_base.specs.declared.key.Kind.TheVariants as kind
use Rattle.osm_base.proofs.RisingKeys.{key_itself}
use Rattle.osm_base.proofs.Lists.{at_case}
use Rattle.tool_api.specs.Changes.{new_key}
use Rattle.tool_api.specs.Split.{keyed, piece_of, others}
use Rattle.job_laws.proofs.SplitMembers.{has_piece}

-- the keys of parts, as pieces
has_part : (way r : Key) (parts : List (Key × List ℤ)) → has_piece r (map (piece_of way) parts) ≡ list_any (λ (p : Key × List ℤ). is_key r p.0) parts
has_part way r [] = refl
has_part way r (p ∷ parts) = ap (λ b. is_key r p.0 || b) (has_part way r parts)

-- the others, where the next part is the kept one, and where it is a new way
pub others_kept : (way : Key) (p : List ℤ) (ps : List (Key × List ℤ)) → others way ((way, p) ∷ ps) ≡ others way ps
others_kept way p ps = ap (λ b. cond (not b) ((way, p) ∷ others way ps) (others way ps)) (key_itself way)

pub others_new : (way k : Key) (p : List ℤ) (ps : List (Key × List ℤ)) → is_key way k ≡ false → others way ((k, p) ∷ ps) ≡ (k, p) ∷ others way ps
others_new way k p ps e = ap (λ b. cond (not b) ((k, p) ∷ others way ps) (others way ps)) e

module _ (P : Key → Type 0) (way : Key) (here : P way) where
  abbrev Fresh : ℕ → Type 0
  Fresh n = (m : ℕ) → n ≤ m → is_key way (new_key kind.Way m) ≡ false

  abbrev New : ℕ → ℕ → Type 0
  New n count = (m : ℕ) → n ≤ m → m < n + count → P (new_key kind.Way m)

  part_case : (b : Bool) (r : Key) (n : ℕ) (p : List ℤ) (front cs : List (Key × List ℤ)) → Fresh n
      → (New n (length (others way front)) → list_any (λ (p : Key × List ℤ). is_key r p.0) front ≡ true → P r)
      → (New (n + 1) (length (others way cs)) → list_any (λ (p : Key × List ℤ). is_key r p.0) cs ≡ true → P r)
      → New n (length (others way (cond b ((way, p) ∷ front) ((new_key kind.Way n, p) ∷ cs))))
      → list_any (λ (p : Key × List ℤ). is_key r p.0) (cond b ((way, p) ∷ front) ((new_key kind.Way n, p) ∷ cs)) ≡ true → P r
  part_case true r n p front cs fresh left right new e =
      at_case P way r (is_key r way) _ refl e here (left (subst (λ (xs : List (Key × List ℤ)). New n (length xs)) (others_kept way p front) new))
  part_case false r n p front cs fresh left right new e =
      let all : New n (suc (length (others way cs))) = subst (λ (xs : List (Key × List ℤ)). New n (length xs)) (others_new way (new_key kind.Way n) p cs (fresh n (omega arith))) new in
      at_case P (new_key kind.Way n) r (is_key r (new_key kind.Way n)) _ refl e (all n (omega arith) (omega arith)) (right (λ m low high. all m (omega arith) (omega arith)))

  parts_are : (kept i n : ℕ) (r : Key) (ps : List (List ℤ)) → Fresh n → New n (length (others way (keyed way kept i n ps))) → list_any (λ (p : Key × List ℤ). is_key r p.0) (keyed way kept i n ps) ≡ true → P r
  parts_are kept i n r [] fresh new e = let f : false ≡ true = e in cc
  parts_are kept i n r (p ∷ ps) fresh new e =
      part_case (i == kept) r n p (keyed way kept (i + 1) n ps) (keyed way kept (i + 1) (n + 1) ps) fresh
      (parts_are kept (i + 1) n r ps fresh) (parts_are kept (i + 1) (n + 1) r ps (λ m low. fresh m (omega arith))) new e

  -- what holds of the way and of the new keys holds of each key that a piece has
  pub pieces_are : (kept n : ℕ) (r : Key) (ps : List (List ℤ)) → ((m : ℕ) → n ≤ m → is_key way (new_key kind.Way m) ≡ false)
      → ((m : ℕ) → n ≤ m → m < n + length (others way (keyed way kept 0 n ps)) → P (new_key kind.Way m)) → has_piece r (map (piece_of way) (keyed way kept 0 n ps)) ≡ true → P r
  pieces_are kept n r ps fresh new e = parts_are kept 0 n r ps fresh new (sym (has_part way r (keyed way kept 0 n ps)) ∙ e)
