-- What the pieces of a way are, said with no loop.
--
-- For example the pieces n1,n2 and n2,n3,n4 put together are n1,n2,n3,n4; they meet at n2, and the inner references of
-- the second are n3. Of pieces with 2, 3, 3 and 1 references the second is the first of the longest.
use Rattle.std.specs.Prelude.{◌≡◌, ℕ, ℤ, ◌-◌, ◌<◌, ◌≤◌, ◌&&◌, Bool, true, false, not, nat_le, List, [], ◌∷◌, ◌++◌, length, map, take, drop, get_or}
use Rattle.std.specs.List.{flat_map, list_all, list_any, range_with_len}
use Rattle.std.specs.Option.{option_map_or}
use Rattle.osm_base.specs.Rank.{is_key}
use Rattle.osm_base.specs.declared.key.Key.{Key}
use Rattle.osm_base.specs.declared.key.Kind.TheVariants as kind
use Rattle.tool_api.specs.Changes.{new_key}
use Rattle.tool_api.specs.Combine.{last_in, same_end}
use Rattle.tool_api.specs.Upkeep.{first_in}

-- the pieces one after the other, each joint once
abbrev pub together : List (List ℤ) → List ℤ
together [] = []
together (p ∷ ps) = p ++ flat_map (drop 1) ps

-- the references other than the first and the last
abbrev pub inner : List ℤ → List ℤ
inner refs = drop 1 (take (length refs - 1) refs)

-- whether a piece ends where the next begins, at a cut
abbrev pub meet : (ℤ → Bool) → List ℤ → List ℤ → Bool
meet cut p q = same_end (last_in p) (first_in q) && option_map_or cut (first_in q) false

-- whether each piece but the last meets the next
abbrev pub all_meet : (ℤ → Bool) → List (List ℤ) → Bool
all_meet cut [] = true
all_meet cut (p ∷ []) = true
all_meet cut (p ∷ q ∷ ps) = meet cut p q && all_meet cut (q ∷ ps)

-- The pieces lie between the cuts of the references, and share the nodes there.
pub record LieBetween (cut : ℤ → Bool) (refs : List ℤ) (ps : List (List ℤ)) : Type 0 where
  -- put together they are the references
  pub whole : together ps ≡ refs
  -- no inner node of a piece is a cut
  pub uncut : list_all (λ p. not (list_any cut (inner p))) ps ≡ true
  -- each piece but the last ends where the next begins, at a cut
  pub joints : all_meet cut ps ≡ true
  -- none is a node alone
  pub long : list_all (λ p. nat_le 2 (length p)) ps ≡ true

-- how many references the i-th piece has
abbrev pub size_at : List (List ℤ) → ℕ → ℕ
size_at ps i = length (get_or ps i [])

-- The i-th piece is the first of the longest.
pub record IsFirstLongest (ps : List (List ℤ)) (i : ℕ) : Type 0 where
  pub there : i < length ps
  -- none is longer
  pub longest : (j : ℕ) → j < length ps → size_at ps j ≤ size_at ps i
  -- each before it is shorter
  pub first : (j : ℕ) → j < i → size_at ps j < size_at ps i

-- the keys of new ways, in order from a number on
abbrev pub new_ways : ℕ → ℕ → List Key
new_ways next count = map (new_key kind.Way) (range_with_len next count)

-- the keys of the pieces, along the way
abbrev pub keys_of : List (Key × List ℤ) → List Key
keys_of parts = map (λ p. p.0) parts

-- the way's key is none of the new ones from a number on
abbrev pub IsOlder : Key → ℕ → Type 0
IsOlder way next = (n : ℕ) → next ≤ n → is_key way (new_key kind.Way n) ≡ false
