-- Lists of keys of tags.
use Rattle.std.specs.Prelude.{ℕ, ◌&&◌, Bool, true, not, nat_lt, List, [], ◌∷◌, length}
use Rattle.std.specs.List.{list_any}
use Rattle.osm_base.specs.Same.{same_text}

-- whether the key is one of the list
abbrev pub is_listed : List (List ℕ) → List ℕ → Bool
is_listed keys key = list_any (λ listed. same_text listed key) keys

-- whether no key is empty and none stands twice
abbrev pub are_tag_keys : List (List ℕ) → Bool
are_tag_keys [] = true
are_tag_keys (key ∷ keys) = nat_lt 0 (length key) && (not (is_listed keys key) && are_tag_keys keys)
