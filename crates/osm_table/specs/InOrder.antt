-- How entries are kept in the order in which they were put, and what putting does.
use Rattle.std.specs.Prelude.{◌≡◌, ℕ, Bool, false, List, [], ◌∷◌, ◌++◌, Option, Some, None, T, fold, if◌then◌else◌, slice_get}
use Rattle.std.specs.HashMap.{HashMap, get}
use Rattle.std.specs.List.{IsDistinct}
use Rattle.osm_base.specs.KeyEq.{eq}
use Rattle.osm_base.specs.RisingKeys.{rises, is_in}
use Rattle.osm_base.specs.declared.key.Key.{Key}
use Rattle.osm_table.specs.declared.places.Places.{Places}
use Rattle.osm_table.specs.declared.places.Places.TheVariants.{Rising, Hashed}

module _ {K V : Type 0} (eq : K → K → Bool) where
  -- the entries after one is put: a key that is there keeps its place, and a new one comes last
  abbrev pub insert_entry : List (K × V) → K → V → List (K × V)
  insert_entry [] k v = (k, v) ∷ []
  insert_entry (e ∷ es) k v = if eq k e.0 then (e.0, v) ∷ es else e ∷ insert_entry es k v

  -- the entries after each of others is put in turn
  abbrev pub insert_all : List (K × V) → List (K × V) → List (K × V)
  insert_all es others = fold (λ done e. insert_entry done e.0 e.1) es others

-- The key stands at the place, or nowhere where there is none.
abbrev pub IsPlace : List Key → Key → Option ℕ → Type 0
IsPlace ks k None = is_in k ks ≡ false
IsPlace ks k (Some i) = slice_get ks i ≡ Some k

-- Distinct keys, each of which has its place.
abbrev pub AreHashed : {S : Type 0} → List Key → HashMap Key ℕ S → Type 0
AreHashed ks places = IsDistinct eq ks × ((k : Key) → IsPlace ks k (get eq places k))

-- Keys whose places aren't hashed rise.
abbrev pub AreInPlace : List Key → Places → Type 0
AreInPlace ks (Rising posts) = T (rises ks)
AreInPlace ks (Hashed places) = AreHashed ks places

-- What a key that is put gets: its place, or none where it is new and has been given that behind the others.
abbrev pub IsPut : List Key → Key → Places → Option ℕ → Type 0
IsPut ks k places None = (is_in k ks ≡ false) × AreInPlace (ks ++ k ∷ []) places
IsPut ks k places (Some i) = (slice_get ks i ≡ Some k) × AreInPlace ks places
