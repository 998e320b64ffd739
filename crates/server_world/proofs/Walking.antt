-- A walk over the keys of a world, with what stands of each, is one over its entries.
use Rattle.std.proofs.Common.{◌≡◌, Bool, true, false, cond, List, [], ◌∷◌, ◌++◌, map, Option, Some, refl, sym, ◌∙◌, ap, inl, inr}
use Rattle.std.specs.Prelude.{flat_map}
use Rattle.std.specs.List.{find}
use Rattle.std.specs.Option.{option_map, option_map_or}
use Rattle.std.specs.FinMap as fin
use Rattle.osm_base.specs.Rank.{rank_cmp}
use Rattle.osm_base.specs.declared.key.Key.{Key}
use Rattle.upload_order.proofs.Entries.{IsIn, has_listed}
use Rattle.upload_order.specs.World.{World, WorldEntry, stands}

map_listed : {A V : Type 0} (m : fin.FinMap rank_cmp V) (f : Key → Option V → A) (es : List (Key × V)) → ((e : Key × V) → IsIn e es → fin.get m e.0 ≡ Some e.1) → map (λ k. f k (fin.get m k)) (map (λ e. e.0) es) ≡ map (λ e. f e.0 (Some e.1)) es
map_listed m f [] h = refl
map_listed m f (e ∷ es) h = λ i. f e.0 (h e (inl refl) i) ∷ map_listed m f es (λ x j. h x (inr j)) i

-- what is made of each key and of what stands there is made of each entry
pub each_entry : {A : Type 0} (w : World) (f : Key → Option WorldEntry → A) → map (λ k. f k (stands w k)) (fin.keys w.entries) ≡ map (λ e. f e.0 (Some e.1)) (fin.entries w.entries)
each_entry w f = map_listed w.entries f (fin.entries w.entries) (has_listed w.entries)

walk_listed : {A V : Type 0} (m : fin.FinMap rank_cmp V) (f : Key → V → A) (es : List (Key × V)) → ((e : Key × V) → IsIn e es → fin.get m e.0 ≡ Some e.1) → flat_map (λ k. option_map_or (λ v. f k v ∷ []) (fin.get m k) []) (map (λ e. e.0) es) ≡ map (λ e. f e.0 e.1) es
walk_listed m f [] h = refl
walk_listed m f (e ∷ es) h = λ i. option_map_or (λ v. f e.0 v ∷ []) (h e (inl refl) i) [] ++ walk_listed m f es (λ x j. h x (inr j)) i

-- what is made of each key under which something stands is made of each entry
pub each_standing : {A : Type 0} (w : World) (f : Key → WorldEntry → A) → flat_map (λ k. option_map_or (λ e. f k e ∷ []) (stands w k) []) (fin.keys w.entries) ≡ map (λ e. f e.0 e.1) (fin.entries w.entries)
each_standing w f = walk_listed w.entries f (fin.entries w.entries) (has_listed w.entries)

find_case : {A B : Type 0} (b c : Bool) (x : A) (y : B) (f : A → B) (o : Option A) (p : Option B) → c ≡ b → f x ≡ y → p ≡ option_map f o → cond c (Some y) p ≡ option_map f (cond b (Some x) o)
find_case true c x y f o p e s h = ap (λ d. cond d (Some y) p) e ∙ ap Some (sym s)
find_case false c x y f o p e s h = ap (λ d. cond d (Some y) p) e ∙ h

find_listed : {V : Type 0} (m : fin.FinMap rank_cmp V) (p : V → Bool) (es : List (Key × V)) → ((e : Key × V) → IsIn e es → fin.get m e.0 ≡ Some e.1)
    → find (λ k. option_map_or p (fin.get m k) false) (map (λ e. e.0) es) ≡ option_map (λ e. e.0) (find (λ e. p e.1) es)
find_listed m p [] h = refl
find_listed m p (e ∷ es) h =
    find_case (p e.1) (option_map_or p (fin.get m e.0) false) e e.0 (λ x. x.0) (find (λ x. p x.1) es) _ (ap (λ o. option_map_or p o false) (h e (inl refl))) refl (find_listed m p es (λ x j. h x (inr j)))

-- the first key under which something stands that passes a test is that of the first entry that does
pub first_entry : (w : World) (p : WorldEntry → Bool) → find (λ k. option_map_or p (stands w k) false) (fin.keys w.entries) ≡ option_map (λ e. e.0) (find (λ e. p e.1) (fin.entries w.entries))
first_entry w p = find_listed w.entries p (fin.entries w.entries) (has_listed w.entries)
