-- No object is unsound exactly where the world is sound.
use Rattle.std.proofs.Common.{◌≡◌, Bool, false, not, ◌||◌, List, [], ◌∷◌, Option, Some, None, is_some, refl, sym, ◌∙◌, ap, inl, inr}
use Rattle.std.proofs.lemmas.Bool.{or_parts}
use Rattle.std.specs.List.{list_any}
use Rattle.std.specs.Option.{option_map, option_map_or}
use Rattle.std.specs.FinMap as fin
use Rattle.osm_base.specs.Content.{refs_of}
use Rattle.osm_base.specs.declared.key.Key.{Key}
use Rattle.osm_base.specs.declared.content.Content.{Content}
use Rattle.osm_base.proofs.Tests.{none_before_map}
use Rattle.upload_order.specs.World.{World, WorldEntry, stands, content_at, IsSoundWorld}
use Rattle.upload_order.specs.Pieces.{content_in}
use Rattle.upload_order.proofs.Entries.{IsIn, any_in, in_any, find_none, none_found, has_listed, listed_has}
use Rattle.upload_order.proofs.Worlds.{content_some}
use Rattle.server_world.specs.Unsound.{lacks, is_unsound, first_unsound}

none_any : {A : Type 0} (p : A → Bool) (xs : List A) (x : A) → list_any p xs ≡ false → IsIn x xs → p x ≡ false
none_any p [] x e i = absurd i
none_any p (y ∷ ys) x e (inl same) = ap p (sym same) ∙ (or_parts (p y) (list_any p ys) e).0
none_any p (y ∷ ys) x e (inr i) = none_any p ys x (or_parts (p y) (list_any p ys) e).1 i

any_none : {A : Type 0} (p : A → Bool) (xs : List A) → ((x : A) → IsIn x xs → p x ≡ false) → list_any p xs ≡ false
any_none p [] h = refl
any_none p (y ∷ ys) h = ap (λ b. b || list_any p ys) (h y (inl refl)) ∙ any_none p ys (λ x i. h x (inr i))

there : (o : Option Content) → not (is_some o) ≡ false → (d : Content) × (o ≡ Some d)
there None e = cc
there (Some d) e = (d, refl)

-- where none is found, the world is sound
pub none_sound : (w : World) → first_unsound w ≡ None → IsSoundWorld w
none_sound w none q r c has refer =
    let e = content_some (stands w q) c has in
    let sound : is_unsound w e.0 ≡ false =
    none_found (λ (x : Key × WorldEntry). is_unsound w x.1) (fin.entries w.entries) (q, e.0) (none_before_map (λ (x : Key × WorldEntry). x.0) _ none) (listed_has w.entries q e.0 e.1) in
    let whole : lacks w c ≡ false = ap (λ (o : Option Content). option_map_or (lacks w) o false) (sym e.2) ∙ sound in
    there (content_at w r) (none_any (λ k. not (is_some (content_at w k))) (refs_of c) r whole (any_in (refs_of c) r refer))

content_sound : (w : World) (q : Key) (o : Option Content) → IsSoundWorld w → content_at w q ≡ o → option_map_or (lacks w) o false ≡ false
content_sound w q None sound is = refl
content_sound w q (Some c) sound is =
    any_none (λ k. not (is_some (content_at w k))) (refs_of c) (λ r i. ap (λ (o : Option Content). not (is_some o)) (sound q r c is (in_any (refs_of c) r i)).1)

-- where the world is sound, none is found
pub sound_none : (w : World) → IsSoundWorld w → first_unsound w ≡ None
sound_none w sound =
    ap (option_map (λ (x : Key × WorldEntry). x.0))
    (find_none (λ (x : Key × WorldEntry). is_unsound w x.1) (fin.entries w.entries) (λ e i. content_sound w e.0 e.1.content sound (ap content_in (has_listed w.entries e i))))
