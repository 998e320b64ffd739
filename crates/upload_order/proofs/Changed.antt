-- What is sent of an object, or deletes it, is told by its entry's being changed.
use Rattle.std.proofs.Common.{◌≡◌, ◌||◌, Bool, true, false, cond, Option, Some, None, List, [], ◌∷◌, refl, sym, ◌∙◌, ◌⊎◌, inl, inr}
use Rattle.std.specs.List.{filter}
use Rattle.std.specs.Option.{option_map_or}
use Rattle.osm_base.specs.declared.key.Key.{Key}
use Rattle.osm_base.specs.declared.key.Kind.{Kind}
use Rattle.osm_base.specs.declared.key.Kind.TheVariants as kind
use Rattle.osm_table.specs.declared.entry.Base.TheVariants.{New, Live, Gone}
use Rattle.osm_table.specs.declared.entry.Entry.{Entry}
use Rattle.osm_table.specs.declared.entry.Entry.TheVariants.{Incomplete, Known}
use Rattle.osm_table.specs.Table.{TableValue, entry_of, is_changed, keys_by_rank}
use Rattle.upload_order.specs.declared.part.Part.{Part}
use Rattle.upload_order.specs.declared.part.Part.TheVariants.{RisingNodes, RisingWays, RisingRelations, Updates, FallingRelations, FallingWays, FallingNodes}
use Rattle.upload_order.specs.Kinds.{at_key, is_rising, is_update, is_falling, is_sent}
use Rattle.upload_order.specs.Part.{is_part, in_part, changed_keys, keys_in}

pub changed_up : (e : Entry) → (is_rising e ≡ true) ⊎ (is_update e ≡ true) → is_changed e ≡ true
changed_up Incomplete (inl h) = cc
changed_up Incomplete (inr h) = cc
changed_up (Known New m d) h = refl
changed_up (Known (Live v b n) m d) (inl h) = cc
changed_up (Known (Live v b n) None d) (inr h) = cc
changed_up (Known (Live v b n) (Some c) d) (inr h) = h
changed_up (Known (Gone v n) None d) (inl h) = cc
changed_up (Known (Gone v n) (Some c) d) (inl h) = refl
changed_up (Known (Gone v n) m d) (inr h) = cc

pub changed_down : (e : Entry) → is_falling e ≡ true → is_changed e ≡ true
changed_down Incomplete h = cc
changed_down (Known New m d) h = cc
changed_down (Known (Live v b n) None d) h = refl
changed_down (Known (Live v b n) (Some c) d) h = cc
changed_down (Known (Gone v n) m d) h = cc

pub part_changed : (part : Part) (k : Kind) (e : Entry) → is_part part k e ≡ true → is_changed e ≡ true
part_changed RisingNodes kind.Node e h = changed_up e (inl h)
part_changed RisingNodes kind.Way e h = cc
part_changed RisingNodes kind.Relation e h = cc
part_changed RisingWays kind.Node e h = cc
part_changed RisingWays kind.Way e h = changed_up e (inl h)
part_changed RisingWays kind.Relation e h = cc
part_changed RisingRelations kind.Node e h = cc
part_changed RisingRelations kind.Way e h = cc
part_changed RisingRelations kind.Relation e h = changed_up e (inl h)
part_changed Updates k e h = changed_up e (inr h)
part_changed FallingNodes kind.Node e h = changed_down e h
part_changed FallingNodes kind.Way e h = cc
part_changed FallingNodes kind.Relation e h = cc
part_changed FallingWays kind.Node e h = cc
part_changed FallingWays kind.Way e h = changed_down e h
part_changed FallingWays kind.Relation e h = cc
part_changed FallingRelations kind.Node e h = cc
part_changed FallingRelations kind.Way e h = cc
part_changed FallingRelations kind.Relation e h = changed_down e h

pub in_changed : (part : Part) (k : Kind) (o : Option Entry) → option_map_or (is_part part k) o false ≡ true → option_map_or is_changed o false ≡ true
in_changed part k None h = cc
in_changed part k (Some e) h = part_changed part k e h

pub or_case : (a b c : Bool) → (a || b) ≡ c → (a ≡ true → false ≡ true) → (b ≡ true → false ≡ true) → false ≡ c
or_case true b c e f g = let x = f refl in cc
or_case false true c e f g = let x = g refl in cc
or_case false false c e f g = e

-- of what isn't changed nothing is sent
pub not_sent : (e : Entry) → is_changed e ≡ false → is_sent e ≡ false
not_sent e h = sym (or_case (is_rising e) (is_update e) (is_sent e) refl (λ r. sym h ∙ changed_up e (inl r)) (λ u. sym h ∙ changed_up e (inr u)))

pub keep_case : (p q : Bool) (k : Key) (xs ys : List Key) (test : Key → Bool) → test k ≡ p → (p ≡ true → q ≡ true) → filter test xs ≡ ys → filter test (cond q (k ∷ xs) xs) ≡ cond p (k ∷ ys) ys
keep_case p true k xs ys test is h e = λ i. cond (is i) (k ∷ e i) (e i)
keep_case true false k xs ys test is h e = let x = h refl in cc
keep_case false false k xs ys test is h e = e

-- what passes a test that another one follows from, of what passes that one
pub filter_twice : (p q : Key → Bool) → ((k : Key) → p k ≡ true → q k ≡ true) → (ks : List Key) → filter p (filter q ks) ≡ filter p ks
filter_twice p q h [] = refl
filter_twice p q h (k ∷ ks) = keep_case (p k) (q k) k (filter q ks) (filter p ks) p refl (h k) (filter_twice p q h ks)

-- a part is found among what is changed
pub part_among : (t : TableValue) (part : Part) → filter (in_part t part) (changed_keys t) ≡ keys_in t part
part_among t part = filter_twice (in_part t part) (at_key t is_changed) (λ k h. in_changed part k.kind (entry_of t k) h) (keys_by_rank t)
