-- Each object of the city may be told, and each of its references leads to another.
use Rattle.std.proofs.Common.{◌≡◌, ◌∙◌, ◌+◌, ◌-◌, ◌*◌, ◌/◌, ◌%◌, ◌≤◌, ◌&&◌, ℕ, ℤ, Bool, true, false, cond, pos, negsuc, suc, zero, nat_le, map, Some, None, is_some, option_map, unwrap_or, refl, sym, ap, subst, arith, true≢false}
use Rattle.std.specs.List.{AllByRecursion, range_with_len}
use Rattle.std.proofs.lemmas.Bool.Decides.{nat_tests}
use Rattle.std.proofs.lemmas.Option.{same_Some}
use Rattle.osm_base.specs.Content.{node, refs_of}
use Rattle.osm_base.specs.OnMap.{is_on_map}
use Rattle.osm_base.specs.Place.{place_at, place_if}
use Rattle.osm_base.specs.declared.key.Kind.{Kind}
use Rattle.osm_base.specs.declared.key.Kind.TheVariants as kind
use Rattle.osm_base.specs.declared.key.Key.{Key}
use Rattle.osm_base.specs.declared.members.Member.{Member}
use Rattle.osm_base.specs.declared.content.Content.{Content}
use Rattle.osm_table.specs.declared.told.Told.{Told}
use Rattle.osm_table.specs.declared.told.Told.TheVariants.{Mentioned, Live, Gone}
use Rattle.osm_table.specs.Told.{told_at, IsTold, IsToldMap}
use Rattle.sample_city.specs.City.{as_told, city, content_of, how_many, leg, numbered, origin, place_of, ten_from, told_by}
use Rattle.sample_city.proofs.Allowed.{junction_told, route_told, street_told}
use Rattle.sample_city.proofs.Found.{told_at_key, within}

-- the object of the city that is told of
record IsOf (streets : ℕ) (kind : Kind) (id : ℤ) (t : Told) : Type 0 where
  number : ℕ
  id_is : id ≡ pos number
  low : 1 ≤ number
  high : number ≤ how_many streets kind
  told : as_told (content_of kind number) ≡ t

none_is : {X : Type 0} {A : Type 0} {x : X} → None ≡ Some x → A
none_is e = cc

object_in : (streets : ℕ) (kind : Kind) (id : ℤ) (t : Told) → told_by streets (record { kind = kind; id = id }) ≡ Some t → IsOf streets kind id t
object_in streets kind (pos i) t e = go (nat_le 1 i && nat_le i (how_many streets kind)) refl e
  where
    go : (b : Bool) → (nat_le 1 i && nat_le i (how_many streets kind)) ≡ b → option_map (λ n. as_told (content_of kind n)) (cond b (Some i) None) ≡ Some t
        → IsOf streets kind (pos i) t
    go true is found =
        let bounds = within i (how_many streets kind) is in
        record { number = i; id_is = refl; low = bounds.0; high = bounds.1; told = same_Some _ _ found }
    go false is found = none_is found
object_in streets kind (negsuc i) t e = none_is e

object_of : (streets : ℕ) (key : Key) (t : Told) → told_at (city streets) key ≡ Some t → IsOf streets key.kind key.id t
object_of streets key t e = object_in streets key.kind key.id t (sym (told_at_key streets key) ∙ e)

there : (streets : ℕ) (kind : Kind) (i : ℕ) → 1 ≤ i → i ≤ how_many streets kind → is_some (told_at (city streets) (numbered kind i)) ≡ true
there streets kind i low high =
    let inside : (nat_le 1 i && nat_le i (how_many streets kind)) ≡ true = grind (arith, nat_tests) in
    ap is_some (told_at_key streets (numbered kind i))
    ∙ ap (λ b. is_some (option_map (λ n. as_told (content_of kind n)) (cond b (Some i) None))) inside

nodes_there : (streets a n : ℕ) → 1 ≤ a → a + n ≤ 9 * streets + 2
    → AllByRecursion (λ (r : Key). is_some (told_at (city streets) r) ≡ true) (map node (map pos (range_with_len a n)))
nodes_there streets a zero low high = tt
nodes_there streets a (suc n) low high = (there streets kind.Node a low (omega arith), nodes_there streets (a + 1) n (omega arith) (omega arith))

ways_there : (streets a n : ℕ) → 1 ≤ a → a + n ≤ streets + 1
    → AllByRecursion (λ (r : Key). is_some (told_at (city streets) r) ≡ true) (map (λ (m : Member). m.key) (map leg (map pos (range_with_len a n))))
ways_there streets a zero low high = tt
ways_there streets a (suc n) low high = (there streets kind.Way a low (omega arith), ways_there streets (a + 1) n (omega arith) (omega arith))

refs_there : (streets : ℕ) (kind : Kind) (i : ℕ) → 1 ≤ i → i ≤ how_many streets kind
    → AllByRecursion (λ (r : Key). is_some (told_at (city streets) r) ≡ true) (refs_of (content_of kind i))
unfolding ten_from
refs_there streets kind.Node i low high = tt
refs_there streets kind.Way i low high = nodes_there streets (9 * (i - 1) + 1) 10 (omega arith) (omega arith)
refs_there streets kind.Relation i low high = ways_there streets (10 * (i - 1) + 1) 10 (omega arith) (omega arith)

abbrev content_in : Content → Told → Content
content_in other Mentioned = other
content_in other (Live version content meta) = content
content_in other (Gone version meta) = other

pub led : (streets : ℕ) (key : Key) (content : Content) → told_at (city streets) key ≡ Some (as_told content)
    → AllByRecursion (λ (r : Key). is_some (told_at (city streets) r) ≡ true) (refs_of content)
led streets key content e =
    let o = object_of streets key (as_told content) e in
    let same : content_of key.kind o.number ≡ content = ap (content_in content) o.told in
    subst (λ (c : Content). AllByRecursion (λ (r : Key). is_some (told_at (city streets) r) ≡ true) (refs_of c)) same (refs_there streets key.kind o.number o.low o.high)

allowed : (streets : ℕ) (kind : Kind) (i : ℕ) → streets ≤ 100000 → 1 ≤ i → i ≤ how_many streets kind → IsTold (numbered kind i) (as_told (content_of kind i))
allowed streets kind.Node i few low high = junction_told i low (omega arith)
allowed streets kind.Way i few low high = street_told i low (omega arith)
allowed streets kind.Relation i few low high = route_told i low (omega arith)

pub all_allowed : (streets : ℕ) → streets ≤ 100000 → IsToldMap (city streets).told
all_allowed streets few key t e =
    let o = object_of streets key t e in
    subst (λ (u : Told). IsTold key u) o.told
    (subst (λ (id : ℤ). IsTold (record { kind = key.kind; id = id }) (as_told (content_of key.kind o.number))) (sym o.id_is) (allowed streets key.kind o.number few o.low o.high))

placed : (lon lat : ℤ) (b : Bool) (is : is_on_map lon lat ≡ b) → b ≡ true
    → ((unwrap_or (place_if lon lat b is) origin).lon ≡ lon) × ((unwrap_or (place_if lon lat b is) origin).lat ≡ lat)
placed lon lat true is inside = (refl, refl)
placed lon lat false is inside = absurd (true≢false (sym inside))

pub grid : (k : ℕ) → k ≤ 900001 → ((place_of k).lon ≡ pos ((k - 1) % 1000 * 10000)) × ((place_of k).lat ≡ pos ((k - 1) / 1000 * 10000))
unfolding place_at
grid k few =
    let lon = (k - 1) % 1000 * 10000 in
    let lat = (k - 1) / 1000 * 10000 in
    let east : nat_le lon 1800000000 ≡ true = grind (arith, nat_tests) in
    let north : nat_le lat 900000000 ≡ true = grind (arith, nat_tests) in
    placed (pos lon) (pos lat) (is_on_map (pos lon) (pos lat)) refl (rw (east, north) refl)
