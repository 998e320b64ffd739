-- What the city tells of a key.
use Rattle.std.proofs.Common.{◌≡◌, ◌∙◌, ◌+◌, ◌*◌, ◌/◌, ◌≤◌, ◌<◌, ◌&&◌, ℕ, ℤ, Bool, true, false, cond, pos, negsuc, suc, zero, nat_le, List, [], ◌∷◌, ◌++◌, Option, Some, None, option_map, refl, sym, ap, ap₂, subst, arith, inl, inr}
use Rattle.std.specs.Option.{option_or}
use Rattle.std.specs.FinMap as fin
use Rattle.std.proofs.lemmas.Bool.{cases_lt}
use Rattle.std.proofs.lemmas.Bool.Decides.{nat_tests}
use Rattle.osm_base.specs.Rank.{rank_cmp, is_key}
use Rattle.osm_base.specs.RankLaws.{rank_total}
use Rattle.osm_base.specs.declared.key.Kind.{Kind}
use Rattle.osm_base.specs.declared.key.Kind.TheVariants as kind
use Rattle.osm_base.specs.declared.key.Key.{Key}
use Rattle.osm_base.specs.declared.content.Content.{Content}
use Rattle.osm_base.proofs.RisingKeys.{one_key, key_itself}
use Rattle.osm_base.proofs.Tests.{option_or-assoc, option_or-none, cond-option_or}
use Rattle.osm_table.specs.declared.told.Told.{Told}
use Rattle.osm_table.specs.Told.{ToldValue, told_at, with_told}
use Rattle.sample_city.specs.City.{all_of, all_told, as_told, city, junction, number_in, numbered, objects, route, street, told_by}
use Rattle.sample_city.proofs.Rows.{row}

-- what the last object of the key tells, if there is one
abbrev telling : List (Key × Content) → Key → Option Told
telling [] k = None
telling (o ∷ os) k = option_or (telling os k) (cond (is_key k o.0) (Some (as_told o.1)) None)

told_all : (os : List (Key × Content)) (m : ToldValue) (k : Key) → told_at (all_told m os) k ≡ option_or (telling os k) (told_at m k)
told_all [] m k = refl
told_all (o ∷ os) m k =
    told_all os (with_told m o.0 (as_told o.1)) k
    ∙ ap (option_or (telling os k)) (fin.get-insert rank_total m.told o.0 (as_told o.1) k ∙ cond-option_or (is_key k o.0) (as_told o.1) (told_at m k))
    ∙ option_or-assoc (telling os k) (cond (is_key k o.0) (Some (as_told o.1)) None) (told_at m k)

telling_both : (xs ys : List (Key × Content)) (k : Key) → telling (xs ++ ys) k ≡ option_or (telling ys k) (telling xs k)
telling_both [] ys k = sym (option_or-none (telling ys k))
telling_both (x ∷ xs) ys k =
    ap (λ o. option_or o (cond (is_key k x.0) (Some (as_told x.1)) None)) (telling_both xs ys k)
    ∙ sym (option_or-assoc (telling ys k) (telling xs k) (cond (is_key k x.0) (Some (as_told x.1)) None))

-- A row.

pub within : (i n : ℕ) → (nat_le 1 i && nat_le i n) ≡ true → (1 ≤ i) × (i ≤ n)
within i n e = grind (arith, nat_tests, e)

outside : (i n : ℕ) → (nat_le 1 i && nat_le i n) ≡ false → 1 ≤ i → i < 1 + n → ⊥
outside i n e low high = let yes : (nat_le 1 i && nat_le i n) ≡ true = grind (arith, nat_tests) in cc

other_key : (j k : Key) → (j ≡ k → ⊥) → is_key j k ≡ false
other_key j k differ = go (is_key j k) refl
  where
    go : (b : Bool) → is_key j k ≡ b → is_key j k ≡ false
    go true e = absurd (differ (one_key j k e))
    go false e = e

missed : (kind : Kind) (content : ℕ → Content) (a n : ℕ) (k : Key) → ((i : ℕ) → a ≤ i → i < a + n → k ≡ numbered kind i → ⊥) → telling (row kind content a n) k ≡ None
missed kind content a zero k differ = refl
missed kind content a (suc n) k differ =
    let later = missed kind content (a + 1) n k (λ i low high. differ i (omega arith) (omega arith)) in
    let here = other_key k (numbered kind a) (differ a (omega arith) (omega arith)) in
    rw (later, here) refl

same_number : {kind : Kind} {i j : ℕ} → numbered kind i ≡ numbered kind j → i ≡ j
same_number e = number (ap (λ (k : Key). k.id) e)
  where
    number : {i j : ℕ} → pos i ≡ pos j → i ≡ j
    number e = cc

hit : (kind : Kind) (content : ℕ → Content) (a n i : ℕ) → a ≤ i → i < a + n → telling (row kind content a n) (numbered kind i) ≡ Some (as_told (content i))
hit kind content a zero i low high = absurd (omega arith)
hit kind content a (suc n) i low high = elim (cases_lt a i) [
  | inl above ↦ rw (hit kind content (a + 1) n i (omega arith) (omega arith)) refl
  | inr below ↦
      let is : i ≡ a = omega arith in
      subst (λ (j : ℕ). telling (row kind content a (suc n)) (numbered kind j) ≡ Some (as_told (content j))) (sym is) first
]
  where
    first : telling (row kind content a (suc n)) (numbered kind a) ≡ Some (as_told (content a))
    first =
        let later = missed kind content (a + 1) n (numbered kind a) (λ j low high e. let same : a ≡ j = same_number e in omega arith) in
        rw (later, key_itself (numbered kind a)) refl

row_found : (kind : Kind) (content : ℕ → Content) (n : ℕ) (id : ℤ)
    → telling (all_of kind content n) (record { kind = kind; id = id }) ≡ option_map (λ i. as_told (content i)) (number_in n id)
row_found kind content n (pos i) = go (nat_le 1 i && nat_le i n) refl
  where
    go : (b : Bool) → (nat_le 1 i && nat_le i n) ≡ b → telling (row kind content 1 n) (numbered kind i) ≡ option_map (λ i. as_told (content i)) (cond b (Some i) None)
    go true e = let w = within i n e in hit kind content 1 n i w.0 (omega arith)
    go false e = missed kind content 1 n (numbered kind i) (λ j low high same. outside i n e (subst (λ (m : ℕ). 1 ≤ m) (sym (same_number same)) low) (subst (λ (m : ℕ). m < 1 + n) (sym (same_number same)) high))
row_found kind content n (negsuc i) = missed kind content 1 n (record { kind = kind; id = negsuc i }) (λ j low high e. let h : negsuc i ≡ pos j = ap (λ (k : Key). k.id) e in cc)

row_other : (kind : Kind) (content : ℕ → Content) (n : ℕ) (k : Key) → (k.kind ≡ kind → ⊥) → telling (all_of kind content n) k ≡ None
row_other kind content n k differ = missed kind content 1 n k (λ i low high e. differ (ap (λ (j : Key). j.kind) e))

-- All rows.

city_found : (streets : ℕ) (k : Key) → told_at (city streets) k
    ≡ option_or (option_or (telling (all_of kind.Relation route (streets / 10)) k) (telling (all_of kind.Way street streets) k)) (telling (all_of kind.Node junction (9 * streets + 1)) k)
city_found streets k =
    let nodes = all_of kind.Node junction (9 * streets + 1) in
    let ways = all_of kind.Way street streets in
    let routes = all_of kind.Relation route (streets / 10) in
    told_all (objects streets) (record { told = fin.empty; order = [] }) k
    ∙ ap (option_or (telling (objects streets) k)) (fin.get-empty rank_cmp k)
    ∙ option_or-none (telling (objects streets) k)
    ∙ telling_both nodes (ways ++ routes) k
    ∙ ap (λ o. option_or o (telling nodes k)) (telling_both ways routes k)

of_kind : (streets : ℕ) (kind : Kind) (id : ℤ) → told_at (city streets) (record { kind = kind; id = id }) ≡ told_by streets (record { kind = kind; id = id })
of_kind streets kind.Node id =
    let k : Key = record { kind = kind.Node; id = id } in
    city_found streets k
    ∙ ap (λ o. option_or o (telling (all_of kind.Node junction (9 * streets + 1)) k))
    (ap₂ option_or (row_other kind.Relation route (streets / 10) k (λ e. cc)) (row_other kind.Way street streets k (λ e. cc)))
    ∙ row_found kind.Node junction (9 * streets + 1) id
of_kind streets kind.Way id =
    let k : Key = record { kind = kind.Way; id = id } in
    city_found streets k
    ∙ ap₂ option_or
    (ap₂ option_or (row_other kind.Relation route (streets / 10) k (λ e. cc)) (row_found kind.Way street streets id))
    (row_other kind.Node junction (9 * streets + 1) k (λ e. cc))
    ∙ option_or-none _
of_kind streets kind.Relation id =
    let k : Key = record { kind = kind.Relation; id = id } in
    city_found streets k
    ∙ ap₂ option_or
    (ap₂ option_or (row_found kind.Relation route (streets / 10) id) (row_other kind.Way street streets k (λ e. cc)) ∙ option_or-none _)
    (row_other kind.Node junction (9 * streets + 1) k (λ e. cc))
    ∙ option_or-none _

pub told_at_key : (streets : ℕ) (key : Key) → told_at (city streets) key ≡ told_by streets key
told_at_key streets key = of_kind streets key.kind key.id
