-- What a sound table says of the entries of its changes.
use Rattle.std.proofs.Common.{◌≡◌, ℕ, Bool, true, false, List, [], ◌∷◌, Option, Some, None, refl, sym, ◌∙◌, ap, subst, ◌⊎◌, inl, inr}
use Rattle.std.specs.List.{AllByRecursion}
use Rattle.std.specs.Option.{option_map_or}
use Rattle.osm_base.specs.Content.{refers, refs_of}
use Rattle.osm_base.specs.declared.key.Key.{Key}
use Rattle.osm_base.specs.declared.content.Content.{Content}
use Rattle.osm_base.proofs.Tests.{never}
use Rattle.osm_table.specs.declared.entry.Base.TheVariants.{New, Live, Gone}
use Rattle.osm_table.specs.declared.entry.Entry.{Entry}
use Rattle.osm_table.specs.declared.entry.Entry.TheVariants.{Incomplete, Known}
use Rattle.osm_table.specs.Table.{TableValue, entry_of, mine_of, is_incomplete, IsPositive, IsThere}
use Rattle.dataset.specs.Sound.{IsSound, IsSoundEntry}
use Rattle.upload_order.specs.Bases.{is_based}
use Rattle.upload_order.specs.Kinds.{is_rising, is_falling, at_key}
use Rattle.upload_order.proofs.Entries.{IsIn, in_any}
use Rattle.upload_order.proofs.Static.{IsOrdered, next}
use Rattle.upload_order.proofs.Basics.{both}

pub all_from : (P : Key → Type 0) (ks : List Key) → ((r : Key) → IsIn r ks → P r) → AllByRecursion P ks
all_from P [] h = tt
all_from P (k ∷ ks) h = (h k (inl refl), all_from P ks (λ r i. h r (inr i)))

-- references as a list
pub all_refs : (P : Key → Type 0) (c : Content) → ((r : Key) → refers c r ≡ true → P r) → AllByRecursion P (refs_of c)
all_refs P c h = all_from P (refs_of c) (λ r i. h r (in_any (refs_of c) r i))

-- what isn't new has an id that a server gave
pub id_case : (n : ℕ) (k : Key) (e : Entry) → IsSoundEntry n k e → (is_incomplete e ≡ true) ⊎ (is_based e ≡ true) → IsPositive k.id
id_case n k Incomplete s h = s.id
id_case n k (Known New m d) s (inl h) = let f : false ≡ true = h in cc
id_case n k (Known New m d) s (inr h) = let f : false ≡ true = h in cc
id_case n k (Known (Live v b x) m d) s h = s.id
id_case n k (Known (Gone v x) m d) s h = s.id

pub given_id : (t : TableValue) → IsSound t → (k : Key) (e : Entry) → entry_of t k ≡ Some e → (is_incomplete e ≡ true) ⊎ (is_based e ≡ true) → IsPositive k.id
given_id t s k e h x = id_case t.next k e (s.entries k e h) x

-- there, in either word
abbrev pub Stands : TableValue → Key → Type 0
Stands t r = (at_key t is_incomplete r ≡ true) ⊎ ((f : Entry) × (d : Content) × (entry_of t r ≡ Some f) × (mine_of f ≡ Some d))

some_there : (f : Entry) (d : Content) → mine_of f ≡ Some d → IsThere (Some f)
some_there Incomplete d h = tt
some_there (Known b None c) d h = cc
some_there (Known b (Some x) c) d h = refl

stands_case : (o : Option Entry) → option_map_or is_incomplete o false ≡ true → IsThere o
stands_case None h = let f : false ≡ true = h in cc
stands_case (Some Incomplete) h = tt
stands_case (Some (Known b m c)) h = let f : false ≡ true = h in cc

pub stands_there : (t : TableValue) (r : Key) → Stands t r → IsThere (entry_of t r)
stands_there t r (inl h) = stands_case (entry_of t r) h
stands_there t r (inr h) = subst IsThere (sym h.2) (some_there h.0 h.1 h.3)

pub used_ref : (o : Option Content) (r : Key) → option_map_or (λ c. refers c r) o false ≡ true → (c : Content) × (o ≡ Some c) × (refers c r ≡ true)
used_ref None r h = cc
used_ref (Some c) r h = (c, refl, h)

-- Kinds of change.

-- what comes first refers to nothing that is new
pub first_calm : (t : TableValue) (done last : Key → Bool) (k : Key) (ks : List Key) → IsOrdered t done (k ∷ ks) last → (e : Entry) (c : Content) → entry_of t k ≡ Some e → mine_of e ≡ Some c
    → (r : Key) → refers c r ≡ true → at_key t is_rising r ≡ true → done r ≡ false → ⊥
first_calm t done last k ks (next d l x js f b u free before a) e c h m r g i n =
    let one : e ≡ f = both e f (entry_of t k) h u.entry in
    let two : c ≡ b = both c b (mine_of f) (ap mine_of (sym one) ∙ m) u.mine in
    never (d r) (before r (subst (λ (x : Content). refers x r ≡ true) two g) i) n

pub falling_none : (e : Entry) → is_falling e ≡ true → mine_of e ≡ None
falling_none Incomplete h = cc
falling_none (Known New m d) h = cc
falling_none (Known (Live v b n) None d) h = refl
falling_none (Known (Live v b n) (Some c) d) h = cc
falling_none (Known (Gone v n) m d) h = cc
