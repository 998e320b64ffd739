-- What the upload takes of a sound table.
use Rattle.std.proofs.Common.{◌≡◌, ℕ, ℤ, pos, negsuc, true, false, Option, Some, None, List, [], ◌∷◌, refl, ◌∙◌, ap, subst, ◌⊎◌, inl, inr, arith}
use Rattle.std.specs.Prelude.{IsSome}
use Rattle.std.specs.List.{AllByRecursion}
use Rattle.std.specs.Option.{option_map_or}
use Rattle.std.proofs.lemmas.Bool.{lt-ltb}
use Rattle.osm_base.specs.Content.{refs_of, refers, kind_of_content, fits}
use Rattle.osm_base.specs.declared.key.Key.{Key}
use Rattle.osm_base.specs.declared.content.Content.{Content}
use Rattle.osm_table.specs.declared.entry.Base.TheVariants.{New, Live, Gone}
use Rattle.osm_table.specs.declared.entry.Entry.{Entry}
use Rattle.osm_table.specs.declared.entry.Entry.TheVariants.{Incomplete, Known}
use Rattle.osm_table.specs.Table.{TableValue, entry_of, mine_of, held_by, is_new, IsThere, IfContent, IsPositive, is_incomplete}
use Rattle.dataset.specs.Sound.{IsSound, IsSoundEntry, IsGiven}
use Rattle.upload_order.specs.Kinds.{held_of}
use Rattle.upload_order.specs.Rename.{is_positive}
use Rattle.upload_order.proofs.Changed.{changed_up}
use Rattle.upload_order.proofs.Entries.{IsIn, any_in}
use Rattle.upload_order.specs.Bases.{base_in, is_based}
use Rattle.upload_order.proofs.Conditions.{Sound}

pub there_case : (o : Option Entry) → IsThere o → (option_map_or is_incomplete o false ≡ true) ⊎ ((f : Entry) × (d : Content) × (o ≡ Some f) × (mine_of f ≡ Some d))
there_case None h = absurd h
there_case (Some Incomplete) h = inl refl
there_case (Some (Known b None d)) h = let e : false ≡ true = h in cc
there_case (Some (Known b (Some c) d)) h = inr (Known b (Some c) d, c, refl, refl)

pub if_content : (P : Content → Type 0) (o : Option Content) (c : Content) → o ≡ Some c → IfContent o P → P c
if_content P o c e h = subst (λ (x : Option Content). IfContent x P) e h

pub positive_is : (i : ℤ) → IsPositive i → is_positive i ≡ true
positive_is (pos n) h = lt-ltb 0 n (omega (arith, h.0))
positive_is (negsuc n) h = absurd h

pub given_is : (n : ℕ) (i : ℤ) → IsGiven n i → is_positive i ≡ false
given_is n (pos i) h = absurd h
given_is n (negsuc i) h = refl

pub some_is : (o : Option Content) → IsSome o → (c : Content) × (o ≡ Some c)
some_is None h = let e : false ≡ true = h in cc
some_is (Some c) h = (c, refl)

pub all_in : (P : Key → Type 0) (ks : List Key) (r : Key) → AllByRecursion P ks → IsIn r ks → P r
all_in P [] r h i = absurd i
all_in P (k ∷ ks) r h (inl e) = subst P e h.0
all_in P (k ∷ ks) r h (inr i) = all_in P ks r h.1 i

pub kinds_case : (n : ℕ) (k : Key) (e : Entry) (c : Content) → IsSoundEntry n k e → (mine_of e ≡ Some c) ⊎ (held_of e ≡ Some c) → kind_of_content c ≡ k.kind
kinds_case n k Incomplete c s (inl h) = cc
kinds_case n k Incomplete c s (inr h) = cc
kinds_case n k (Known b m d) c s (inl h) = if_content (λ c. kind_of_content c ≡ k.kind) m c h s.kinds.1
kinds_case n k (Known b m d) c s (inr h) = if_content (λ c. kind_of_content c ≡ k.kind) (held_by b) c h s.kinds.0

pub positive_case : (n : ℕ) (k : Key) (e : Entry) → IsSoundEntry n k e → (is_incomplete e ≡ true) ⊎ (is_based e ≡ true) → is_positive k.id ≡ true
positive_case n k Incomplete s h = positive_is k.id s.id
positive_case n k (Known New m d) s (inl h) = cc
positive_case n k (Known New m d) s (inr h) = cc
positive_case n k (Known (Live v b x) m d) s h = positive_is k.id s.id
positive_case n k (Known (Gone v x) m d) s h = positive_is k.id s.id

pub negative_case : (n : ℕ) (k : Key) (e : Entry) → IsSoundEntry n k e → is_new (base_in e) ≡ true → is_incomplete e ≡ false → (is_positive k.id ≡ false) × ((c : Content) × (mine_of e ≡ Some c))
negative_case n k Incomplete s h i = cc
negative_case n k (Known New m d) s h i = (given_is n k.id s.id.0, some_is m s.id.1)
negative_case n k (Known (Live v b x) m d) s h i = cc
negative_case n k (Known (Gone v x) m d) s h i = cc

pub held_case : (n : ℕ) (k r : Key) (e : Entry) (c : Content) → IsSoundEntry n k e → held_of e ≡ Some c → refers c r ≡ true → is_positive r.id ≡ true
held_case n k r Incomplete c s h f = cc
held_case n k r (Known b m d) c s h f = positive_is r.id (all_in (λ r. IsPositive r.id) (refs_of c) r (if_content (λ c. AllByRecursion (λ r. IsPositive r.id) (refs_of c)) (held_by b) c h s.server.0) (any_in (refs_of c) r f))

pub sound_of : (t : TableValue) → IsSound t → Sound t
sound_of t s = record {
  refs = λ k r e c h m f. there_case (entry_of t r) (s.closed k e h r (ap (λ (o : Option Content). option_map_or (λ c. refers c r) o false) m ∙ f));
  kinds = λ k e c h m. kinds_case t.next k e c (s.entries k e h) m;
  positive = λ k e h i. positive_case t.next k e (s.entries k e h) i;
  negative = λ k e h n i. negative_case t.next k e (s.entries k e h) n i;
  held_refs = λ k r e c h b f. held_case t.next k r e c (s.entries k e h) b f;
  fit = λ k e c h m u. if_content (λ c. fits c ≡ true) (mine_of e) c m ((s.entries k e h).limits (changed_up e u));
}
