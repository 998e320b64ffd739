-- A table stays sound where an entry that isn't in conflict comes to stand on another base.
use Rattle.std.proofs.Common.{◌≡◌, ℕ, true, false, Option, Some, None, refl, sym, ◌∙◌, ap, subst, inl, inr, IsTrue}
use Rattle.std.proofs.lemmas.Bool.{cases_Bool}
use Rattle.osm_base.specs.Rank.{is_key}
use Rattle.osm_base.specs.Content.{refers, kind_of_content, fits}
use Rattle.osm_base.specs.declared.key.Key.{Key}
use Rattle.osm_base.specs.declared.content.Content.{Content}
use Rattle.osm_base.proofs.RisingKeys.{one_key}
use Rattle.osm_table.specs.declared.entry.Base.{Base}
use Rattle.osm_table.specs.declared.entry.Base.TheVariants.{New, Live, Gone}
use Rattle.osm_table.specs.declared.entry.Entry.{Entry}
use Rattle.osm_table.specs.declared.entry.Entry.TheVariants.{Incomplete, Known}
use Rattle.osm_table.specs.Table.{TableValue, entry_of, with_entry, mine_of, held_by, is_new, uses, IsThere, IfContent, IsPositive}
use Rattle.osm_table.proofs.Each.{each_with, get_with_same, get_with_other}
use Rattle.dataset.specs.Sound.{IsSound, IsSoundEntry, HasVersion, LivesIn, OfKind, FromTheServer}
use Rattle.dataset.proofs.Ids.{base_fits}
use Rattle.upload_order.specs.Bases.{is_based}
use Rattle.upload_order.specs.Kinds.{is_falling}
use Rattle.upload_order.specs.Refused.{is_open}
use Rattle.placeholder.specs.Confirmed.{based_on}
use Rattle.placeholder.proofs.Whole.{all_refs, id_case}

-- a content of the key's kind that refers to ids of servers alone
abbrev pub IsServed : Key → Content → Type 0
IsServed k c = (kind_of_content c ≡ k.kind) × ((r : Key) → refers c r ≡ true → IsPositive r.id)

kind_case : (k : Key) (o : Option Content) → ((c : Content) → o ≡ Some c → IsServed k c) → OfKind k o
kind_case k None h = tt
kind_case k (Some c) h = (h c refl).0

server_case : (k : Key) (o : Option Content) → ((c : Content) → o ≡ Some c → IsServed k c) → FromTheServer o
server_case k None h = tt
server_case k (Some c) h = all_refs (λ r. IsPositive r.id) c (h c refl).1

limit_case : (o : Option Content) → ((c : Content) → o ≡ Some c → fits c ≡ true) → IfContent o (λ c. IsTrue (fits c))
limit_case None h = tt
limit_case (Some c) h = h c refl

settled_entry : (n : ℕ) (k : Key) (e : Entry) (b : Base) → IsSoundEntry n k e → is_open e ≡ false → is_based e ≡ true → is_new b ≡ false → HasVersion b
    → ((c : Content) → held_by b ≡ Some c → IsServed k c) → ((c : Content) → mine_of e ≡ Some c → fits c ≡ true) → IsSoundEntry n k (based_on b (Some e))
settled_entry n k Incomplete b s o x known version served fit = let f : false ≡ true = x in cc
settled_entry n k (Known old m (Some d)) b s o x known version served fit = let f : true ≡ false = o in cc
settled_entry n k (Known old m None) b s o x known version served fit = record {
  id = base_fits n k b m known (id_case n k (Known old m None) s (inr x));
  kinds = (kind_case k (held_by b) served, s.kinds.1, tt);
  server = (server_case k (held_by b) served, tt);
  versions = (version, tt);
  limits = λ changed. limit_case m fit;
  conflict = tt;
}

uses_same : (e : Entry) (b : Base) (r : Key) → uses (based_on b (Some e)) r ≡ uses e r
uses_same Incomplete b r = refl
uses_same (Known old m d) b r = refl

there_same : (e : Entry) (b : Base) → IsThere (Some e) → IsThere (Some (based_on b (Some e)))
there_same Incomplete b h = h
there_same (Known old m d) b h = h

pub settled_sound : (t : TableValue) (k : Key) (e : Entry) (b : Base) → IsSound t → entry_of t k ≡ Some e → is_open e ≡ false → is_based e ≡ true → is_new b ≡ false → HasVersion b
    → ((c : Content) → held_by b ≡ Some c → IsServed k c) → ((c : Content) → mine_of e ≡ Some c → fits c ≡ true) → IsSound (with_entry t k (based_on b (Some e)))
settled_sound t k e b s entry o x known version served fit =
    let e2 = based_on b (Some e) in
    let there : (r : Key) → IsThere (entry_of t r) → IsThere (entry_of (with_entry t k e2) r) = λ r h. elim (cases_Bool (is_key r k)) [
      | inl i ↦ subst (λ (x : Key). IsThere (entry_of (with_entry t k e2) x)) (sym (one_key r k i)) (subst IsThere (sym (get_with_same t k e2)) (there_same e b (subst IsThere (ap (entry_of t) (one_key r k i) ∙ entry) h)))
      | inr i ↦ subst IsThere (sym (get_with_other t k e2 r i)) h
    ] in record {
      entries = each_with (IsSoundEntry t.next) t k e2 s.entries (settled_entry t.next k e b (s.entries k e entry) o x known version served fit);
      closed = each_with (λ j f. LivesIn (with_entry t k e2) f) t k e2 (λ j f has r u. there r (s.closed j f has r u)) (λ r u. there r (s.closed k e entry r (sym (uses_same e b r) ∙ u)));
      number = s.number;
    }

-- the entry that then stands in the table
pub answered_up : (b : Base) (e : Entry) (c : Content) → mine_of e ≡ Some c → is_open e ≡ false → based_on b (Some e) ≡ Known b (Some c) None
answered_up b Incomplete c h o = cc
answered_up b (Known old m None) c h o = ap (λ (x : Option Content). Known b x None) h
answered_up b (Known old m (Some d)) c h o = cc

pub answered_down : (b : Base) (e : Entry) → is_falling e ≡ true → is_open e ≡ false → based_on b (Some e) ≡ Known b None None
answered_down b Incomplete h o = cc
answered_down b (Known New m d) h o = cc
answered_down b (Known (Live v x n) None None) h o = refl
answered_down b (Known (Live v x n) None (Some d)) h o = cc
answered_down b (Known (Live v x n) (Some c) d) h o = cc
answered_down b (Known (Gone v n) m d) h o = cc
