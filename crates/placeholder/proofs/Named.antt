-- The placeholders that were answered, beside the table that is confirmed.
use Rattle.std.proofs.Common.{◌≡◌, ◌+◌, ℤ, true, false, List, [], ◌∷◌, map, Option, Some, None, refl, sym, ◌∙◌, ap, subst, inl, inr}
use Rattle.std.proofs.lemmas.Bool.{cases_Bool}
use Rattle.osm_base.specs.Rank.{is_key}
use Rattle.osm_base.specs.Meta.{empty_meta}
use Rattle.osm_base.specs.declared.key.Key.{Key}
use Rattle.osm_base.proofs.RisingKeys.{one_key}
use Rattle.osm_base.proofs.Tests.{never}
use Rattle.osm_table.specs.declared.entry.Base.TheVariants.{Live, Gone}
use Rattle.osm_table.specs.declared.entry.Entry.{Entry}
use Rattle.osm_table.specs.Table.{TableValue, entry_of}
use Rattle.upload_order.specs.declared.change.Change.{Change}
use Rattle.upload_order.specs.declared.change.Change.TheVariants.{Create, Modify, Delete}
use Rattle.upload_order.specs.Rename.{Names, named, called, with_id, is_positive}
use Rattle.renamed_content.specs.Renamed.{renamed}
use Rattle.upload_order.proofs.Basics.{none_some, both}
use Rattle.placeholder.specs.Confirmed.{moved, based_on, moved_change, named_by, confirmed}
use Rattle.placeholder.specs.Resumed.{left_after}
use Rattle.placeholder.proofs.LookUps.{made_none, made_gone, set_none}
use Rattle.placeholder.proofs.Names.{AreGiven, head_name, tail_name, called_more, changes_once}
use Rattle.placeholder.proofs.Resumed.{IsKnownIn}

-- The names are of ids that a server gave, and their placeholders are gone from the table.
pub record AreNamed (ns : Names) (t : TableValue) : Type 0 where
  pub given : AreGiven ns
  pub gone : (r : Key) (p : ℤ) → named ns r ≡ Some p → is_positive r.id ≡ false → entry_of t r ≡ None

pub none_named : (t : TableValue) → AreNamed [] t
none_named t = record { given = λ r p h. cc; gone = λ r p h n. cc }

-- an object that is made gets an id that a server gives
abbrev pub IsGivenTo : Change → ℤ → Type 0
IsGivenTo (Create k c) p = is_positive p ≡ true
IsGivenTo (Modify k v c) p = Unit {0}
IsGivenTo (Delete k v) p = Unit {0}

pub known_moved : (f : Key → Key) (t : TableValue) (c : Change) → IsKnownIn t (moved_change f c) → IsKnownIn t c
known_moved f t (Create k c) h = h
known_moved f t (Modify k v c) h = h
known_moved f t (Delete k v) h = h

-- a key that a server gave is no placeholder
not_given : (r q : Key) → is_positive r.id ≡ false → is_positive q.id ≡ true → is_key r q ≡ false
not_given r q n p = elim (cases_Bool (is_key r q)) [ inl i ↦ never (is_positive q.id) p (ap (λ (x : Key). is_positive x.id) (sym (one_key r q i)) ∙ n) | inr i ↦ i ]

no_name : (ns : Names) (t : TableValue) (k : Key) (e : Entry) → AreNamed ns t → is_positive k.id ≡ false → entry_of t k ≡ Some e → named ns k ≡ None
no_name ns t k e a n h = by_name (named ns k) refl where
  by_name : (o : Option ℤ) → named ns k ≡ o → o ≡ None
  by_name None x = refl
  by_name (Some p) x = none_some e (entry_of t k) (a.gone k p x n) h

pub named_again : (f : Key → Key) (ns : Names) (t : TableValue) (c : Change) (p : ℤ) → AreNamed ns t → IsKnownIn t c → IsGivenTo c p → AreNamed (named_by c p ns) (confirmed t (moved_change f c) p)
named_again f ns t (Create k c) p a known positive = record {
  given = λ r x h. elim (cases_Bool (is_key r k)) [
    | inl i ↦ subst (λ y. is_positive y ≡ true) (both p x (named ((k, p) ∷ ns) r) (head_name k p ns r i) h) positive
    | inr i ↦ a.given r x (sym (tail_name k p ns r i) ∙ h)
  ];
  gone = λ r x h n.
      let away = not_given r (with_id k p) n positive in
      elim (cases_Bool (is_key r k)) [
        | inl i ↦ made_gone t k (renamed f c) p r away i
        | inr i ↦ made_none t k (renamed f c) p r away (a.gone r x (sym (tail_name k p ns r i) ∙ h) n)
      ];
}
named_again f ns t (Modify k v c) p a known positive = record {
  given = a.given;
  gone = λ r x h n. set_none t k r known.0 (based_on (Live (v + 1) (renamed f c) empty_meta) (entry_of t k)) known.1 (a.gone r x h n);
}
named_again f ns t (Delete k v) p a known positive = record {
  given = a.given;
  gone = λ r x h n. set_none t k r known.0 (based_on (Gone (v + 1) empty_meta) (entry_of t k)) known.1 (a.gone r x h n);
}

pub left_again : (ns : Names) (t : TableValue) (c : Change) (p : ℤ) (cs : List Change) → AreNamed ns t → IsKnownIn t c → left_after (moved_change (called ns) c) p (map (moved_change (called ns)) cs) ≡ map (moved_change (called (named_by c p ns))) cs
left_again ns t (Create k c) p cs a known = changes_once (moved k p) ns (called ((k, p) ∷ ns)) (called_more k p ns a.given (no_name ns t k known.1.0 a known.0 known.1.1)) cs
left_again ns t (Modify k v c) p cs a known = refl
left_again ns t (Delete k v) p cs a known = refl
