-- Names given one after the other are names given at once.
use Rattle.std.proofs.Common.{◌≡◌, ◌+◌, ℤ, Bool, true, false, cond, List, [], ◌∷◌, map, Option, Some, None, refl, sym, ◌∙◌, ap, inl, inr}
use Rattle.std.proofs.lemmas.Bool.{cases_Bool}
use Rattle.std.specs.Option.{unwrap_or}
use Rattle.std.specs.FinMap as fin
use Rattle.osm_base.specs.Rank.{is_key}
use Rattle.osm_base.specs.Content.{node}
use Rattle.osm_base.specs.declared.key.Key.{Key}
use Rattle.osm_base.specs.declared.members.Member.{Member}
use Rattle.osm_base.specs.declared.content.Content.{Content}
use Rattle.osm_base.specs.declared.content.Content.TheVariants as content
use Rattle.osm_base.proofs.RisingKeys.{one_key}
use Rattle.upload_order.specs.declared.change.Change.{Change}
use Rattle.upload_order.specs.declared.change.Change.TheVariants.{Create, Modify, Delete}
use Rattle.upload_order.specs.Rename.{Names, named, with_id, called, is_positive}
use Rattle.renamed_content.specs.Renamed.{renamed}
use Rattle.upload_order.specs.World.{World, WorldEntry, put_in, after}
use Rattle.upload_order.proofs.Basics.{none_some}
use Rattle.upload_order.proofs.Renaming.{renamed_same, renamed_itself}
use Rattle.placeholder.specs.Confirmed.{moved, moved_change}

-- a key that a server gave means itself
pub called_self : (ns : Names) (r : Key) → is_positive r.id ≡ true → called ns r ≡ r
called_self ns r e = λ i. with_id r (unwrap_or (cond (e i) (Some r.id) (named ns r)) r.id)

-- and so does one without a name
pub called_none : (ns : Names) (r : Key) → named ns r ≡ None → called ns r ≡ r
called_none ns r e = (λ i. with_id r (unwrap_or (cond (is_positive r.id) (Some r.id) (e i)) r.id)) ∙ stays (is_positive r.id) where
  stays : (b : Bool) → with_id r (unwrap_or (cond b (Some r.id) None) r.id) ≡ r
  stays true = refl
  stays false = refl

pub called_named : (ns : Names) (r : Key) (p : ℤ) → is_positive r.id ≡ false → named ns r ≡ Some p → called ns r ≡ with_id r p
called_named ns r p e n = λ i. with_id r (unwrap_or (cond (e i) (Some r.id) (n i)) r.id)

-- a placeholder with a name, or a key that means itself
pub data Meaning (ns : Names) (r : Key) : Type 0 where
  itself : called ns r ≡ r → Meaning ns r
  given : (p : ℤ) → is_positive r.id ≡ false → named ns r ≡ Some p → Meaning ns r

pub meaning : (ns : Names) (r : Key) → Meaning ns r
meaning ns r = by_name (named ns r) refl where
  by_name : (o : Option ℤ) → named ns r ≡ o → Meaning ns r
  by_name None e = itself (called_none ns r e)
  by_name (Some p) e = elim (cases_Bool (is_positive r.id)) [ inl h ↦ itself (called_self ns r h) | inr h ↦ given p h e ]

-- the names are of ids that a server gave
abbrev pub AreGiven : Names → Type 0
AreGiven ns = (r : Key) (p : ℤ) → named ns r ≡ Some p → is_positive p ≡ true

-- one names has what the other has
abbrev pub AreAmong : Names → Names → Type 0
AreAmong ns ms = (r : Key) (p : ℤ) → named ns r ≡ Some p → named ms r ≡ Some p

-- who has names and gets more doesn't see whether some were used before
pub called_twice : (ns ms : Names) → AreGiven ns → AreAmong ns ms → (r : Key) → called ms (called ns r) ≡ called ms r
called_twice ns ms positive among r = elim (meaning ns r) [
  | itself e ↦ ap (called ms) e
  | given p e n ↦ ap (called ms) (called_named ns r p e n) ∙ called_self ms (with_id r p) (positive r p n) ∙ sym (called_named ms r p e (among r p n))
]

pub head_name : (k : Key) (p : ℤ) (ns : Names) (r : Key) → is_key r k ≡ true → named ((k, p) ∷ ns) r ≡ Some p
head_name k p ns r e = ap (λ b. cond b (Some p) (named ns r)) e

pub tail_name : (k : Key) (p : ℤ) (ns : Names) (r : Key) → is_key r k ≡ false → named ((k, p) ∷ ns) r ≡ named ns r
tail_name k p ns r e = ap (λ b. cond b (Some p) (named ns r)) e

-- one name more
pub called_more : (k : Key) (p : ℤ) (ns : Names) → AreGiven ns → named ns k ≡ None → (r : Key) → moved k p (called ns r) ≡ called ((k, p) ∷ ns) r
called_more k p ns positive new r = elim (meaning ns r) [
  | given x e n ↦ (
      let away : is_key r k ≡ false = elim (cases_Bool (is_key r k)) [ inl i ↦ none_some x (named ns k) new (ap (named ns) (sym (one_key r k i)) ∙ n) | inr i ↦ i ] in
      ap (moved k p) (called_named ns r x e n) ∙ called_self ((k, p) ∷ []) (with_id r x) (positive r x n)
      ∙ sym (called_named ((k, p) ∷ ns) r x e (tail_name k p ns r away ∙ n)))
  | itself e ↦ ap (moved k p) e ∙ (elim (cases_Bool (is_positive r.id)) [
    | inl h ↦ called_self ((k, p) ∷ []) r h ∙ sym (called_self ((k, p) ∷ ns) r h)
    | inr h ↦ (elim (cases_Bool (is_key r k)) [
      | inl i ↦ called_named ((k, p) ∷ []) r p h (head_name k p [] r i) ∙ sym (called_named ((k, p) ∷ ns) r p h (head_name k p ns r i))
      | inr i ↦ (
          let old : called ((k, p) ∷ ns) r ≡ called ns r = λ l. with_id r (unwrap_or (cond (is_positive r.id) (Some r.id) (tail_name k p ns r i l)) r.id) in
          called_none ((k, p) ∷ []) r (tail_name k p [] r i) ∙ sym e ∙ sym old)
    ])
  ])
]

module _ (f : Key → Key) (ns : Names) where
  way_twice : (is : List ℤ) → map (λ i. (f (node i)).id) (map (λ i. (called ns (node i)).id) is) ≡ map (λ i. (f (called ns (node i))).id) is
  way_twice [] = refl
  way_twice (i ∷ is) = ap (λ (js : List ℤ). (f (called ns (node i))).id ∷ js) (way_twice is)

  members_twice : (ms : List Member) → map (λ m. let n : Member = record { key = f m.key; role = m.role } in n) (map (λ m. let n : Member = record { key = called ns m.key; role = m.role } in n) ms)
      ≡ map (λ m. let n : Member = record { key = f (called ns m.key); role = m.role } in n) ms
  members_twice [] = refl
  members_twice (m ∷ ms) = ap (λ (xs : List Member). (let n : Member = record { key = f (called ns m.key); role = m.role } in n) ∷ xs) (members_twice ms)

  renamed_twice : (c : Content) → renamed f (renamed (called ns) c) ≡ renamed (λ r. f (called ns r)) c
  renamed_twice (content.Node tags at) = refl
  renamed_twice (content.Way tags refs) = ap (λ (is : List ℤ). content.Way tags is) (way_twice refs)
  renamed_twice (content.Relation tags members) = ap (λ (ms : List Member). content.Relation tags ms) (members_twice members)

  module _ (g : Key → Key) (same : (r : Key) → f (called ns r) ≡ g r) where
    pub renamed_once : (c : Content) → renamed f (renamed (called ns) c) ≡ renamed g c
    renamed_once c = renamed_twice c ∙ renamed_same (λ r. f (called ns r)) g c (λ r h. same r)

    change_once : (c : Change) → moved_change f (moved_change (called ns) c) ≡ moved_change g c
    change_once (Create k c) = ap (λ (d : Content). Create k d) (renamed_once c)
    change_once (Modify k v c) = ap (λ (d : Content). Modify k v d) (renamed_once c)
    change_once (Delete k v) = refl

    pub changes_once : (cs : List Change) → map (moved_change f) (map (moved_change (called ns)) cs) ≡ map (moved_change g) cs
    changes_once [] = refl
    changes_once (c ∷ cs) = λ i. change_once c i ∷ changes_once cs i

-- without names a change stays
change_stays : (c : Change) → moved_change (called []) c ≡ c
change_stays (Create k c) = ap (λ (d : Content). Create k d) (renamed_itself (called []) c (λ r h. called_none [] r refl))
change_stays (Modify k v c) = ap (λ (d : Content). Modify k v d) (renamed_itself (called []) c (λ r h. called_none [] r refl))
change_stays (Delete k v) = refl

pub changes_stay : (cs : List Change) → map (moved_change (called [])) cs ≡ cs
changes_stay [] = refl
changes_stay (c ∷ cs) = λ i. change_stays c i ∷ changes_stay cs i

-- a server that has names doesn't see whether some were used before
pub after_same : (w : World) (ns : Names) → AreGiven ns → AreAmong ns w.names → (c : Change) (p : ℤ) → after w (moved_change (called ns) c) p ≡ after w c p
after_same w ns positive among (Create k c) p =
    let same = renamed_once (called w.names) ns (called w.names) (called_twice ns w.names positive among) c in
    λ i. record { entries = fin.insert w.entries (with_id k p) (let x : WorldEntry = record { version = 1; content = Some (same i) } in x); names = (k, p) ∷ w.names }
after_same w ns positive among (Modify k v c) p =
    ap (λ (d : Content). put_in w (called w.names k) (v + 1) (Some d)) (renamed_once (called w.names) ns (called w.names) (called_twice ns w.names positive among) c)
after_same w ns positive among (Delete k v) p = refl
