-- The plan of an upload brings what is edited, and nothing else.
use Rattle.std.proofs.Common.{◌≡◌, ◌⊎◌, ℕ, Bool, true, false, cond, is_some, List, [], ◌∷◌, ◌++◌, map, Option, Some, None, refl, sym, ap, ◌∙◌, subst, inl, inr}
use Rattle.std.proofs.lemmas.Bool.{true≢false, or_right}
use Rattle.std.specs.List.{AllByRecursion}
use Rattle.osm_base.specs.Rank.{is_key}
use Rattle.osm_base.specs.declared.key.Key.{Key}
use Rattle.osm_base.specs.declared.content.Content.{Content}
use Rattle.osm_base.proofs.Lists.{all_joined}
use Rattle.osm_base.proofs.RisingKeys.{one_key}
use Rattle.osm_table.specs.declared.entry.Base.{Base}
use Rattle.osm_table.specs.declared.entry.Base.TheVariants.{New, Live, Gone}
use Rattle.osm_table.specs.declared.entry.Conflict.{Conflict}
use Rattle.osm_table.specs.declared.entry.Entry.{Entry}
use Rattle.osm_table.specs.declared.entry.Entry.TheVariants.{Incomplete, Known}
use Rattle.osm_table.specs.Table.{TableValue, entry_of, is_changed}
use Rattle.dataset.specs.Sound.{IsSound}
use Rattle.merge_cases.specs.Case.{is_withdrawn}
use Rattle.upload_order.specs.declared.change.Change.{Change}
use Rattle.upload_order.specs.declared.change.Change.TheVariants.{Delete}
use Rattle.upload_order.specs.declared.down.Down.{Down}
use Rattle.upload_order.specs.declared.down.Down.TheVariants.{Remove}
use Rattle.upload_order.specs.Kinds.{at_key, is_rising, is_update, is_falling}
use Rattle.upload_order.specs.Plan.{plan, ups, downs, up_of, up_entry, up_known, down_of, later, version_at}
use Rattle.upload_order.specs.Refused.{is_open, upload_refusal}
use Rattle.upload_order.proofs.Along.{at_is}
use Rattle.upload_order.proofs.Entries.{IsIn, in_map}
use Rattle.upload_order.proofs.PlanDowns.{downs_ordered}
use Rattle.upload_order.proofs.PlanUps.{ups_ordered, ups_done, ups_whole}
use Rattle.upload_order.proofs.Sounds.{sound_of}
use Rattle.upload_order.proofs.Static.{IsUp, IsOrdered, no_more, next, with_key, Left, IsDown, clear, remove, set_left}
use Rattle.upload_order.proofs.Turn.{start_left, to_go}
use Rattle.placeholder.proofs.Clear.{IsClear, is_clear}
use Rattle.editor_laws.specs.Kept.{is_edited}
use Rattle.editor_laws.specs.Sent.{IsAmong, Bring, SendsEdits, object_of, SendsNoMore}

-- Lists.

among : (c : Change) (cs : List Change) → IsIn c cs → IsAmong c cs
among c [] i = absurd i
among c (d ∷ ds) (inl e) = inl e
among c (d ∷ ds) (inr i) = inr (among c ds i)

at_front : (c : Change) (cs ds : List Change) → IsAmong c cs → IsAmong c (cs ++ ds)
at_front c [] ds i = absurd i
at_front c (x ∷ xs) ds (inl e) = inl e
at_front c (x ∷ xs) ds (inr i) = inr (at_front c xs ds i)

behind : (c : Change) (cs ds : List Change) → IsAmong c ds → IsAmong c (cs ++ ds)
behind c [] ds i = i
behind c (x ∷ xs) ds i = inr (behind c xs ds i)

-- what is done in the end was done, or is one of these
key_case : (t : TableValue) (k j : Key) (done : Key → Bool) (ks : List Key) (b : Bool) → is_key k j ≡ b → cond b true (done k) ≡ true → (done k ≡ true) ⊎ IsIn k (j ∷ ks)
key_case t k j done ks true is h = inr (inl (sym (one_key k j is)))
key_case t k j done ks false is h = inl h

ordered_in : (t : TableValue) (k : Key) (done last : Key → Bool) (ks : List Key) → IsOrdered t done ks last → last k ≡ true → (done k ≡ true) ⊎ IsIn k ks
ordered_in t k done last ks (no_more d) h = inl h
ordered_in t k done last ks (next d l j js e c u free a o) h = more (ordered_in t k (with_key j d) l js o h)
  where
    more : (with_key j d k ≡ true) ⊎ IsIn k js → (d k ≡ true) ⊎ IsIn k (j ∷ js)
    more (inl x) = key_case t k j d js (is_key k j) refl x
    more (inr i) = inr (inr i)

-- what is to go goes
removed_in : (t : TableValue) (k : Key) (left last : Left) (ds : List Down) → IsDown t left ds last → is_some (left k) ≡ true → last k ≡ None → (b : Bool) × IsIn (Remove k b) ds
removed_in t k left last ds (no_more l) h gone = absurd (true≢false (sym (sym (ap is_some gone) ∙ h)))
removed_in t k left last ds (clear l m j es e x y z a) h gone =
    let r = removed_in t k (set_left j (Some true) l) m es a (still (is_key k j)) gone in
    (r.0, inr r.1)
  where
    still : (b : Bool) → is_some (cond b (Some true) (l k)) ≡ true
    still true = refl
    still false = h
removed_in t k left last ds (remove l m j c es e x y z w a) h gone = by (λ free. removed_in t k (set_left j None l) m es a (ap (λ b. is_some (cond b None (l k))) free ∙ h) gone) (is_key k j) refl
  where
    by : (is_key k j ≡ false → (b : Bool) × IsIn (Remove k b) es) → (b : Bool) → is_key k j ≡ b → (b : Bool) × IsIn (Remove k b) (Remove j c ∷ es)
    by more true is = (c, inl (ap (λ (q : Key). Remove q c) (sym (one_key k j is))))
    by more false is = let r = more is in (r.0, inr r.1)

-- Entries.

-- of what isn't in conflict the edited ones are the changed ones
calm_changes : (e : Entry) → is_open e ≡ false → is_edited e ≡ true → is_changed e ≡ true
calm_changes Incomplete calm edited = edited
calm_changes (Known b m None) calm edited = edited
calm_changes (Known b m (Some x)) calm edited = absurd (true≢false calm)

change_edits : (e : Entry) → is_changed e ≡ true → is_edited e ≡ true
change_edits Incomplete h = h
change_edits (Known b m f) h = or_right (is_withdrawn f) (is_changed (Known b m f)) h

up_edits : (t : TableValue) (k : Key) (e : Entry) (c : Content) → IsUp t k e c → at_key t is_edited k ≡ true
up_edits t k e c u = at_is t is_edited k e true u.entry (change_edits e (by e u.up))
  where
    rising : (e : Entry) → is_rising e ≡ true → is_changed e ≡ true
    rising Incomplete h = h
    rising (Known New m f) h = refl
    rising (Known (Live v b n) m f) h = absurd (true≢false (sym h))
    rising (Known (Gone v n) None f) h = absurd (true≢false (sym h))
    rising (Known (Gone v n) (Some x) f) h = refl

    update : (e : Entry) → is_update e ≡ true → is_changed e ≡ true
    update Incomplete h = h
    update (Known New m f) h = refl
    update (Known (Live v b n) None f) h = absurd (true≢false (sym h))
    update (Known (Live v b n) (Some x) f) h = h
    update (Known (Gone v n) m f) h = absurd (true≢false (sym h))

    by : (e : Entry) → (is_rising e ≡ true) ⊎ (is_update e ≡ true) → is_changed e ≡ true
    by e (inl h) = rising e h
    by e (inr h) = update e h

falling_edits : (e : Entry) → is_falling e ≡ true → is_edited e ≡ true
falling_edits Incomplete h = h
falling_edits (Known New m f) h = absurd (true≢false (sym h))
falling_edits (Known (Live v b n) None f) h = or_right (is_withdrawn f) true refl
falling_edits (Known (Live v b n) (Some x) f) h = absurd (true≢false (sym h))
falling_edits (Known (Gone v n) m f) h = absurd (true≢false (sym h))

up_object : (k : Key) (o : Option Entry) → object_of (up_entry k o) ≡ k
up_object k None = refl
up_object k (Some Incomplete) = refl
up_object k (Some (Known b None f)) = refl
up_object k (Some (Known New (Some c) f)) = refl
up_object k (Some (Known (Live v b n) (Some c) f)) = refl
up_object k (Some (Known (Gone v n) (Some c) f)) = refl

module _ (t : TableValue) where
  abbrev IsOfEdit : Change → Type 0
  IsOfEdit c = at_key t is_edited (object_of c) ≡ true

  all_ups : (done last : Key → Bool) (ks : List Key) → IsOrdered t done ks last → AllByRecursion IsOfEdit (map (up_of t) ks)
  all_ups done last ks (no_more d) = tt
  all_ups done last ks (next d l j js e c u free a o) = (ap (at_key t is_edited) (up_object j (entry_of t j)) ∙ up_edits t j e c u, all_ups (with_key j d) l js o)

  all_downs : (left last : Left) (ds : List Down) → IsDown t left ds last → AllByRecursion IsOfEdit (map (down_of t) ds)
  all_downs left last ds (no_more l) = tt
  all_downs left last ds (clear l m j es e x y z a) = (at_is t is_edited j e true x (falling_edits e y), all_downs (set_left j (Some true) l) m es a)
  all_downs left last ds (remove l m j c es e x y z w a) = (at_is t is_edited j e true x (falling_edits e y), all_downs (set_left j None l) m es a)

  module _ (is : IsSound t) (ok : IsClear t) where
    up_sent : (k : Key) (b : Base) (c : Content) (f : Option Conflict) → entry_of t k ≡ Some (Known b (Some c) f) → (is_rising (Known b (Some c) f) ≡ true) ⊎ (is_update (Known b (Some c) f) ≡ true) → IsAmong (up_known k b c) (plan t)
    up_sent k b c f has up =
        let u : IsUp t k (Known b (Some c) f) c = record { entry = has; mine = refl; up = up } in
        by (ordered_in t k (λ _. false) (ups_done t (sound_of t is)) (ups t) (ups_ordered t (sound_of t is) ok.no_stuck) (ups_whole t (sound_of t is) ok.no_stuck k (Known b (Some c) f) c u))
      where
        by : (false ≡ true) ⊎ IsIn k (ups t) → IsAmong (up_known k b c) (plan t)
        by (inl e) = absurd (true≢false (sym e))
        by (inr i) = at_front (up_known k b c) (map (up_of t) (ups t)) (map (down_of t) (downs t))
            (subst (λ (x : Change). IsAmong x (map (up_of t) (ups t))) (ap (up_entry k) has) (among (up_of t k) (map (up_of t) (ups t)) (in_map (up_of t) (ups t) k i)))

    down_sent : (k : Key) (e : Entry) → entry_of t k ≡ Some e → is_falling e ≡ true → (version : ℕ) × IsAmong (Delete k version) (plan t)
    down_sent k e has h =
        let d = downs_ordered t (sound_of t is) in
        let r = removed_in t k (start_left t) d.0 (downs t) d.1 (ap (λ b. is_some (to_go b)) (at_is t is_falling k e true has h)) (d.2 k) in
        (later r.0 (version_at (entry_of t k)), behind _ (map (up_of t) (ups t)) (map (down_of t) (downs t)) (among (Delete k (later r.0 (version_at (entry_of t k)))) (map (down_of t) (downs t)) (in_map (down_of t) (downs t) (Remove k r.0) r.1)))

    changed_sent : (k : Key) (e : Entry) → entry_of t k ≡ Some e → is_changed e ≡ true → Bring (plan t) k e
    changed_sent k Incomplete has h = absurd (true≢false (sym h))
    changed_sent k (Known New None f) has h = absurd (true≢false (sym (is.entries k (Known New None f) has).id.1))
    changed_sent k (Known New (Some c) f) has h = up_sent k New c f has (inl refl)
    changed_sent k (Known (Live v b n) None f) has h = down_sent k (Known (Live v b n) None f) has refl
    changed_sent k (Known (Live v b n) (Some c) f) has h = up_sent k (Live v b n) c f has (inr h)
    changed_sent k (Known (Gone v n) None f) has h = absurd (true≢false (sym h))
    changed_sent k (Known (Gone v n) (Some c) f) has h = up_sent k (Gone v n) c f has (inl refl)

pub sends : (t : TableValue) → IsSound t → upload_refusal t ≡ None → SendsEdits t
sends t is calm k e has edited = let ok = is_clear t calm in changed_sent t is ok k e has (calm_changes e (ok.no_conflict k e has) edited)

pub sends_no_more : (t : TableValue) → IsSound t → upload_refusal t ≡ None → SendsNoMore t
sends_no_more t is calm =
    let ok = is_clear t calm in
    let s = sound_of t is in
    let d = downs_ordered t s in
    all_joined (IsOfEdit t) (map (up_of t) (ups t)) (map (down_of t) (downs t))
    (all_ups t (λ _. false) (ups_done t s) (ups t) (ups_ordered t s ok.no_stuck)) (all_downs t (start_left t) d.0 (downs t) d.1)
