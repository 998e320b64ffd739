-- A server that has all bases of a table has what the upload needs, and holds the whole table in the end.
use Rattle.std.proofs.Common.{◌≡◌, ◌&&◌, ◌||◌, Bool, true, false, Option, Some, None, refl, sym, ◌∙◌, ap, ◌⊎◌, inl, inr}
use Rattle.std.proofs.lemmas.Bool.{not-false, cases_Bool, and_parts}
use Rattle.std.specs.Option.{option_map_or}
use Rattle.osm_base.specs.Content.{refers}
use Rattle.osm_base.specs.Same.{same_content}
use Rattle.osm_base.specs.declared.key.Key.{Key}
use Rattle.osm_base.specs.declared.content.Content.{Content}
use Rattle.osm_base.proofs.SameLaws.{same_content_decides}
use Rattle.osm_base.proofs.Tests.{never, some_passed}
use Rattle.osm_table.specs.declared.entry.Entry.{Entry}
use Rattle.osm_table.specs.declared.entry.Entry.TheVariants.{Incomplete, Known}
use Rattle.osm_table.specs.declared.entry.Base.TheVariants.{New, Live, Gone}
use Rattle.osm_table.specs.Table.{TableValue, entry_of, mine_of, is_changed, is_incomplete}
use Rattle.renamed_content.specs.Renamed.{renamed}
use Rattle.upload_order.specs.Rename.{meant, called}
use Rattle.upload_order.specs.Kinds.{held_of, at_key, is_falling, is_rising, is_sent, is_update}
use Rattle.upload_order.specs.Bases.{is_based}
use Rattle.upload_order.specs.World.{World, stands, content_at, Backs, Holds, Alone, IsEdited, is_known}
use Rattle.upload_order.specs.Local.{is_replaced, HoldsSent, BacksSent, AloneSent, IsSentTo}
use Rattle.upload_order.specs.Pieces.{content_in}
use Rattle.upload_order.proofs.Basics.{none_some}
use Rattle.upload_order.proofs.Renaming.{renamed_itself}
use Rattle.upload_order.proofs.Worlds.{called_meant}
use Rattle.upload_order.proofs.Along.{at_is, means_itself, unchanged_based, unchanged_stays}
use Rattle.upload_order.proofs.Turn.{incomplete_stays, mine_stays}
use Rattle.upload_order.proofs.Conditions.{Sound, IsVouched}

pub same_law : (a b : Content) → same_content a b ≡ true → a ≡ b
same_law a b h = (same_content_decides a b).0 h

-- an object that isn't edited is as its base
unchanged : (e : Entry) → is_changed e ≡ false → mine_of e ≡ held_of e
unchanged Incomplete h = refl
unchanged (Known New m d) h = cc
unchanged (Known (Live v b n) None d) h = cc
unchanged (Known (Live v b n) (Some c) d) h = ap (λ (x : Content). Some x) (same_law c b (not-false (same_content c b) h))
unchanged (Known (Gone v n) None d) h = refl
unchanged (Known (Gone v n) (Some c) d) h = cc

known_based : (e : Entry) → is_changed e ≡ false → is_incomplete e ≡ false → is_based e ≡ true
known_based Incomplete h i = cc
known_based (Known New m d) h i = cc
known_based (Known (Live v b n) m d) h i = refl
known_based (Known (Gone v n) m d) h i = refl

sent_up : (e : Entry) → is_sent e ≡ true → (is_rising e ≡ true) ⊎ (is_update e ≡ true)
sent_up e h = elim (cases_Bool (is_rising e)) [ inl r ↦ inl r | inr n ↦ inr (second (is_rising e) (is_update e) n h) ] where
  second : (a b : Bool) → a ≡ false → (a || b) ≡ true → b ≡ true
  second true b n h = cc
  second false b n h = h

rest_false : (a b : Bool) → a ≡ true → (a && b) ≡ false → b ≡ false
rest_false true b h g = g
rest_false false b h g = cc

pub holds_sent : (t : TableValue) (w : World) → Holds w t → HoldsSent w t
holds_sent t w h = λ k e g r. h k e g (and_parts (is_based e) (is_changed e) r).0

module _ (t : TableValue) (s : Sound t) where
  pub backs_sent : IsVouched t → (w : World) → Backs w t → Holds w t → BacksSent w t
  backs_sent v w backs holds = λ k r e c entry up mine h n.
      elim (s.refs k r e c entry mine h) [
        | inl i ↦ backs r i (v k r e c entry mine (sent_up e up) h i)
        | inr l ↦ (
            let same : is_changed l.0 ≡ false = sym (at_is t is_changed r l.0 (is_changed l.0) l.2 refl) ∙ n in
            (l.1, ap content_in (holds r l.0 l.2 (unchanged_based l.0 l.1 l.3 same)) ∙ sym (unchanged l.0 same) ∙ l.3))
      ]

  -- no content that stays refers to a falling key
  kept_free : (q k : Key) (e : Entry) (c : Content) → entry_of t q ≡ Some e → mine_of e ≡ Some c → at_key t is_falling k ≡ true → refers c k ≡ false
  kept_free q k e c h m fall = elim (cases_Bool (refers c k)) [
    | inl x ↦ (elim (s.refs q k e c h m x) [
      | inl i ↦ (let f = some_passed is_incomplete (entry_of t k) i in never (at_key t is_falling k) fall (at_is t is_falling k f.0 false f.1 (incomplete_stays f.0 f.2)))
      | inr l ↦ never (at_key t is_falling k) fall (at_is t is_falling k l.0 false l.2 (mine_stays l.0 l.1 l.3))
    ])
    | inr n ↦ n
  ]

  pub alone_sent : (w : World) → Holds w t → Alone w t → AloneSent w t
  alone_sent w holds alone = λ q k c n h fall. elim (cases_Bool (at_key t is_based q)) [
    | inl b ↦ (
        let e = some_passed is_based (entry_of t q) b in
        let same = rest_false (is_based e.0) (is_changed e.0) e.2 (sym (at_is t is_replaced q e.0 (is_replaced e.0) e.1 refl) ∙ n) in
        kept_free q k e.0 c e.1 (unchanged e.0 same ∙ sym (ap content_in (holds q e.0 e.1 e.2)) ∙ h) fall)
    | inr b ↦ alone q k c b h fall
  ]

  pub edited_whole : (w0 v : World) → Holds w0 t → IsSentTo t w0 v → IsEdited t w0 v
  edited_whole w0 v holds x = record {
    living = λ k e c h m. elim (cases_Bool (is_changed e)) [ inl y ↦ x.living k e c h y m | inr n ↦ lives_at k e c h m n ];
    deleted = λ k e h i m. elim (cases_Bool (is_changed e)) [ inl y ↦ x.deleted k e h y m | inr n ↦ as_before k e h n (known_based e n (known_is e i)) ∙ sym (unchanged e n) ∙ m ];
    others = λ q n. elim (x.others q (not_replaced (entry_of t q) n)) [ inl same ↦ inl same | inr new ↦ inr (new.0, new.1, new.2) ];
  } where
    known_is : (e : Entry) → is_known e ≡ true → is_incomplete e ≡ false
    known_is Incomplete h = cc
    known_is (Known b m d) h = refl

    not_replaced : (o : Option Entry) → option_map_or is_known o false ≡ false → option_map_or is_replaced o false ≡ false
    not_replaced None h = refl
    not_replaced (Some Incomplete) h = refl
    not_replaced (Some (Known b m d)) h = cc

    -- an object that isn't edited stands as it stood
    as_before : (k : Key) (e : Entry) → entry_of t k ≡ Some e → is_changed e ≡ false → is_based e ≡ true → content_at v k ≡ held_of e
    as_before k e h n b = elim (x.others k (at_is t is_replaced k e false h (unchanged_stays e n))) [
      | inl same ↦ ap content_in (same ∙ holds k e h b)
      | inr new ↦ none_some e (entry_of t k) new.3 h
    ]

    lives_at : (k : Key) (e : Entry) (c : Content) → entry_of t k ≡ Some e → mine_of e ≡ Some c → is_changed e ≡ false → (q : Key) × (meant v.names k ≡ Some q) × (content_at v q ≡ Some (renamed (called v.names) c))
    lives_at k e c h m n =
        let based = unchanged_based e c m n in
        let held : held_of e ≡ Some c = sym (unchanged e n) ∙ m in
        let self : renamed (called v.names) c ≡ c = renamed_itself (called v.names) c (λ r t2. called_meant v.names r r (means_itself v.names r (s.held_refs k r e c h held t2))) in
        (k, means_itself v.names k (s.positive k e h (inr based)), as_before k e h n based ∙ held ∙ ap (λ (y : Content). Some y) (sym self))
