-- The answers of a server keep what was edited.
use Rattle.std.proofs.Common.{◌≡◌, ℤ, Bool, true, false, cond, is_some, List, [], ◌∷◌, ◌++◌, map, Option, Some, None, refl, sym, ap, ◌∙◌, subst}
use Rattle.std.proofs.lemmas.Bool.{true≢false}
use Rattle.std.specs.Option.{option_map}
use Rattle.osm_base.specs.Rank.{is_key}
use Rattle.osm_base.specs.declared.key.Key.{Key}
use Rattle.osm_base.specs.declared.content.Content.{Content}
use Rattle.osm_base.proofs.RisingKeys.{one_key, key_itself}
use Rattle.osm_base.proofs.Tests.{by_bool}
use Rattle.osm_table.specs.declared.entry.Base.{Base}
use Rattle.osm_table.specs.declared.entry.Entry.{Entry}
use Rattle.osm_table.specs.declared.entry.Entry.TheVariants.{Incomplete, Known}
use Rattle.osm_table.specs.Table.{TableValue, entry_of, with_entry, mine_of}
use Rattle.osm_table.proofs.Each.{get_with}
use Rattle.dataset.specs.Sound.{IsSound}
use Rattle.renamed_content.specs.Renamed.{renamed}
use Rattle.upload_order.specs.declared.change.Change.{Change}
use Rattle.upload_order.specs.declared.change.Change.TheVariants.{Create, Modify, Delete}
use Rattle.upload_order.specs.Plan.{plan}
use Rattle.upload_order.specs.Refused.{is_open, upload_refusal}
use Rattle.upload_order.specs.Rename.{Names, called, with_id, is_positive}
use Rattle.upload_order.specs.Run.{pick_for, picks_left}
use Rattle.upload_order.specs.World.{is_known}
use Rattle.upload_order.proofs.Renaming.{renamed_itself}
use Rattle.placeholder.specs.Answers.{IsNewTo, AreNew, AreNewFrom, AreWithin}
use Rattle.placeholder.specs.Confirmed.{based_on, confirmed, made_entry, moved, moved_change, moved_entry, named_by}
use Rattle.placeholder.proofs.Created as created
use Rattle.placeholder.proofs.LookUps.{made_at}
use Rattle.placeholder.proofs.Moved.{moved_mine, same_open}
use Rattle.placeholder.proofs.Named.{AreNamed, known_moved, named_again, left_again, none_named}
use Rattle.placeholder.proofs.Steady.{IsFirst}
use Rattle.placeholder.proofs.Steadily.{IsSteady, negative_key, answer_step, known_in, new_moved, within_moved, given_to, start_steady}
use Rattle.editor_laws.specs.Kept.{wish, is_edited, IsWished}
use Rattle.editor_laws.specs.Answered.{AnswerKeeps, EachAnswer}

-- what is edited is known,
pub edited_known : (e : Entry) → is_edited e ≡ true → is_known e ≡ true
edited_known Incomplete h = absurd (true≢false (sym h))
edited_known (Known b m f) h = refl

-- and so it is under other names
known_moved_entry : (f : Key → Key) (e : Entry) → is_known e ≡ true → is_known (moved_entry f e) ≡ true
known_moved_entry f Incomplete h = h
known_moved_entry f (Known b m g) h = refl

-- of what isn't in conflict mine is wanted
wish_calm : (e : Entry) → is_open e ≡ false → wish (Some e) ≡ mine_of e
wish_calm Incomplete h = refl
wish_calm (Known b m None) h = refl
wish_calm (Known b m (Some x)) h = absurd (true≢false h)

-- where nothing is called otherwise
same_wish : (w : Option Content) → option_map (renamed (λ r. r)) w ≡ w
same_wish None = refl
same_wish (Some c) = ap (λ (d : Content). Some d) (renamed_itself (λ r. r) c (λ r h. refl))

-- on another base the same is wanted of an entry
based_wishes : (b : Base) (o : Option Entry) (e : Entry) → o ≡ Some e → is_known e ≡ true → IsWished (wish (Some e)) (Some (based_on b o))
based_wishes b o e is known = subst (λ (x : Option Entry). IsWished (wish (Some e)) (Some (based_on b x))) (sym is) (by e known)
  where
    by : (e : Entry) → is_known e ≡ true → IsWished (wish (Some e)) (Some (based_on b (Some e)))
    by Incomplete known = absurd (true≢false (sym known))
    by (Known old mine conflict) known = (refl, refl)

pub set_wishes : (t : TableValue) (k : Key) (b : Base) (j : Key) (e : Entry) → entry_of t j ≡ Some e → is_known e ≡ true → IsWished (wish (Some e)) (entry_of (with_entry t k (based_on b (entry_of t k))) j)
set_wishes t k b j e is known = subst (IsWished (wish (Some e))) (sym (get_with t k (based_on b (entry_of t k)) j)) (by (is_key j k) refl)
  where
    by : (x : Bool) → is_key j k ≡ x → IsWished (wish (Some e)) (cond x (Some (based_on b (entry_of t k))) (entry_of t j))
    by true h = based_wishes b (entry_of t k) e (sym (ap (entry_of t) (one_key j k h)) ∙ is) known
    by false h = subst (IsWished (wish (Some e))) (sym is) (known, refl)

set_keeps : (t : TableValue) (k : Key) (b : Base) (j : Key) (e : Entry) → entry_of t j ≡ Some e → is_known e ≡ true → IsWished (option_map (renamed (λ r. r)) (wish (Some e))) (entry_of (with_entry t k (based_on b (entry_of t k))) j)
set_keeps t k b j e is known =
    subst (λ (w : Option Content). IsWished w (entry_of (with_entry t k (based_on b (entry_of t k))) j)) (sym (same_wish (wish (Some e)))) (set_wishes t k b j e is known)

-- An object was made.
module _ (t : TableValue) (k : Key) (c : Content) (p : ℤ) (sound : IsSound t) (calm : (j : Key) (e : Entry) → entry_of t j ≡ Some e → is_open e ≡ false) (first : IsFirst t k c) (new : entry_of t (with_id k p) ≡ None) where
  abbrev f : Key → Key
  f = moved k p

  abbrev u : TableValue
  u = confirmed t (Create k c) p

  negative : is_positive k.id ≡ false
  negative = negative_key t sound k c first

  own : (e : Entry) → entry_of t k ≡ Some e → IsWished (option_map (renamed f) (wish (Some e))) (entry_of u (with_id k p))
  own e is =
      let same : first.entry ≡ e = (let x : Some first.entry ≡ Some e = sym first.there ∙ is in cc) in
      let wished : wish (Some e) ≡ Some c = wish_calm e (calm k e is) ∙ sym (ap mine_of same) ∙ first.mine in
      subst (λ (w : Option Content). IsWished (option_map (renamed f) w) (entry_of u (with_id k p))) (sym wished)
      (subst (IsWished (Some (renamed f c))) (sym (made_at t k c p (with_id k p) ∙ ap (λ b. cond b (Some (made_entry (renamed f c))) (cond (is_key (with_id k p) k) None (option_map (moved_entry f) (entry_of t (with_id k p))))) (key_itself (with_id k p)))) (refl, refl))

  moved_wish : (e : Entry) → is_open e ≡ false → is_known e ≡ true → IsWished (option_map (renamed f) (wish (Some e))) (Some (moved_entry f e))
  moved_wish e free known = (known_moved_entry f e known, wish_calm (moved_entry f e) (same_open f e ∙ free) ∙ moved_mine f e ∙ ap (option_map (renamed f)) (sym (wish_calm e free)))

  away : (j : Key) (e : Entry) → entry_of t j ≡ Some e → is_key j (with_id k p) ≡ false
  away j e is = by_bool (is_key j (with_id k p)) (λ h. absurd (true≢false (ap is_some (sym is ∙ ap (entry_of t) (one_key j (with_id k p) h) ∙ new)))) (λ h. h)

  others : (j : Key) (e : Entry) → entry_of t j ≡ Some e → is_known e ≡ true → is_key j k ≡ false → IsWished (option_map (renamed f) (wish (Some e))) (entry_of u j)
  others j e is known other =
      subst (IsWished (option_map (renamed f) (wish (Some e))))
      (sym (made_at t k c p j
      ∙ ap (λ b. cond b (Some (made_entry (renamed f c))) (cond (is_key j k) None (option_map (moved_entry f) (entry_of t j)))) (away j e is)
      ∙ ap (λ b. cond b None (option_map (moved_entry f) (entry_of t j))) other
      ∙ ap (option_map (moved_entry f)) is))
      (moved_wish e (calm j e is) known)

  pub made_keeps : (j : Key) (e : Entry) → entry_of t j ≡ Some e → is_known e ≡ true → IsWished (option_map (renamed f) (wish (Some e))) (entry_of u (f j))
  made_keeps j e is known = by_bool (is_key j k)
      (λ h. subst (λ (q : Key). IsWished (option_map (renamed f) (wish (Some e))) (entry_of u q)) (sym (created.f_here k p negative j h)) (own e (sym (ap (entry_of t) (one_key j k h)) ∙ is)))
      (λ h. subst (λ (q : Key). IsWished (option_map (renamed f) (wish (Some e))) (entry_of u q)) (sym (created.f_other k p negative j h)) (others j e is known h))

answer_keeps : (t : TableValue) (c : Change) (cs : List Change) (p : ℤ) → IsSteady t (c ∷ cs) → IsNewTo t c p → AnswerKeeps t c p
answer_keeps t (Create k c) cs p a new j e is edited = made_keeps t k c p a.sound a.settled a.steady.0 new j e is (edited_known e edited)
answer_keeps t (Modify k v c) cs p a new j e is edited = set_keeps t k _ j e is (edited_known e edited)
answer_keeps t (Delete k v) cs p a new j e is edited = set_keeps t k _ j e is (edited_known e edited)

steadily : (cs ds : List Change) (ns : Names) (t : TableValue) (ps : List ℤ) → IsSteady t (map (moved_change (called ns)) (cs ++ ds)) → AreNamed ns t → AreNewFrom ns t cs ps → AreWithin cs ps → EachAnswer AnswerKeeps ns t cs ps
steadily [] ds ns t ps a named new within = tt
steadily (c ∷ cs) ds ns t ps a named new within =
    let p = pick_for c ps in
    let g = called ns in
    let known = known_moved g t c (known_in t (moved_change g c) (map (moved_change g) (cs ++ ds)) a) in
    let b = answer_step t (moved_change g c) (map (moved_change g) (cs ++ ds)) p a (new_moved g t c p new.0) (within_moved g c p within.0) in (
      answer_keeps t (moved_change g c) (map (moved_change g) (cs ++ ds)) p a (new_moved g t c p new.0),
      steadily cs ds (named_by c p ns) (confirmed t (moved_change g c) p) (picks_left c ps)
          (subst (IsSteady (confirmed t (moved_change g c) p)) (left_again ns t c p (cs ++ ds) named known) b)
          (named_again g ns t c p named known (given_to c p within.0))
          new.1 within.1,
    )

-- Each answer keeps what was edited.
pub answers_keep : (t : TableValue) (cs ds : List Change) (ps : List ℤ) → IsSound t → upload_refusal t ≡ None → plan t ≡ cs ++ ds → AreNew t cs ps → AreWithin cs ps → EachAnswer AnswerKeeps [] t cs ps
answers_keep t cs ds ps is clear whole new within =
    let start = subst (λ (xs : List Change). IsSteady t (map (moved_change (called [])) xs)) whole (start_steady t is clear) in
    steadily cs ds [] t ps start (none_named t) new within
