-- The keys that changes meet have all that these ask for, and the objects of these keys are a part of the server of the bases.
use Rattle.std.proofs.Common.{◌≡◌, Bool, true, false, cond, not, ◌&&◌, List, [], ◌∷◌, ◌++◌, Option, Some, None, is_some, refl, sym, ◌∙◌, ap, subst, inl, inr}
use Rattle.std.specs.Prelude.{◌⊎◌}
use Rattle.std.specs.List.{list_any, AllByRecursion}
use Rattle.std.specs.Option.{option_map_or, option_or}
use Rattle.std.proofs.lemmas.Bool.{or_left, or_right, or_cases}
use Rattle.std.proofs.lemmas.List.Folds.{list_any-append}
use Rattle.osm_base.specs.Rank.{is_key}
use Rattle.osm_base.specs.Content.{refs_of, refers}
use Rattle.osm_base.specs.Order.{ranked}
use Rattle.osm_base.specs.RisingKeys.{is_in}
use Rattle.osm_base.specs.declared.key.Key.{Key}
use Rattle.osm_base.specs.declared.content.Content.{Content}
use Rattle.osm_base.proofs.RankedKeys.{named_ranked}
use Rattle.osm_base.proofs.RisingKeys.{in_filter, key_itself, one_key}
use Rattle.osm_base.proofs.Tests.{some_passed}
use Rattle.osm_table.specs.declared.entry.Entry.{Entry}
use Rattle.osm_table.specs.declared.entry.Entry.TheVariants.{Incomplete, Known}
use Rattle.osm_table.specs.Table.{TableValue, entry_of, is_changed, keys_by_rank, mine_of, users, uses}
use Rattle.dataset.specs.Sound.{IsSound}
use Rattle.dataset.proofs.Listed.{user_uses}
use Rattle.upload_order.specs.declared.change.Change.{Change}
use Rattle.upload_order.specs.declared.change.Change.TheVariants.{Create, Modify, Delete}
use Rattle.upload_order.specs.Kinds.{at_key, content_refers, held_at, held_of, held_refers}
use Rattle.upload_order.specs.Part.{changed_keys}
use Rattle.upload_order.specs.Rename.{is_positive}
use Rattle.upload_order.specs.World.{WorldEntry, stands, is_known}
use Rattle.upload_order.proofs.Basics.{none_some}
use Rattle.upload_order.proofs.Entries.{IsIn, any_in}
use Rattle.upload_order.proofs.Vouchers.{any_there, changed_in, entry_in, same_bool}
use Rattle.server_world.specs.Asked.{with_asked, with_deleted, with_each, with_users, with_unknown, keys_met, of_those}
use Rattle.server_world.specs.Bases.{of_base, of_entry, of_mention, of_bases}
use Rattle.server_world.specs.Putting.{based, empty_object}
use Rattle.server_world.proofs.Based.{bases_stand, those_put}
use Rattle.server_world.proofs.Partial.{Covers, HasMet, IsLeftOut, IsPart, no_user, user_held, same_conclusion}

in_front : (q : Key) (xs ys : List Key) → is_in q xs ≡ true → is_in q (xs ++ ys) ≡ true
in_front q xs ys h = list_any-append (is_key q) xs ys ∙ or_left (is_in q xs) (is_in q ys) h

in_back : (q : Key) (xs ys : List Key) → is_in q ys ≡ true → is_in q (xs ++ ys) ≡ true
in_back q xs ys h = list_any-append (is_key q) xs ys ∙ or_right (is_in q xs) (is_in q ys) h

in_either : (q : Key) (xs ys : List Key) → is_in q (xs ++ ys) ≡ true → (is_in q xs ≡ true) ⊎ (is_in q ys ≡ true)
in_either q xs ys h = or_cases (is_in q xs) (is_in q ys) (sym (list_any-append (is_key q) xs ys) ∙ h)

in_one : (q k : Key) → is_in q (k ∷ []) ≡ true → q ≡ k
in_one q k h = elim (or_cases (is_key q k) false h) [ inl e ↦ one_key q k e | inr f ↦ cc ]

-- what each element puts behind a list, where it keeps what is in it
abbrev Keeps : {A : Type 0} → (List Key → A → List Key) → Type 0
Keeps {A = A} put = (list : List Key) (x : A) (q : Key) → is_in q list ≡ true → is_in q (put list x) ≡ true

each_kept : {A : Type 0} (put : List Key → A → List Key) → Keeps put → (list : List Key) (xs : List A) (q : Key) → is_in q list ≡ true → is_in q (with_each put list xs) ≡ true
each_kept put keeps list [] q h = h
each_kept put keeps list (x ∷ xs) q h = each_kept put keeps (put list x) xs q (keeps list x q h)

each_in : {A : Type 0} (put : List Key → A → List Key) → Keeps put → (list : List Key) (xs : List A) (x : A) (q : Key) → IsIn x xs → ((ks : List Key) → is_in q (put ks x) ≡ true) → is_in q (with_each put list xs) ≡ true
each_in put keeps list [] x q i h = absurd i
each_in {A = A} put keeps list (y ∷ ys) x q (inl e) h = each_kept put keeps (put list y) ys q (subst (λ (z : A). is_in q (put list z) ≡ true) (sym e) (h list))
each_in put keeps list (y ∷ ys) x q (inr i) h = each_in put keeps (put list y) ys x q i h

asked_keeps : Keeps with_asked
asked_keeps list (Create k c) q h = in_front q list (refs_of c) h
asked_keeps list (Modify k v c) q h = in_front q (list ++ k ∷ []) (refs_of c) (in_front q list (k ∷ []) h)
asked_keeps list (Delete k v) q h = h

deleted_keeps : Keeps with_deleted
deleted_keeps list (Create k c) q h = h
deleted_keeps list (Modify k v c) q h = h
deleted_keeps list (Delete k v) q h = in_front q list (k ∷ []) h

users_keep : (t : TableValue) → Keeps (with_users t)
users_keep t list k q h = in_front q (list ++ k ∷ []) (users t k) (in_front q list (k ∷ []) h)

unknown_by : (t : TableValue) (list : List Key) (k q : Key) (b : Bool) → is_in q (list ++ k ∷ []) ≡ true → is_in q (cond b (list ++ k ∷ []) ((list ++ k ∷ []) ++ users t k)) ≡ true
unknown_by t list k q true h = h
unknown_by t list k q false h = in_front q (list ++ k ∷ []) (users t k) h

unknown_keeps : (t : TableValue) → Keeps (with_unknown t)
unknown_keeps t list k q h = unknown_by t list k q (at_key t is_known k) (in_front q list (k ∷ []) h)

last_in : (list : List Key) (k : Key) → is_in k (list ++ k ∷ []) ≡ true
last_in list k = in_back k list (k ∷ []) (or_left (is_key k k) false (key_itself k))

-- A list that has the users of each of its keys that isn't Known.
abbrev HasUsers : TableValue → List Key → Type 0
HasUsers t list = (r u : Key) → is_in r list ≡ true → at_key t is_known r ≡ false → is_in u (users t r) ≡ true → is_in u list ≡ true

known_mine : (e : Entry) (c : Content) → mine_of e ≡ Some c → is_known e ≡ true
known_mine Incomplete c h = cc
known_mine (Known b m d) c h = refl

-- a user is Known
user_known : (t : TableValue) (k u : Key) → is_in u (users t k) ≡ true → at_key t is_known u ≡ true
user_known t k u h =
    let one = some_passed (λ e. uses e k) (entry_of t u) (sym (user_uses t k u) ∙ h) in
    let mine = some_passed (λ c. refers c k) (mine_of one.0) one.2 in
    ap (λ (o : Option Entry). option_map_or is_known o false) one.1 ∙ known_mine one.0 mine.0 mine.1

known_changed : (e : Entry) → is_changed e ≡ true → is_known e ≡ true
known_changed Incomplete h = cc
known_changed (Known b m d) h = refl

changed_have : (t : TableValue) → HasUsers t (changed_keys t)
changed_have t r u i n h =
    let both : (at_key t is_changed r && is_in r (keys_by_rank t)) ≡ true = sym (in_filter (at_key t is_changed) r (keys_by_rank t)) ∙ i in
    let one = some_passed is_changed (entry_of t r) (and_first (at_key t is_changed r) (is_in r (keys_by_rank t)) both) in
    same_conclusion (at_key t is_known r) (ap (λ (o : Option Entry). option_map_or is_known o false) one.1 ∙ known_changed one.0 one.2) n where
      and_first : (a b : Bool) → (a && b) ≡ true → a ≡ true
      and_first true b e = refl
      and_first false b e = e

users_have : (t : TableValue) (list : List Key) (k : Key) → HasUsers t list → HasUsers t (with_users t list k)
users_have t list k have r u i n h =
    elim (in_either r (list ++ k ∷ []) (users t k) i) [
      | inl f ↦ elim (in_either r list (k ∷ []) f) [
        | inl g ↦ users_keep t list k u (have r u g n h)
        | inr g ↦ in_back u (list ++ k ∷ []) (users t k) (ap (λ (q : Key). is_in u (users t q)) (sym (in_one r k g)) ∙ h)
      ]
      | inr f ↦ same_conclusion (at_key t is_known r) (user_known t k r f) n
    ]

one_has : (t : TableValue) (list : List Key) (k : Key) → at_key t is_known k ≡ true → HasUsers t list → HasUsers t (list ++ k ∷ [])
one_has t list k known have r u i n h =
    elim (in_either r list (k ∷ []) i) [
      | inl g ↦ in_front u list (k ∷ []) (have r u g n h)
      | inr g ↦ same_conclusion (at_key t is_known r) (ap (at_key t is_known) (in_one r k g) ∙ known) n
    ]

unknown_have_by : (t : TableValue) (list : List Key) (k : Key) (b : Bool) → at_key t is_known k ≡ b → HasUsers t list → HasUsers t (cond b (list ++ k ∷ []) ((list ++ k ∷ []) ++ users t k))
unknown_have_by t list k true known have = one_has t list k known have
unknown_have_by t list k false known have = users_have t list k have

each_has : (t : TableValue) (put : List Key → Key → List Key) → ((list : List Key) (k : Key) → HasUsers t list → HasUsers t (put list k)) → (list ks : List Key) → HasUsers t list → HasUsers t (with_each put list ks)
each_has t put step list [] have = have
each_has t put step list (k ∷ ks) have = each_has t put step (put list k) ks (step list k have)

module _ (t : TableValue) (cs : List Change) where
  abbrev asked : List Key
  asked = ranked (with_each with_asked [] cs)

  abbrev deleted : List Key
  deleted = ranked (with_each with_deleted [] cs)

  abbrev first_keys : List Key
  first_keys = with_each (with_unknown t) (changed_keys t) asked

  abbrev all_keys : List Key
  all_keys = with_each (with_users t) first_keys deleted

  all_met : (q : Key) → is_in q all_keys ≡ true → is_in q (keys_met t cs) ≡ true
  all_met q h = named_ranked all_keys q ∙ h

  met_all : (q : Key) → is_in q (keys_met t cs) ≡ true → is_in q all_keys ≡ true
  met_all q h = sym (named_ranked all_keys q) ∙ h

  all_have : HasUsers t all_keys
  all_have =
      each_has t (with_users t) (users_have t) first_keys deleted
      (each_has t (with_unknown t) (λ list k have. unknown_have_by t list k (at_key t is_known k) refl have) (changed_keys t) asked (changed_have t))

  pub met_cover : Covers t (keys_met t cs)
  met_cover = record {
    changed = λ u h. (
        let one = some_passed is_changed (entry_of t u) h in
        all_met u (each_kept (with_users t) (users_keep t) first_keys deleted u (each_kept (with_unknown t) (unknown_keeps t) (changed_keys t) asked u (changed_in t u one.0 one.1 one.2))));
    unknown = λ r u i n h. all_met u (all_have r u (met_all r i) n h);
  }

  asked_met : (q : Key) → is_in q (with_each with_asked [] cs) ≡ true → is_in q (keys_met t cs) ≡ true
  asked_met q h =
      all_met q (each_kept (with_users t) (users_keep t) first_keys deleted q
      (each_in (with_unknown t) (unknown_keeps t) (changed_keys t) asked q q (any_in asked q (named_ranked (with_each with_asked [] cs) q ∙ h)) (λ list. unknown_by t list q q (at_key t is_known q) (last_in list q))))

  has_met : (c : Change) → IsIn c cs → HasMet t (keys_met t cs) c
  has_met (Create k c) i = λ r h. asked_met r (each_in with_asked asked_keeps [] cs (Create k c) r i (λ list. in_back r list (refs_of c) h))
  has_met (Modify k v c) i = (
    asked_met k (each_in with_asked asked_keeps [] cs (Modify k v c) k i (λ list. in_front k (list ++ k ∷ []) (refs_of c) (last_in list k))),
    λ r h. asked_met r (each_in with_asked asked_keeps [] cs (Modify k v c) r i (λ list. in_back r (list ++ k ∷ []) (refs_of c) h)),
  )
  has_met (Delete k v) i =
      let there : IsIn k deleted = any_in deleted k (named_ranked (with_each with_deleted [] cs) k ∙ each_in with_deleted deleted_keeps [] cs (Delete k v) k i (λ list. last_in list k)) in (
        all_met k (each_in (with_users t) (users_keep t) first_keys deleted k k there (λ list. in_front k (list ++ k ∷ []) (users t k) (last_in list k))),
        λ u h. all_met u (each_in (with_users t) (users_keep t) first_keys deleted k u there (λ list. in_back u (list ++ k ∷ []) (users t k) h)),
      )

  all_from : (P : Change → Type 0) (xs : List Change) → ((c : Change) → IsIn c xs → P c) → AllByRecursion P xs
  all_from P [] h = tt
  all_from P (c ∷ xs) h = (h c (inl refl), all_from P xs (λ d i. h d (inr i)))

  pub all_have_met : AllByRecursion (HasMet t (keys_met t cs)) cs
  all_have_met = all_from (HasMet t (keys_met t cs)) cs has_met

held_entry : (o : Option Entry) (q : Key) → content_refers (held_at o) q ≡ true → (e : Entry) × (o ≡ Some e) × (content_refers (held_of e) q ≡ true)
held_entry None q h = cc
held_entry (Some e) q h = (e, refl, h)

none_case : (i positive any : Bool) (m : WorldEntry) → cond ((positive && true) && any) (option_or (cond i None None) (Some m)) (cond i None None) ≡ cond (positive && any) (Some m) None
none_case true true true m = refl
none_case true true false m = refl
none_case true false any m = refl
none_case false true true m = refl
none_case false true false m = refl
none_case false false any m = refl

known_case : (positive any : Bool) (g : Option WorldEntry) (m : WorldEntry) → cond ((positive && false) && any) (option_or g (Some m)) g ≡ g
known_case true any g m = refl
known_case false any g m = refl

module _ (t : TableValue) (sound : IsSound t) (ks : List Key) (covers : Covers t ks) where
  abbrev any_of_those : Key → Bool
  any_of_those q = list_any (λ u. held_refers t u q) ks

  abbrev any_of_all : Key → Bool
  any_of_all q = list_any (λ u. held_refers t u q) (keys_by_rank t)

  those_all : (q : Key) → any_of_those q ≡ true → any_of_all q ≡ true
  those_all q h = any_there (λ u. held_refers t u q) ks (keys_by_rank t) (λ u i r. let one = held_entry (entry_of t u) q r in entry_in t u one.0 one.1) h

  user_by : (q u : Key) (e : Entry) (b : Bool) → is_changed e ≡ b → entry_of t u ≡ Some e → content_refers (held_of e) q ≡ true → ((j : Key) → is_in j (users t q) ≡ true → is_in j ks ≡ true) → is_in u ks ≡ true
  user_by q u e true c h r us = covers.changed u (ap (λ (o : Option Entry). option_map_or is_changed o false) h ∙ c)
  user_by q u e false c h r us = us u (user_held t u q e h c r)

  all_those : (q : Key) → ((j : Key) → is_in j (users t q) ≡ true → is_in j ks ≡ true) → any_of_all q ≡ true → any_of_those q ≡ true
  all_those q us h =
      any_there (λ u. held_refers t u q) (keys_by_rank t) ks (λ u i r. let one = held_entry (entry_of t u) q r in user_by q u one.0 (is_changed one.0) refl one.1 one.2 us) h

  alike : (q : Key) → ((j : Key) → is_in j (users t q) ≡ true → is_in j ks ≡ true) → any_of_those q ≡ any_of_all q
  alike q us = same_bool (any_of_those q) (any_of_all q) (those_all q) (all_those q us)

  abbrev Begins : Key → Type 0
  Begins q = (stands (of_those t ks) q ≡ stands (of_bases t) q) ⊎ IsLeftOut t ks (of_bases t) (of_those t ks) q

  -- what the part has at first, by the entry of a key
  abbrev put_of : Key → Option Entry → Option WorldEntry
  put_of q o =
      cond ((is_positive q.id && not (option_map_or is_known o false)) && any_of_those q) (option_or (cond (is_in q ks) (based o) None) (Some (empty_object q.kind))) (cond (is_in q ks) (based o) None)

  put_is : (q : Key) (o : Option Entry) → entry_of t q ≡ o → stands (of_those t ks) q ≡ put_of q o
  put_is q o e = those_put t ks q ∙ ap (put_of q) e

  stands_is : (q : Key) (o : Option Entry) → entry_of t q ≡ o → stands (of_bases t) q ≡ of_entry (of_mention t q) o
  stands_is q o e = bases_stand t q ∙ ap (of_entry (of_mention t q)) e

  mention_is : (q : Key) → any_of_those q ≡ any_of_all q → cond (is_positive q.id && any_of_those q) (Some (empty_object q.kind)) None ≡ of_mention t q
  mention_is q e = ap (λ b. cond (is_positive q.id && b) (Some (empty_object q.kind)) None) e

  out_by : (q : Key) (b : Bool) → any_of_those q ≡ b → is_in q ks ≡ false → entry_of t q ≡ Some Incomplete → Begins q
  out_by q true a i e =
      inl (put_is q (Some Incomplete) e ∙ none_case (is_in q ks) (is_positive q.id) (any_of_those q) (empty_object q.kind) ∙ mention_is q (a ∙ sym (those_all q a)) ∙ sym (stands_is q (Some Incomplete) e))
  out_by q false a i e = inr (record {
    out = i;
    there = ap is_some e;
    nothing = put_is q (Some Incomplete) e ∙ none_case (is_in q ks) (is_positive q.id) (any_of_those q) (empty_object q.kind) ∙ ap (λ b. cond (is_positive q.id && b) (Some (empty_object q.kind)) None) a ∙ unmentioned (is_positive q.id);
    first = bases_stand t q;
  }) where
    unmentioned : (b : Bool) → ◌≡◌ {A = Option WorldEntry} (cond (b && false) (Some (empty_object q.kind)) None) None
    unmentioned true = refl
    unmentioned false = refl

  begins_by : (q : Key) (o : Option Entry) (b : Bool) → entry_of t q ≡ o → is_in q ks ≡ b → Begins q
  begins_by q None b e i =
      inl (put_is q None e ∙ none_case (is_in q ks) (is_positive q.id) (any_of_those q) (empty_object q.kind)
      ∙ mention_is q (alike q (λ u h. absurd (no_user t sound q u e h))) ∙ sym (stands_is q None e))
  begins_by q (Some Incomplete) true e i =
      inl (put_is q (Some Incomplete) e ∙ none_case (is_in q ks) (is_positive q.id) (any_of_those q) (empty_object q.kind)
      ∙ mention_is q (alike q (λ u h. covers.unknown q u i (ap (λ (o : Option Entry). option_map_or is_known o false) e) h)) ∙ sym (stands_is q (Some Incomplete) e))
  begins_by q (Some Incomplete) false e i = out_by q (any_of_those q) refl i e
  begins_by q (Some (Known b m d)) true e i =
      inl (put_is q (Some (Known b m d)) e ∙ known_case (is_positive q.id) (any_of_those q) (cond (is_in q ks) (of_base b) None) (empty_object q.kind) ∙ ap (λ x. cond x (of_base b) None) i ∙ sym (stands_is q (Some (Known b m d)) e))
  begins_by q (Some (Known b m d)) false e i = inr (record {
    out = i;
    there = ap is_some e;
    nothing = put_is q (Some (Known b m d)) e ∙ known_case (is_positive q.id) (any_of_those q) (cond (is_in q ks) (of_base b) None) (empty_object q.kind) ∙ ap (λ x. cond x (of_base b) None) i;
    first = bases_stand t q;
  })

  -- at first the objects of the keys are a part of the server of the bases
  pub part_begins : IsPart t ks (of_bases t) (of_those t ks)
  part_begins = record {
    names = refl;
    at = λ q. begins_by q (entry_of t q) (is_in q ks) refl refl;
    picked = λ k p h. none_some p None refl h;
  }
