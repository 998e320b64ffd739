-- Nobody else can vouch for an Incomplete object than what is changed, and what refers to it.
use Rattle.std.proofs.Common.{◌≡◌, ◌&&◌, ◌||◌, Bool, true, false, not, cond, is_some, Option, Some, None, List, [], ◌∷◌, ◌++◌, refl, sym, ◌∙◌, ap, append_assoc, append-nil, inl, inr}
use Rattle.std.proofs.lemmas.Bool.{or_left, or_right, or_cases}
use Rattle.std.proofs.lemmas.List.Folds.{list_any-append}
use Rattle.std.specs.List.{filter, find, list_any}
use Rattle.std.specs.Option.{option_map_or, option_map, option_or}
use Rattle.std.specs.FinMap as fin
use Rattle.osm_base.specs.Content.{refers}
use Rattle.osm_base.specs.Order.{ranked}
use Rattle.osm_base.specs.Rank.{is_key}
use Rattle.osm_base.specs.RisingKeys.{is_in}
use Rattle.osm_base.specs.declared.key.Key.{Key}
use Rattle.osm_base.specs.declared.content.Content.{Content}
use Rattle.osm_base.proofs.RankedKeys.{named_ranked}
use Rattle.osm_base.proofs.RisingKeys.{in_filter, one_key}
use Rattle.osm_base.proofs.Tests.{some_passed}
use Rattle.osm_table.specs.declared.entry.Base.TheVariants.{New, Live, Gone}
use Rattle.osm_table.specs.declared.entry.Entry.{Entry}
use Rattle.osm_table.specs.declared.entry.Entry.TheVariants.{Incomplete, Known}
use Rattle.osm_table.specs.Table.{TableValue, entry_of, is_changed, is_incomplete, keys_by_rank, mine_of, users, uses}
use Rattle.dataset.proofs.Listed.{user_uses}
use Rattle.upload_order.specs.declared.refusal.PlanRefusal.TheVariants.{IncompleteRef}
use Rattle.upload_order.specs.Kinds.{at_key, held_of}
use Rattle.upload_order.specs.Marked.{with_marked, with_unknown, with_users, vouchers}
use Rattle.upload_order.specs.Part.{changed_keys}
use Rattle.upload_order.specs.Refused.{keeps, vouches, vouched_among, is_loose, is_loose_in, loose_among, loose_refusal, refs_sent}
use Rattle.upload_order.specs.Pieces.{vouches_at}
use Rattle.upload_order.proofs.Entries.{any_in, in_any}
use Rattle.upload_order.proofs.Lists.{any_is, any_of}
use Rattle.upload_order.proofs.Vouching.{among_changed, by_all, loose_case}

marked_case : (b : Bool) (k : Key) (list ks : List Key) → cond b (list ++ k ∷ []) list ++ ks ≡ list ++ cond b (k ∷ ks) ks
marked_case true k list ks = append_assoc list (k ∷ []) ks
marked_case false k list ks = refl

-- keys that are listed one after the other are those that a test keeps
pub marked_behind : (p : Key → Bool) (list ks : List Key) → with_marked p list ks ≡ list ++ filter p ks
marked_behind p list [] = sym (append-nil list)
marked_behind p list (k ∷ ks) = marked_behind p (cond (p k) (list ++ k ∷ []) list) ks ∙ marked_case (p k) k list (filter p ks)

pub marked_is : (p : Key → Bool) (ks : List Key) → with_marked p [] ks ≡ filter p ks
marked_is p ks = marked_behind p [] ks

in_marked : (p : Key → Bool) (list ks : List Key) (q : Key) → is_in q (with_marked p list ks) ≡ (is_in q list || (p q && is_in q ks))
in_marked p list ks q =
    ap (λ (js : List Key). is_in q js) (marked_behind p list ks) ∙ list_any-append (is_key q) list (filter p ks) ∙ ap (λ b. is_in q list || b) (in_filter p q ks)

-- what is in the list stays in it
unknown_kept : (t : TableValue) (list ks : List Key) (q : Key) → is_in q list ≡ true → is_in q (with_unknown t list ks) ≡ true
unknown_kept t list [] q h = h
unknown_kept t list (k ∷ ks) q h =
    unknown_kept t (with_marked (at_key t is_incomplete) list (refs_sent (entry_of t k))) ks q
    (in_marked (at_key t is_incomplete) list (refs_sent (entry_of t k)) q ∙ or_left (is_in q list) (at_key t is_incomplete q && is_in q (refs_sent (entry_of t k))) h)

both_true : (a b : Bool) → a ≡ true → b ≡ true → (a && b) ≡ true
both_true true b h e = e
both_true false b h e = h

-- each Incomplete reference of what is sent is in the list
unknown_in : (t : TableValue) (list ks : List Key) (k r : Key) → is_in k ks ≡ true → is_in r (refs_sent (entry_of t k)) ≡ true → at_key t is_incomplete r ≡ true → is_in r (with_unknown t list ks) ≡ true
unknown_in t list [] k r i s h = cc
unknown_in t list (j ∷ ks) k r i s h =
    elim (or_cases (is_key k j) (is_in k ks) i) [
      | inl same ↦ unknown_kept t (with_marked (at_key t is_incomplete) list (refs_sent (entry_of t j))) ks r
          (in_marked (at_key t is_incomplete) list (refs_sent (entry_of t j)) r
          ∙ or_right (is_in r list) (at_key t is_incomplete r && is_in r (refs_sent (entry_of t j))) (both_true (at_key t is_incomplete r) (is_in r (refs_sent (entry_of t j))) h (ap (λ (x : Key). is_in r (refs_sent (entry_of t x))) (sym (one_key k j same)) ∙ s)))
      | inr rest ↦ unknown_in t (with_marked (at_key t is_incomplete) list (refs_sent (entry_of t j))) ks k r rest s h
    ]

users_kept : (t : TableValue) (list ks : List Key) (q : Key) → is_in q list ≡ true → is_in q (with_users t list ks) ≡ true
users_kept t list [] q h = h
users_kept t list (k ∷ ks) q h = users_kept t (list ++ users t k) ks q (list_any-append (is_key q) list (users t k) ∙ or_left (is_in q list) (is_in q (users t k)) h)

-- each user of one of the keys is in the list
pub users_in : (t : TableValue) (list ks : List Key) (r q : Key) → is_in r ks ≡ true → is_in q (users t r) ≡ true → is_in q (with_users t list ks) ≡ true
users_in t list [] r q i h = cc
users_in t list (k ∷ ks) r q i h =
    elim (or_cases (is_key r k) (is_in r ks) i) [
      | inl same ↦ users_kept t (list ++ users t k) ks q
          (list_any-append (is_key q) list (users t k) ∙ or_right (is_in q list) (is_in q (users t k)) (ap (λ (x : Key). is_in q (users t x)) (sym (one_key r k same)) ∙ h))
      | inr rest ↦ users_in t (list ++ users t k) ks r q rest h
    ]

and_one : (a b : Bool) → (a && b) ≡ true → (a ≡ true) × (b ≡ true)
and_one true b h = (refl, h)
and_one false b h = cc

-- an object whose base holds a content and that doesn't live is changed
pub changed_gone : (e : Entry) (r : Key) → mine_of e ≡ None → option_map_or (λ c. refers c r) (held_of e) false ≡ true → is_changed e ≡ true
changed_gone Incomplete r m h = cc
changed_gone (Known New m d) r none h = cc
changed_gone (Known (Live v b n) None d) r none h = refl
changed_gone (Known (Live v b n) (Some c) d) r none h = cc
changed_gone (Known (Gone v n) m d) r none h = cc

-- a key with an entry is one of the table
pub entry_in : (t : TableValue) (k : Key) (e : Entry) → entry_of t k ≡ Some e → is_in k (keys_by_rank t) ≡ true
entry_in t k e h = sym (fin.contains_key-keys t.entries k) ∙ ap is_some h

pub changed_in : (t : TableValue) (k : Key) (e : Entry) → entry_of t k ≡ Some e → is_changed e ≡ true → is_in k (changed_keys t) ≡ true
changed_in t k e h c =
    in_filter (at_key t is_changed) k (keys_by_rank t)
    ∙ both_true (at_key t is_changed k) (is_in k (keys_by_rank t)) (ap (λ (o : Option Entry). option_map_or is_changed o false) h ∙ c) (entry_in t k e h)

pub same_bool : (a b : Bool) → (a ≡ true → b ≡ true) → (b ≡ true → a ≡ true) → a ≡ b
same_bool true b f g = sym (f refl)
same_bool false true f g = g refl
same_bool false false f g = refl

pub any_there : (p : Key → Bool) (xs ys : List Key) → ((k : Key) → is_in k xs ≡ true → p k ≡ true → is_in k ys ≡ true) → list_any p xs ≡ true → list_any p ys ≡ true
any_there p xs ys h a =
    let one = any_is p xs a in
    any_of p ys one.0 (any_in ys one.0 (h one.0 (in_any xs one.0 one.1) one.2)) one.2

-- a test that each key that passes is in both lists of, or in neither
pub same_any : (p : Key → Bool) (xs ys : List Key) → ((k : Key) → is_in k xs ≡ true → p k ≡ true → is_in k ys ≡ true) → ((k : Key) → is_in k ys ≡ true → p k ≡ true → is_in k xs ≡ true) → list_any p xs ≡ list_any p ys
same_any p xs ys f g = same_bool (list_any p xs) (list_any p ys) (any_there p xs ys f) (any_there p ys xs g)

module _ (t : TableValue) (k r : Key) (changed : is_in k (changed_keys t) ≡ true) (sent : is_in r (refs_sent (entry_of t k)) ≡ true) (unknown : at_key t is_incomplete r ≡ true) where
  by_mine : (u : Key) (e : Entry) (o : Option Content) → entry_of t u ≡ Some e → mine_of e ≡ o → vouches e r ≡ true → is_in u (with_users t (changed_keys t) (ranked (with_unknown t [] (changed_keys t)))) ≡ true
  by_mine u e None h m v =
      users_kept t (changed_keys t) (ranked (with_unknown t [] (changed_keys t))) u
      (changed_in t u e h (changed_gone e r m (and_one (option_map_or (λ c. refers c r) (held_of e) false) (keeps (mine_of e) r) v).0))
  by_mine u e (Some c) h m v =
      let kept : refers c r ≡ true = ap (λ (o : Option Content). keeps o r) (sym m) ∙ (and_one (option_map_or (λ c. refers c r) (held_of e) false) (keeps (mine_of e) r) v).1 in
      users_in t (changed_keys t) (ranked (with_unknown t [] (changed_keys t))) r u
      (named_ranked (with_unknown t [] (changed_keys t)) r ∙ unknown_in t [] (changed_keys t) k r changed sent unknown)
      (user_uses t r u ∙ ap (λ (o : Option Entry). option_map_or (λ e. uses e r) o false) h ∙ ap (λ (o : Option Content). option_map_or (λ c. refers c r) o false) m ∙ kept)

  voucher_in : (u : Key) → vouches_at t r u ≡ true → is_in u (vouchers t (changed_keys t)) ≡ true
  voucher_in u v =
      let one = some_passed (λ e. vouches e r) (entry_of t u) v in
      named_ranked (with_users t (changed_keys t) (ranked (with_unknown t [] (changed_keys t)))) u ∙ by_mine u one.0 (mine_of one.0) one.1 refl one.2

  -- the vouchers vouch for what anyone does
  pub same_vouched : list_any (vouches_at t r) (vouchers t (changed_keys t)) ≡ list_any (vouches_at t r) (keys_by_rank t)
  same_vouched =
      same_any (vouches_at t r) (vouchers t (changed_keys t)) (keys_by_rank t)
      (λ u i v. let one = some_passed (λ e. vouches e r) (entry_of t u) v in entry_in t u one.0 one.1)
      (λ u i v. voucher_in u v)

open_alike : (i a b : Bool) → (i ≡ true → a ≡ b) → (i && not a) ≡ (i && not b)
open_alike true a b h = ap not (h refl)
open_alike false a b h = refl

sent_alike : (t : TableValue) (k r : Key) → is_in k (changed_keys t) ≡ true → is_in r (refs_sent (entry_of t k)) ≡ true → is_loose_in t (vouched_among t [] (vouchers t (changed_keys t))) r ≡ is_loose t r
sent_alike t k r changed sent =
    ap (λ b. at_key t is_incomplete r && not b) (by_all t [] (vouchers t (changed_keys t)) r)
    ∙ loose_case (at_key t is_incomplete r) (list_any (vouches_at t r) (vouchers t (changed_keys t)))
    ∙ open_alike (at_key t is_incomplete r) (list_any (vouches_at t r) (vouchers t (changed_keys t))) (list_any (vouches_at t r) (keys_by_rank t)) (λ unknown. same_vouched t k r changed sent unknown)

find_there : (p q : Key → Bool) (ks : List Key) → ((k : Key) → is_in k ks ≡ true → p k ≡ q k) → find p ks ≡ find q ks
find_there p q [] h = refl
find_there p q (k ∷ ks) h = λ i. cond (h k (in_any (k ∷ ks) k (inl refl)) i) (Some k) (find_there p q ks (λ j there. h j (or_right (is_key j k) (is_in j ks) there)) i)

among_there : (p q : Key → Bool) (t : TableValue) (ks : List Key) → ((k r : Key) → is_in k ks ≡ true → is_in r (refs_sent (entry_of t k)) ≡ true → p r ≡ q r) → loose_among p t ks ≡ loose_among q t ks
among_there p q t [] h = refl
among_there p q t (k ∷ ks) h = λ i.
    option_or (option_map (IncompleteRef k) (find_there p q (refs_sent (entry_of t k)) (λ r. h k r (in_any (k ∷ ks) k (inl refl))) i))
    (among_there p q t ks (λ j r there. h j r (or_right (is_key j k) (is_in j ks) there)) i)

-- the test by the vouchers, over what is changed, is the test
pub loose_by_vouchers : (t : TableValue) → loose_among (is_loose_in t (vouched_among t [] (vouchers t (changed_keys t)))) t (changed_keys t) ≡ loose_refusal t
loose_by_vouchers t =
    among_there (is_loose_in t (vouched_among t [] (vouchers t (changed_keys t)))) (is_loose t) t (changed_keys t) (λ k r. sent_alike t k r)
    ∙ among_changed (is_loose t) t (keys_by_rank t)
