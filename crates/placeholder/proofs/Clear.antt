-- What a table is that is clear to be sent.
use Rattle.std.proofs.Common.{◌≡◌, Bool, true, false, not, ◌&&◌, is_some, cond, List, [], ◌∷◌, Option, Some, None, refl, sym, ◌∙◌, ap, inl, inr}
use Rattle.std.proofs.lemmas.Bool.{cases_Bool, and_right, not_from_true}
use Rattle.std.specs.List.{list_any, find, filter}
use Rattle.std.specs.Option.{option_map_or, option_map, option_or}
use Rattle.std.specs.FinMap as fin
use Rattle.osm_base.specs.Content.{refers, refs_of}
use Rattle.osm_base.specs.declared.key.Key.{Key}
use Rattle.osm_base.specs.declared.content.Content.{Content}
use Rattle.osm_base.proofs.Tests.{never, some_passed, none_of_both}
use Rattle.osm_table.specs.declared.entry.Entry.{Entry}
use Rattle.osm_table.specs.Table.{TableValue, entry_of, keys_by_rank, mine_of, is_incomplete}
use Rattle.upload_order.specs.declared.refusal.PlanRefusal.{PlanRefusal}
use Rattle.upload_order.specs.declared.refusal.PlanRefusal.TheVariants.{IncompleteRef}
use Rattle.upload_order.specs.Kinds.{at_key, is_sent}
use Rattle.upload_order.specs.Plan.{made}
use Rattle.upload_order.specs.Refused.{is_open, open_of, open_refusal, vouches, is_loose, refs_sent, loose_among, loose_refusal, stuck_of, stuck_refusal, upload_refusal}
use Rattle.upload_order.specs.Pieces.{vouches_at, loose_of}
use Rattle.upload_order.proofs.ClearLaw.{none_among, and_not, entry_is, clear_stuck}
use Rattle.upload_order.proofs.Entries.{IsIn, find_none, none_found, in_filter, filter_in, any_in, in_any}
use Rattle.upload_order.proofs.Lists.{any_is, any_of}

-- No entry is in conflict, each Incomplete reference of what is sent is vouched for, and no relation is stuck.
pub record IsClear (t : TableValue) : Type 0 where
  pub no_conflict : (k : Key) (e : Entry) → entry_of t k ≡ Some e → is_open e ≡ false
  pub vouched : (k r : Key) (e : Entry) (c : Content) → entry_of t k ≡ Some e → mine_of e ≡ Some c → is_sent e ≡ true → refers c r ≡ true → at_key t is_incomplete r ≡ true → (u : Key) × (f : Entry) × (entry_of t u ≡ Some f) × (vouches f r ≡ true)
  pub no_stuck : (made t).stuck ≡ []

is_there : (t : TableValue) (k : Key) (e : Entry) → entry_of t k ≡ Some e → IsIn k (keys_by_rank t)
is_there t k e h = any_in (keys_by_rank t) k (sym (fin.contains_key-keys t.entries k) ∙ ap is_some h)

not_open : (ks : List Key) → open_of ks ≡ None → (k : Key) → IsIn k ks → ⊥
not_open [] e k i = i
not_open (j ∷ js) e k i = cc

pub no_member : {A : Type 0} (xs : List A) → ((x : A) → IsIn x xs → ⊥) → xs ≡ []
no_member [] h = refl
no_member (x ∷ xs) h = absurd (h x (inl refl))

-- a table that isn't refused is clear
pub is_clear : (t : TableValue) → upload_refusal t ≡ None → IsClear t
is_clear t h = record {
  no_conflict = λ k e is. elim (cases_Bool (is_open e)) [
    | inl o ↦ absurd (not_open (filter (at_key t is_open) (keys_by_rank t)) (none_of_both (open_refusal t) _ h).0 k (filter_in (at_key t is_open) (keys_by_rank t) k (is_there t k e is) (ap (λ x. option_map_or is_open x false) is ∙ o)))
    | inr o ↦ o
  ];
  vouched = λ k r e c is m sent f i.
      let none = (none_of_both (loose_refusal t) (stuck_refusal t) (none_of_both (open_refusal t) _ h).1).0 in
      let refs : refs_sent (entry_of t k) ≡ refs_of c =
      ap refs_sent is ∙ ap (λ b. cond b (option_map_or refs_of (mine_of e) []) []) sent ∙ ap (λ (o : Option Content). option_map_or refs_of o []) m in
      let not_loose = none_found (is_loose t) (refs_of c) r (ap (find (is_loose t)) (sym refs) ∙ none_among (is_loose t) t (keys_by_rank t) k none (is_there t k e is)) (any_in (refs_of c) r f) in
      let some = any_is (vouches_at t r) (keys_by_rank t) (and_not (at_key t is_incomplete r) (list_any (vouches_at t r) (keys_by_rank t)) not_loose i) in
      let user = entry_is r (entry_of t some.0) some.2 in
      (some.0, user.0, user.1, user.2);
  no_stuck = clear_stuck t h;
}

none_of_any : (loose : Key → Bool) (t : TableValue) (ks : List Key) → ((k : Key) → loose_of loose t k ≡ None) → loose_among loose t ks ≡ None
none_of_any loose t [] h = refl
none_of_any loose t (k ∷ ks) h = ap (λ (o : Option Key). option_or (option_map (IncompleteRef k) o) (loose_among loose t ks)) (h k) ∙ none_of_any loose t ks h

sent_case : (b : Bool) (o : Option Content) (r : Key) → IsIn r (cond b (option_map_or refs_of o []) []) → (b ≡ true) × ((c : Content) × (o ≡ Some c) × IsIn r (refs_of c))
sent_case true None r i = absurd i
sent_case true (Some c) r i = (refl, (c, refl, i))
sent_case false o r i = absurd i

-- a reference that is sent
sent_ref : (o : Option Entry) (r : Key) → IsIn r (refs_sent o) → (e : Entry) × (c : Content) × (o ≡ Some e) × (mine_of e ≡ Some c) × (is_sent e ≡ true) × (refers c r ≡ true)
sent_ref None r i = absurd i
sent_ref (Some e) r i = let x = sent_case (is_sent e) (mine_of e) r i in (e, x.1.0, refl, x.1.1, x.0, in_any (refs_of x.1.0) r x.1.2)

-- and a clear one isn't refused
pub not_refused : (t : TableValue) → IsClear t → upload_refusal t ≡ None
not_refused t ok =
    let none_open : open_refusal t ≡ None = ap open_of (no_member (filter (at_key t is_open) (keys_by_rank t)) (λ k i.
    let x = some_passed is_open (entry_of t k) (in_filter (at_key t is_open) (keys_by_rank t) k i).1 in
    never (is_open x.0) x.2 (ok.no_conflict k x.0 x.1))) in
    let loose : loose_refusal t ≡ None = none_of_any (is_loose t) t (keys_by_rank t) (λ k. find_none (is_loose t) (refs_sent (entry_of t k)) (λ r i.
    elim (cases_Bool (at_key t is_incomplete r)) [
      | inl y ↦ (
          let x = sent_ref (entry_of t k) r i in
          let v = ok.vouched k r x.0 x.1 x.2 x.3 x.4 x.5 y in
          and_right (at_key t is_incomplete r) _ (not_from_true (list_any (vouches_at t r) (keys_by_rank t)) (any_of (vouches_at t r) (keys_by_rank t) v.0 (is_there t v.0 v.1 v.2) (ap (λ o. option_map_or (λ e. vouches e r) o false) v.2 ∙ v.3))))
      | inr n ↦ ap (λ b. b && not (list_any (vouches_at t r) (keys_by_rank t))) n
    ])) in
    let stuck : stuck_refusal t ≡ None = ap stuck_of ok.no_stuck in
    ap (λ (o : Option PlanRefusal). option_or o (option_or (loose_refusal t) (stuck_refusal t))) none_open
    ∙ ap (λ (o : Option PlanRefusal). option_or o (stuck_refusal t)) loose
    ∙ stuck
