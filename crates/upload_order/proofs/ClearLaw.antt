-- A table that is not refused is clear to be sent.
use Rattle.std.proofs.Common.{◌≡◌, Bool, true, false, not, ◌&&◌, cond, List, [], ◌∷◌, Option, Some, None, is_some, Result, Ok, Err, refl, sym, ◌∙◌, ap, subst, inl, inr}
use Rattle.std.proofs.lemmas.Bool.{and_parts}
use Rattle.std.specs.List.{list_any, find}
use Rattle.std.specs.Option.{option_map_or}
use Rattle.std.specs.FinMap as fin
use Rattle.osm_base.specs.Content.{refers, refs_of}
use Rattle.osm_base.specs.declared.key.Key.{Key}
use Rattle.osm_base.specs.declared.content.Content.{Content}
use Rattle.osm_base.proofs.Tests.{none_before_map, none_of_both}
use Rattle.osm_table.specs.declared.entry.Entry.{Entry}
use Rattle.osm_table.specs.Table.{TableValue, entry_of, keys_by_rank, mine_of, is_incomplete}
use Rattle.upload_order.specs.declared.change.Change.{Change}
use Rattle.upload_order.specs.declared.refusal.PlanRefusal.{PlanRefusal}
use Rattle.upload_order.specs.declared.refusal.PlanRefusal.TheVariants.{IncompleteRef}
use Rattle.upload_order.specs.Kinds.{at_key, held_of}
use Rattle.upload_order.specs.Plan.{made, plan}
use Rattle.upload_order.specs.Refused.{keeps, vouches, is_loose, refs_sent, loose_among, stuck_of, open_refusal, loose_refusal, stuck_refusal, upload_refusal, upload}
use Rattle.upload_order.specs.Pieces.{vouches_at, loose_of, unless}
use Rattle.upload_order.proofs.Entries.{IsIn, none_found, any_in}
use Rattle.upload_order.proofs.Lists.{any_is}
use Rattle.upload_order.proofs.PlanUps.{content_is}
use Rattle.upload_order.proofs.Along.{sent_is}
use Rattle.upload_order.proofs.Conditions.{IsVouched}

abbrev of_ok : Result (List Change) PlanRefusal → List Change
of_ok (Ok xs) = xs
of_ok (Err r) = []

pub unless_ok : (o : Option PlanRefusal) (ps cs : List Change) → unless o ps ≡ Ok cs → (o ≡ None) × (cs ≡ ps)
unless_ok None ps cs e = (refl, sym (ap of_ok e))
unless_ok (Some r) ps cs e = cc

pub not_stuck : (ks : List Key) → stuck_of ks ≡ None → ks ≡ []
not_stuck [] e = refl
not_stuck (k ∷ ks) e = cc

pub none_among : (loose : Key → Bool) (t : TableValue) (ks : List Key) (k : Key) → loose_among loose t ks ≡ None → IsIn k ks → loose_of loose t k ≡ None
none_among loose t [] k e i = absurd i
none_among loose t (j ∷ js) k e (inl s) = subst (λ (x : Key). loose_of loose t x ≡ None) s (none_before_map (IncompleteRef j) (loose_of loose t j) (none_of_both _ _ e).0)
none_among loose t (j ∷ js) k e (inr i) = none_among loose t js k (none_of_both _ _ e).1 i

pub and_not : (a b : Bool) → (a && not b) ≡ false → a ≡ true → b ≡ true
and_not true true e f = refl
and_not true false e f = cc
and_not false b e f = cc

pub entry_is : (r : Key) (o : Option Entry) → option_map_or (λ e. vouches e r) o false ≡ true → (e : Entry) × (o ≡ Some e) × (vouches e r ≡ true)
entry_is r None h = cc
entry_is r (Some e) h = (e, refl, h)

-- no refusal, so each Incomplete reference of what is sent has a base that refers to it, and no relation is stuck
pub clear_vouched : (t : TableValue) → upload_refusal t ≡ None → IsVouched t
clear_vouched t h k r e c entry mine up f i =
    let none = (none_of_both (loose_refusal t) (stuck_refusal t) (none_of_both (open_refusal t) _ h).1).0 in
    let there : IsIn k (keys_by_rank t) = any_in (keys_by_rank t) k (sym (fin.contains_key-keys t.entries k) ∙ ap is_some entry) in
    let refs : refs_sent (entry_of t k) ≡ refs_of c =
    ap refs_sent entry ∙ ap (λ b. cond b (option_map_or refs_of (mine_of e) []) []) (sent_is e up) ∙ ap (λ (o : Option Content). option_map_or refs_of o []) mine in
    let not_loose = none_found (is_loose t) (refs_of c) r (ap (find (is_loose t)) (sym refs) ∙ none_among (is_loose t) t (keys_by_rank t) k none there) (any_in (refs_of c) r f) in
    let some = any_is (vouches_at t r) (keys_by_rank t) (and_not (at_key t is_incomplete r) (list_any (vouches_at t r) (keys_by_rank t)) not_loose i) in
    let user = entry_is r (entry_of t some.0) some.2 in
    let held = content_is (held_of user.0) r (and_parts (option_map_or (λ c. refers c r) (held_of user.0) false) (keeps (mine_of user.0) r) user.2).0 in
    (some.0, user.0, held.0, user.1, held.1, held.2)

pub clear_stuck : (t : TableValue) → upload_refusal t ≡ None → (made t).stuck ≡ []
clear_stuck t h = not_stuck (made t).stuck (none_of_both (loose_refusal t) (stuck_refusal t) (none_of_both (open_refusal t) _ h).1).1

pub upload_ok : (t : TableValue) (cs : List Change) → upload t ≡ Ok cs → (upload_refusal t ≡ None) × (cs ≡ plan t)
upload_ok t cs e = unless_ok (upload_refusal t) (plan t) cs e
