-- Who is loose, by the set of those that are vouched for and by what is changed.
use Rattle.std.proofs.Common.{◌≡◌, ◌&&◌, ◌||◌, Bool, true, false, not, cond, is_some, Option, Some, None, List, [], ◌∷◌, refl, sym, ◌∙◌, ap}
use Rattle.std.proofs.Math.Bool.{or-false, and-false}
use Rattle.std.specs.List.{filter, find, list_any}
use Rattle.std.specs.Option.{option_map_or, option_map, option_or}
use Rattle.osm_base.specs.Content.{refers, refs_of}
use Rattle.osm_base.specs.RisingKeys.{is_in}
use Rattle.osm_base.specs.declared.key.Key.{Key}
use Rattle.osm_base.specs.declared.content.Content.{Content}
use Rattle.osm_base.proofs.Tests.{none_from_test, none_before_map, none_of_both}
use Rattle.osm_table.specs.declared.entry.Entry.{Entry}
use Rattle.osm_table.specs.Table.{TableValue, entry_of, is_changed, is_incomplete, is_living, keys_by_rank, mine_of, users, uses}
use Rattle.dataset.proofs.Listed.{user_uses}
use Rattle.upload_order.specs.declared.refusal.PlanRefusal.{PlanRefusal}
use Rattle.upload_order.specs.declared.refusal.PlanRefusal.TheVariants.{IncompleteRef}
use Rattle.upload_order.specs.Counts.{put_where}
use Rattle.upload_order.specs.Kinds.{at_key, held_at, held_list, held_of}
use Rattle.upload_order.specs.Part.{changed_keys}
use Rattle.upload_order.specs.Refused.{keeps, keeps_at, vouches, vouched_among, is_loose, is_loose_in, loose_among, loose_refusal, refs_sent}
use Rattle.upload_order.specs.Pieces.{vouches_at, loose_of}
use Rattle.upload_order.proofs.Changed.{not_sent}
use Rattle.upload_order.proofs.FallSteps.{find_alike}
use Rattle.upload_order.proofs.FallTurns.{in_put}
use Rattle.upload_order.proofs.FallStart.{held_case}

and_swap : (a b c : Bool) → (a && (b && c)) ≡ (b && (a && c))
and_swap true true c = refl
and_swap true false c = refl
and_swap false true c = refl
and_swap false false c = refl

-- what a base refers to, and whether it is kept, is what an entry vouches for
by_entry : (o : Option Entry) (r : Key) → (is_in r (option_map_or refs_of (held_at o) []) && option_map_or (λ e. keeps (mine_of e) r) o false) ≡ option_map_or (λ e. vouches e r) o false
by_entry None r = refl
by_entry (Some e) r = ap (λ b. b && keeps (mine_of e) r) (held_case (held_of e) r)

by_one : (t : TableValue) (s : List Key) (r k : Key) → is_in r (put_where (λ r. at_key t is_incomplete r && keeps_at t k r) s (held_list t k)) ≡ (is_in r s || (at_key t is_incomplete r && vouches_at t r k))
by_one t s r k =
    in_put (λ r. at_key t is_incomplete r && keeps_at t k r) s (held_list t k) r
    ∙ ap (λ b. is_in r s || b) (and_swap (is_in r (held_list t k)) (at_key t is_incomplete r) (keeps_at t k r) ∙ ap (λ b. at_key t is_incomplete r && b) (by_entry (entry_of t k) r))

or_case : (s i v w : Bool) → ((s || (i && v)) || (i && w)) ≡ (s || (i && (v || w)))
or_case true i v w = refl
or_case false true v w = refl
or_case false false v w = refl

pub by_all : (t : TableValue) (s ks : List Key) (r : Key) → is_in r (vouched_among t s ks) ≡ (is_in r s || (at_key t is_incomplete r && list_any (vouches_at t r) ks))
by_all t s [] r = sym (or-false (is_in r s)) ∙ ap (λ b. is_in r s || b) (sym (and-false (at_key t is_incomplete r)))
by_all t s (k ∷ ks) r =
    by_all t (put_where (λ r. at_key t is_incomplete r && keeps_at t k r) s (held_list t k)) ks r
    ∙ ap (λ b. b || (at_key t is_incomplete r && list_any (vouches_at t r) ks)) (by_one t s r k)
    ∙ or_case (is_in r s) (at_key t is_incomplete r) (vouches_at t r k) (list_any (vouches_at t r) ks)

pub loose_case : (i v : Bool) → (i && not (i && v)) ≡ (i && not v)
loose_case true v = refl
loose_case false v = refl

loose_alike : (t : TableValue) (r : Key) → is_loose_in t (vouched_among t [] (keys_by_rank t)) r ≡ is_loose t r
loose_alike t r =
    ap (λ b. at_key t is_incomplete r && not b) (by_all t [] (keys_by_rank t) r)
    ∙ loose_case (at_key t is_incomplete r) (list_any (vouches_at t r) (keys_by_rank t))

among_alike : (p q : Key → Bool) → ((k : Key) → p k ≡ q k) → (t : TableValue) (ks : List Key) → loose_among p t ks ≡ loose_among q t ks
among_alike p q h t [] = refl
among_alike p q h t (k ∷ ks) = λ i. option_or (option_map (IncompleteRef k) (find_alike p q h (refs_sent (entry_of t k)) i)) (among_alike p q h t ks i)

find_case : (p q : Key → Bool) (k : Key) (ks : List Key) → (p k ≡ false → q k ≡ false) → (find p ks ≡ None → find q ks ≡ None) → (b : Bool) → p k ≡ b → cond b (Some k) (find p ks) ≡ None →
    cond (q k) (Some k) (find q ks) ≡ None
find_case p q k ks h rest true at e = cc
find_case p q k ks h rest false at e = ap (λ b. cond b (Some k) (find q ks)) (h at) ∙ rest e

find_none : (p q : Key → Bool) → ((k : Key) → p k ≡ false → q k ≡ false) → (ks : List Key) → find p ks ≡ None → find q ks ≡ None
find_none p q h [] e = refl
find_none p q h (k ∷ ks) e = find_case p q k ks (h k) (find_none p q h ks) (p k) refl e

in_none : (i v : Bool) → (i && not false) ≡ false → (i && not v) ≡ false
in_none false v e = refl
in_none true v e = cc

-- what isn't loose where nobody vouches for anything isn't loose at all
pub none_looser : (t : TableValue) (s ks : List Key) → loose_among (is_loose_in t []) t ks ≡ None → loose_among (is_loose_in t s) t ks ≡ None
none_looser t s [] e = refl
none_looser t s (k ∷ ks) e =
    let parts = none_of_both _ _ e in
    let first = find_none (is_loose_in t []) (is_loose_in t s) (λ r. in_none (at_key t is_incomplete r) (is_in r s)) (refs_sent (entry_of t k)) (none_before_map (IncompleteRef k) _ parts.0) in
    ap (λ (o : Option Key). option_or (option_map (IncompleteRef k) o) (loose_among (is_loose_in t s) t ks)) first ∙ none_looser t s ks parts.1

-- of what isn't changed nothing is sent
still_sends : (o : Option Entry) → option_map_or is_changed o false ≡ false → refs_sent o ≡ []
still_sends None h = refl
still_sends (Some e) h = ap (λ b. cond b (option_map_or refs_of (mine_of e) []) []) (not_sent e h)

among_case : (b : Bool) (loose : Key → Bool) (t : TableValue) (k : Key) (ks js : List Key) → (b ≡ false → refs_sent (entry_of t k) ≡ []) → loose_among loose t js ≡ loose_among loose t ks
    → loose_among loose t (cond b (k ∷ js) js) ≡ loose_among loose t (k ∷ ks)
among_case true loose t k ks js h e = ap (option_or (option_map (IncompleteRef k) (loose_of loose t k))) e
among_case false loose t k ks js h e = e ∙ sym (ap (λ (rs : List Key). option_or (option_map (IncompleteRef k) (find loose rs)) (loose_among loose t ks)) (h refl))

pub among_changed : (loose : Key → Bool) (t : TableValue) (ks : List Key) → loose_among loose t (filter (at_key t is_changed) ks) ≡ loose_among loose t ks
among_changed loose t [] = refl
among_changed loose t (k ∷ ks) = among_case (at_key t is_changed k) loose t k ks (filter (at_key t is_changed) ks) (still_sends (entry_of t k)) (among_changed loose t ks)

-- the test by the set, over what is changed, is the test
pub loose_by_set : (t : TableValue) → loose_among (is_loose_in t (vouched_among t [] (keys_by_rank t))) t (changed_keys t) ≡ loose_refusal t
loose_by_set t =
    among_changed (is_loose_in t (vouched_among t [] (keys_by_rank t))) t (keys_by_rank t)
    ∙ among_alike (is_loose_in t (vouched_among t [] (keys_by_rank t))) (is_loose t) (loose_alike t) t (keys_by_rank t)

-- where nothing sent refers to an Incomplete object, nobody has to vouch for one
pub none_loose : (t : TableValue) (s ks : List Key) (o : Option PlanRefusal) → s ≡ [] → ks ≡ changed_keys t → o ≡ loose_among (is_loose_in t s) t ks → is_some o ≡ false → None ≡ loose_refusal t
none_loose t s ks o empty changed is none =
    sym (
    sym (loose_by_set t)
    ∙ none_looser t (vouched_among t [] (keys_by_rank t)) (changed_keys t) (
    ap (loose_among (is_loose_in t []) t) (sym changed)
    ∙ ap (λ (v : List Key). loose_among (is_loose_in t v) t ks) (sym empty)
    ∙ sym is
    ∙ none_from_test o none
    )
    )

kept_case : (o : Option Content) (r : Key) → is_some o ≡ true → option_map_or (λ c. refers c r) o false ≡ keeps o r
kept_case None r h = cc
kept_case (Some c) r h = refl

-- a living object keeps a key that it uses
pub kept_user : (t : TableValue) (k r : Key) (e : Entry) → entry_of t k ≡ Some e → is_living e ≡ true → is_in k (users t r) ≡ keeps_at t k r
kept_user t k r e h l =
    user_uses t r k
    ∙ ap (λ (o : Option Entry). option_map_or (λ e. uses e r) o false) h
    ∙ kept_case (mine_of e) r l
    ∙ sym (ap (λ (o : Option Entry). option_map_or (λ e. keeps (mine_of e) r) o false) h)
