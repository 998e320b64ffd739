-- What is drafted of answers is the confirmed table, and that is sound.
use Rattle.std.proofs.Common.{◌≡◌, ℕ, ◌+◌, ◌==◌, ◌≤◌, ℤ, pos, negsuc, nat_lt, nat_le, Bool, true, false, cond, is_some, List, [], ◌∷◌, map, Option, Some, None, Result, Ok, Err, IfOk, refl, sym, ◌∙◌, ap, subst, inl, inr, arith, eqb-true}
use Rattle.std.proofs.lemmas.Bool.{ltb-true, leb-true, and_parts, cases_Bool}
use Rattle.osm_base.specs.Rank.{is_key}
use Rattle.std.specs.Option.{option_map, option_map_or}
use Rattle.osm_base.specs.Meta.{empty_meta}
use Rattle.osm_base.specs.Content.{refers}
use Rattle.osm_base.specs.RisingKeys.{is_in}
use Rattle.osm_table.proofs.Each.{each_with}
use Rattle.osm_table.specs.declared.entry.Base.{Base}
use Rattle.osm_table.specs.declared.entry.Entry.TheVariants.{Incomplete, Known}
use Rattle.upload_order.specs.Refused.{upload_refusal}
use Rattle.upload_order.proofs.Basics.{both}
use Rattle.upload_order.proofs.Renaming.{renamed_from, renamed_itself}
use Rattle.upload_order.proofs.Sounds.{sound_of, positive_is}
use Rattle.placeholder.proofs.Created as created
use Rattle.placeholder.proofs.DraftLaw.{AreUsersOf, own_users, drafted_made}
use Rattle.placeholder.proofs.Moved.{moved_mine}
use Rattle.placeholder.proofs.Named.{AreNamed, known_moved, named_again, left_again, none_named}
use Rattle.placeholder.proofs.Names.{called_self}
use Rattle.placeholder.proofs.Steady.{IsSentAs}
use Rattle.placeholder.proofs.Steadily.{IsSteady, negative_key, answer_step, known_in, new_moved, within_moved, given_to, served, start_steady}
use Rattle.placeholder.proofs.Whole.{used_ref}
use Rattle.osm_base.specs.declared.key.Key.{Key}
use Rattle.osm_base.specs.declared.content.Content.{Content}
use Rattle.osm_base.proofs.RisingKeys.{one_key}
use Rattle.osm_base.proofs.Tests.{never, none_from_test}
use Rattle.osm_table.specs.declared.entry.Base.TheVariants.{Live, Gone}
use Rattle.osm_table.specs.declared.entry.Entry.{Entry}
use Rattle.osm_table.specs.Table.{TableValue, entry_of, with_entry, mine_of, users, uses, IsPositive}
use Rattle.dataset.specs.Exact.{mine_at}
use Rattle.dataset.specs.Draft.{DraftValue, drafted}
use Rattle.dataset.specs.Sound.{IsSound}
use Rattle.upload_order.specs.declared.change.Change.{Change}
use Rattle.upload_order.specs.declared.change.Change.TheVariants.{Create, Modify, Delete}
use Rattle.upload_order.specs.Plan.{plan}
use Rattle.upload_order.specs.Rename.{Names, called, with_id, is_positive}
use Rattle.renamed_content.specs.Renamed.{renamed}
use Rattle.placeholder.specs.declared.answer.Answer.{Answer}
use Rattle.placeholder.specs.declared.answer.Answer.TheVariants as answer
use Rattle.placeholder.specs.declared.fault.ConfirmFault.{ConfirmFault}
use Rattle.placeholder.specs.declared.fault.ConfirmFault.TheVariants.{WrongAnswer, IdTaken}
use Rattle.placeholder.specs.Answers.{IsWithin, IsNewTo}
use Rattle.placeholder.specs.Confirm.{is_given, is_next, is_answer, is_taken, id_told, key_given, Drafts, and_then, confirms_from}
use Rattle.placeholder.specs.Confirmed.{moved, moved_entry, moved_change, named_by, based_on, confirmed}
use Rattle.placeholder.specs.Drafting.{answered_by, sent_content, made_from, drafts_from}

given_is : (id : ℤ) → is_given id ≡ true → IsPositive id
given_is (pos n) h = let x = and_parts (nat_lt 0 n) (nat_le n 1000000000000000000) h in (ltb-true 0 n x.0, leb-true n 1000000000000000000 x.1)
given_is (negsuc n) h = cc

next_is : (v w : ℕ) → is_next v w ≡ true → (v + 1 ≤ 2000000000) × (w ≡ v + 1)
next_is v w h = let x = and_parts (nat_lt v 2000000000) (w == v + 1) h in let y = ltb-true v 2000000000 x.0 in (omega (arith, y), eqb-true w (v + 1) x.1)

-- an answer is within the limits
answer_within : (c : Change) (a : Answer) → is_answer c a ≡ true → IsWithin c (id_told a)
answer_within (Create k c) (answer.Create placeholder id) h = given_is id (and_parts (is_key k placeholder) (is_given id) h).1
answer_within (Create k c) (answer.Modify key v) h = cc
answer_within (Create k c) (answer.Delete key v) h = cc
answer_within (Modify k x c) (answer.Create placeholder id) h = cc
answer_within (Modify k x c) (answer.Modify key v) h = (next_is x v (and_parts (is_key k key) (is_next x v) h).1).0
answer_within (Modify k x c) (answer.Delete key v) h = cc
answer_within (Delete k x) (answer.Create placeholder id) h = cc
answer_within (Delete k x) (answer.Modify key v) h = cc
answer_within (Delete k x) (answer.Delete key v) h = (next_is x v (and_parts (is_key k key) (is_next x v) h).1).0

free_id : (u : TableValue) (c : Change) (a : Answer) → is_answer c a ≡ true → is_taken u a ≡ false → IsNewTo u c (id_told a)
free_id u (Create k c) (answer.Create placeholder id) h n = none_from_test (entry_of u (with_id k id)) (ap (λ (x : Key). is_some (entry_of u (with_id x id))) (one_key k placeholder (and_parts (is_key k placeholder) (is_given id) h).0) ∙ n)
free_id u (Create k c) (answer.Modify key v) h n = cc
free_id u (Create k c) (answer.Delete key v) h n = cc
free_id u (Modify k x c) a h n = tt
free_id u (Delete k x) a h n = tt

-- What is drafted of one answer is the confirmed table.
draft_create : (t u : TableValue) (k : Key) (c : Content) (cs : List Change) (p : ℤ) → IsSteady u (Create k c ∷ cs) → AreUsersOf t u → made_from u k p (users t k) (mine_at (entry_of u k)) ≡ confirmed u (Create k c) p
draft_create t u k c cs p a from =
    let x = a.steady.0 in
    let n = negative_key u a.sound k c x in
    drafted_made t u k p c n (ap mine_at x.there ∙ x.mine) a.settled
    (λ j e b h m. renamed_itself (moved k p) b (λ r y. called_self ((k, p) ∷ []) r ((sound_of u a.sound).held_refs j r e b h m y)))
    (λ d y. renamed_itself (moved k p) d (λ r z. created.f_other k p n r (elim (cases_Bool (is_key r k)) as (λ _. is_key r k ≡ false) [ inl i ↦ never (refers d r) z (ap (refers d) (one_key r k i) ∙ y) | inr i ↦ i ])))
    from

sent_is : (u : TableValue) (k : Key) (c : Content) → IsSentAs u k c → sent_content (mine_at (entry_of u k)) ≡ c
sent_is u k c (inl x) = ap (λ o. sent_content (mine_at o)) x.0.there ∙ ap sent_content x.0.mine
sent_is u k c (inr x) = ap (λ o. sent_content (mine_at o)) x.0.there ∙ ap sent_content x.0.mine ∙ sym x.1

draft_one : (t u : TableValue) (c : Change) (cs : List Change) (a : Answer) → IsSteady u (c ∷ cs) → AreUsersOf t u → is_answer c a ≡ true → answered_by t u a ≡ confirmed u c (id_told a)
draft_one t u (Create k c) cs (answer.Create placeholder id) s from h =
    let one = one_key k placeholder (and_parts (is_key k placeholder) (is_given id) h).0 in
    (λ i. made_from u (sym one i) id (users t (sym one i)) (mine_at (entry_of u (sym one i)))) ∙ draft_create t u k c cs id s from
draft_one t u (Create k c) cs (answer.Modify key v) s from h = cc
draft_one t u (Create k c) cs (answer.Delete key v) s from h = cc
draft_one t u (Modify k x c) cs (answer.Create placeholder id) s from h = cc
draft_one t u (Modify k x c) cs (answer.Modify key v) s from h =
    let both = and_parts (is_key k key) (is_next x v) h in
    let one = one_key k key both.0 in
    (λ i. with_entry u (sym one i) (based_on (Live ((next_is x v both.1).1 i) (sent_content (mine_at (entry_of u (sym one i)))) empty_meta) (entry_of u (sym one i))))
    ∙ ap (λ (d : Content). with_entry u k (based_on (Live (x + 1) d empty_meta) (entry_of u k))) (sent_is u k c s.steady.0)
draft_one t u (Modify k x c) cs (answer.Delete key v) s from h = cc
draft_one t u (Delete k x) cs (answer.Create placeholder id) s from h = cc
draft_one t u (Delete k x) cs (answer.Modify key v) s from h = cc
draft_one t u (Delete k x) cs (answer.Delete key v) s from h =
    let both = and_parts (is_key k key) (is_next x v) h in
    let one = one_key k key both.0 in
    λ i. with_entry u (sym one i) (based_on (Gone ((next_is x v both.1).1 i) empty_meta) (entry_of u (sym one i)))

some_of : (f : Key → Key) (o : Option Content) (d : Content) → option_map (renamed f) o ≡ Some d → (b : Content) × (o ≡ Some b) × (renamed f b ≡ d)
some_of f None d h = cc
some_of f (Some b) d h = (b, refl, both (renamed f b) d (Some (renamed f b)) refl h)

-- who refers to a placeholder then
abbrev UsersAt : TableValue → Key → Entry → Type 0
UsersAt t j e = (r : Key) → uses e r ≡ true → is_positive r.id ≡ false → is_in j (users t r) ≡ true

uses_based : (e : Entry) (b : Base) (r : Key) → uses (based_on b (Some e)) r ≡ uses e r
uses_based Incomplete b r = refl
uses_based (Known old m d) b r = refl

users_set : (t u : TableValue) (k : Key) (e : Entry) (b : Base) → entry_of u k ≡ Some e → AreUsersOf t u → AreUsersOf t (with_entry u k (based_on b (entry_of u k)))
users_set t u k e b there from =
    subst (λ (o : Option Entry). AreUsersOf t (with_entry u k (based_on b o))) (sym there)
    (λ j r g h x n. each_with (UsersAt t) u k (based_on b (Some e)) (λ j g h r x n. from j r g h x n) (λ r x n. from k r e there (sym (uses_based e b r) ∙ x) n) j g h r x n)

users_again : (t u : TableValue) (c : Change) (cs : List Change) (p : ℤ) → IsSteady u (c ∷ cs) → IsNewTo u c p → IsWithin c p → AreUsersOf t u → AreUsersOf t (confirmed u c p)
users_again t u (Create k c) cs p a new within from =
    let first = a.steady.0 in
    let neg = negative_key u a.sound k c first in
    let f = moved k p in
    λ j r g h x n. created.cases_u k p neg u a.sound a.settled first.entry c first.there first.mine within new (UsersAt t)
    (λ j g away apart h r x n.
    let d = used_ref (mine_of (moved_entry f g)) r x in
    let b = some_of f (mine_of g) d.0 (sym (moved_mine f g) ∙ d.1) in
    let s = renamed_from ((k, p) ∷ []) b.0 r (subst (λ (y : Content). refers y r ≡ true) (sym b.2) d.2) in
    elim (cases_Bool (is_key s.0 k)) [
      | inl i ↦ never (is_positive r.id) (ap (λ (y : Key). is_positive y.id) (sym s.2 ∙ created.f_here k p neg s.0 i) ∙ positive_is p within) n
      | inr i ↦ (
          let one : s.0 ≡ r = sym (created.f_other k p neg s.0 i) ∙ s.2 in
          from j r g h (ap (λ o. option_map_or (λ c. refers c r) o false) b.1 ∙ subst (λ (y : Key). refers b.0 y ≡ true) one s.1) n)
    ])
    (λ r x n.
    let s = renamed_from ((k, p) ∷ []) c r x in
    let pos = positive_is s.0.id (served c a.steady.2 s.0 s.1) in
    never (is_positive r.id) (ap (λ (y : Key). is_positive y.id) (sym s.2 ∙ called_self ((k, p) ∷ []) s.0 pos) ∙ pos) n)
    j g h r x n
users_again t u (Modify k v c) cs p a new within from = let e = known_in u (Modify k v c) cs a in users_set t u k e.0 (Live (v + 1) c empty_meta) e.1 from
users_again t u (Delete k v) cs p a new within from = let e = known_in u (Delete k v) cs a in users_set t u k e.0 (Gone (v + 1) empty_meta) e.1 from

-- what is kept from answer to answer
pub record IsKept (t : TableValue) (ns : Names) (u : TableValue) (cs : List Change) : Type 0 where
  pub steady : IsSteady u (map (moved_change (called ns)) cs)
  pub named : AreNamed ns u
  pub from : AreUsersOf t u

kept_again : (t : TableValue) (ns : Names) (u : TableValue) (c : Change) (cs : List Change) (a : Answer) → IsKept t ns u (c ∷ cs) → is_answer c a ≡ true → is_taken u a ≡ false
    → IsKept t (named_by c (id_told a) ns) (confirmed u (moved_change (called ns) c) (id_told a)) cs
kept_again t ns u c cs a kept h n =
    let g = called ns in
    let p = id_told a in
    let within = answer_within c a h in
    let new = new_moved g u c p (free_id u c a h n) in
    let known = known_moved g u c (known_in u (moved_change g c) (map (moved_change g) cs) kept.steady) in record {
      steady = subst (IsSteady (confirmed u (moved_change g c) p)) (left_again ns u c p cs kept.named known) (answer_step u (moved_change g c) (map (moved_change g) cs) p kept.steady new (within_moved g c p within));
      named = named_again g ns u c p kept.named known (given_to c p within);
      from = users_again t u (moved_change g c) (map (moved_change g) cs) p kept.steady new (within_moved g c p within) kept.from;
    }

answer_moved : (g : Key → Key) (c : Change) (a : Answer) → is_answer (moved_change g c) a ≡ is_answer c a
answer_moved g (Create k c) (answer.Create placeholder id) = refl
answer_moved g (Create k c) (answer.Modify key v) = refl
answer_moved g (Create k c) (answer.Delete key v) = refl
answer_moved g (Modify k x c) (answer.Create placeholder id) = refl
answer_moved g (Modify k x c) (answer.Modify key v) = refl
answer_moved g (Modify k x c) (answer.Delete key v) = refl
answer_moved g (Delete k x) (answer.Create placeholder id) = refl
answer_moved g (Delete k x) (answer.Modify key v) = refl
answer_moved g (Delete k x) (answer.Delete key v) = refl

step_same : (b d : Bool) (x y : ConfirmFault) (v w : TableValue) (F G : TableValue → Result TableValue ConfirmFault) → (b ≡ true → d ≡ false → F v ≡ G w)
    → and_then (cond b (cond d (Err x) (Ok v)) (Err y)) F ≡ and_then (cond b (cond d (Err x) (Ok w)) (Err y)) G
step_same true true x y v w F G h = refl
step_same true false x y v w F G h = h refl refl
step_same false d x y v w F G h = refl

step_sound : (b d : Bool) (x y : ConfirmFault) (w : TableValue) (G : TableValue → Result TableValue ConfirmFault) → (b ≡ true → d ≡ false → IfOk (G w) IsSound) → IfOk (and_then (cond b (cond d (Err x) (Ok w)) (Err y)) G) IsSound
step_sound true true x y w G h = tt
step_sound true false x y w G h = h refl refl
step_sound false d x y w G h = tt

-- What is drafted is what is confirmed.
pub drafts_same : (t : TableValue) (answers : List Answer) (cs : List Change) (n : ℕ) (ns : Names) (u : TableValue) → IsKept t ns u cs → drafts_from t n u cs answers ≡ confirms_from n ns u cs answers
drafts_same t [] cs n ns u kept = refl
drafts_same t (a ∷ more) [] n ns u kept = refl
drafts_same t (a ∷ more) (c ∷ cs) n ns u kept =
    let g = called ns in
    let w = confirmed u (moved_change g c) (id_told a) in
    step_same (is_answer c a) (is_taken u a) (IdTaken (key_given a)) (WrongAnswer n) (answered_by t u a) w (λ v. drafts_from t (n + 1) v cs more) (λ v. confirms_from (n + 1) (named_by c (id_told a) ns) v cs more)
    (λ h f. ap (λ v. drafts_from t (n + 1) v cs more) (draft_one t u (moved_change g c) (map (moved_change g) cs) a kept.steady kept.from (answer_moved g c a ∙ h))
    ∙ drafts_same t more cs (n + 1) (named_by c (id_told a) ns) w (kept_again t ns u c cs a kept h f))

-- And it is sound.
pub confirms_sound : (t : TableValue) (answers : List Answer) (cs : List Change) (n : ℕ) (ns : Names) (u : TableValue) → IsKept t ns u cs → IfOk (confirms_from n ns u cs answers) IsSound
confirms_sound t [] cs n ns u kept = kept.steady.sound
confirms_sound t (a ∷ more) [] n ns u kept = tt
confirms_sound t (a ∷ more) (c ∷ cs) n ns u kept =
    let g = called ns in
    let w = confirmed u (moved_change g c) (id_told a) in
    step_sound (is_answer c a) (is_taken u a) (IdTaken (key_given a)) (WrongAnswer n) w (λ v. confirms_from (n + 1) (named_by c (id_told a) ns) v cs more)
    (λ h f. confirms_sound t more cs (n + 1) (named_by c (id_told a) ns) w (kept_again t ns u c cs a kept h f))

pub start_kept : (t : TableValue) → IsSound t → upload_refusal t ≡ None → IsKept t [] t (plan t)
start_kept t is clear = record { steady = start_steady t is clear; named = none_named t; from = own_users t }

-- so is what is drafted
pub drafted_sound : (t : TableValue) (r : Result DraftValue ConfirmFault) (x : Result TableValue ConfirmFault) → Drafts t r x → IfOk x IsSound → IfOk r (λ d. IsSound (drafted d t))
drafted_sound t (Ok d) x h s = subst (λ y. IfOk y IsSound) h s
drafted_sound t (Err f) x h s = tt
