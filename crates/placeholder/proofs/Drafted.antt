-- What is drafted where an answer isn't taken.
use Rattle.std.proofs.Common.{◌≡◌, ℕ, ℤ, zero, suc, ◌+◌, ◌<◌, drop, get_or, length, List, [], ◌∷◌, Option, Some, Result, Ok, Err, refl, sym, ◌∙◌, ap, subst, arith}
use Rattle.std.specs.List.{slice_get}
use Rattle.std.proofs.Math.Seq.{drop-cons}
use Rattle.std.specs.FinMap as fin
use Rattle.osm_base.specs.declared.key.Key.{Key}
use Rattle.osm_base.specs.declared.content.Content.{Content}
use Rattle.osm_table.specs.declared.entry.Entry.{Entry}
use Rattle.osm_table.specs.Table.{TableValue, entry_of, with_entry, without_entry, users}
use Rattle.dataset.specs.Draft.{DraftValue, drafted}
use Rattle.dataset.specs.Exact.{mine_at}
use Rattle.dataset.proofs.Changes.{drafted_none}
use Rattle.placeholder.specs.declared.fault.ConfirmFault.{ConfirmFault}
use Rattle.placeholder.specs.declared.fault.ConfirmFault.TheVariants.{Plan, WrongAnswer, IdTaken, Memory}
use Rattle.upload_order.specs.declared.change.Change.{Change}
use Rattle.upload_order.specs.Rename.{with_id}
use Rattle.renamed_content.specs.Renamed.{renamed}
use Rattle.placeholder.specs.declared.answer.Answer.{Answer}
use Rattle.placeholder.specs.Confirm.{Drafts, and_then, taken_at, first_change, other_changes}
use Rattle.placeholder.specs.Confirmed.{made_entry, moved}
use Rattle.placeholder.specs.Drafting.{all_moved, answered_by, drafts_from, made, made_from}

-- the table after an object got its id, by its steps
pub made_goes : (t u u1 u2 : TableValue) (k : Key) (id n : ℤ) (us : List Key) (c d : Content) (e : Entry) → n ≡ id → us ≡ users t k → mine_at (entry_of u k) ≡ Some c
    → u1 ≡ all_moved (moved k n) u us → u2 ≡ without_entry u1 k → d ≡ renamed (moved k n) c → e ≡ made_entry d
    → with_entry u2 (with_id k n) e ≡ made t u k id
made_goes t u u1 u2 k id n us c d e same all mine moves leaves names stands =
    (λ i. with_entry (leaves i) (with_id k n) (stands i))
    ∙ (λ i. with_entry (without_entry (moves i) k) (with_id k n) (made_entry (names i)))
    ∙ (λ i. with_entry (without_entry (all_moved (moved k (same i)) u (all i)) k) (with_id k (same i)) (made_entry (renamed (moved k (same i)) c)))
    ∙ ap (made_from u k id (users t k)) (sym mine)

-- the draft that changes nothing
pub start_is : (t : TableValue) (d : DraftValue) → d ≡ record { puts = fin.empty; next = t.next } → drafted d t ≡ t
start_is t d e = ap (λ x. drafted x t) e ∙ drafted_none t.next t

first_at : (cs : List Change) (i : ℕ) → first_change (drop i cs) ≡ slice_get cs i
first_at [] zero = refl
first_at [] (suc i) = refl
first_at (c ∷ cs) zero = refl
first_at (c ∷ cs) (suc i) = first_at cs i

others_at : (cs : List Change) (i : ℕ) → other_changes (drop i cs) ≡ drop (suc i) cs
others_at [] zero = refl
others_at [] (suc i) = refl
others_at (c ∷ cs) zero = refl
others_at (c ∷ cs) (suc i) = others_at cs i

-- one answer more
pub draft_goes : (t : TableValue) (old new : DraftValue) (n : ℕ) (cs : List Change) (answers : List Answer) (i : ℕ) (d : Answer) (w : Result TableValue ConfirmFault) → i < length answers
    → drafts_from t n (drafted old t) (drop i cs) (drop i answers) ≡ w
    → taken_at n (drafted old t) (slice_get cs i) (get_or answers i d) (answered_by t (drafted old t) (get_or answers i d)) ≡ Ok (drafted new t)
    → drafts_from t (n + 1) (drafted new t) (drop (i + 1) cs) (drop (i + 1) answers) ≡ w
draft_goes t old new n cs answers i d w lt whole taken =
    let one : i + 1 ≡ suc i = omega arith in
    (λ k. drafts_from t (n + 1) (drafted new t) (drop (one k) cs) (drop (one k) answers))
    ∙ ap (λ (xs : List Change). drafts_from t (n + 1) (drafted new t) xs (drop (suc i) answers)) (sym (others_at cs i))
    ∙ sym (ap (λ x. and_then x (λ v. drafts_from t (n + 1) v (other_changes (drop i cs)) (drop (suc i) answers)))
    (ap (λ o. taken_at n (drafted old t) o (get_or answers i d) (answered_by t (drafted old t) (get_or answers i d))) (first_at cs i) ∙ taken))
    ∙ sym (ap (drafts_from t n (drafted old t) (drop i cs)) (drop-cons answers i d lt))
    ∙ whole

-- a fault stays through what follows
fault_stays : (t : TableValue) (f : ConfirmFault) (x : Result TableValue ConfirmFault) (g : TableValue → Result TableValue ConfirmFault) → Drafts t (Err f) x → Drafts t (Err f) (and_then x g)
fault_stays t (Plan r) x g h = ap (λ y. and_then y g) h
fault_stays t (WrongAnswer n) x g h = ap (λ y. and_then y g) h
fault_stays t (IdTaken k) x g h = ap (λ y. and_then y g) h
fault_stays t Memory x g h = tt

-- one answer that isn't taken
pub fault_goes : (t : TableValue) (old : DraftValue) (n : ℕ) (cs : List Change) (answers : List Answer) (i : ℕ) (d : Answer) (w : Result TableValue ConfirmFault) (f : ConfirmFault) → i < length answers
    → drafts_from t n (drafted old t) (drop i cs) (drop i answers) ≡ w
    → Drafts t (Err f) (taken_at n (drafted old t) (slice_get cs i) (get_or answers i d) (answered_by t (drafted old t) (get_or answers i d))) → Drafts t (Err f) w
fault_goes t old n cs answers i d w f lt whole h =
    let u = drafted old t in
    let a = get_or answers i d in
    subst (Drafts t (Err f)) (sym (ap (drafts_from t n u (drop i cs)) (drop-cons answers i d lt)) ∙ whole)
    (fault_stays t f (taken_at n u (first_change (drop i cs)) a (answered_by t u a)) (λ v. drafts_from t (n + 1) v (other_changes (drop i cs)) (drop (suc i) answers))
    (subst (λ (o : Option Change). Drafts t (Err f) (taken_at n u o a (answered_by t u a))) (sym (first_at cs i)) h))
