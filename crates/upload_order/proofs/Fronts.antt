-- What is accepted one by one whatever is picked, is each run of the first changes with fresh picks, and the other way round.
use Rattle.std.proofs.Common.{◌≡◌, ℕ, ◌+◌, ℤ, List, [], ◌∷◌, ◌++◌, Option, Some, None, refl, sym, ◌∙◌, ap, subst, inl, inr}
use Rattle.std.proofs.lemmas.Bool.{cases_Bool}
use Rattle.std.specs.FinMap as fin
use Rattle.osm_base.specs.Rank.{rank_cmp, is_key}
use Rattle.osm_base.specs.declared.key.Key.{Key}
use Rattle.osm_base.proofs.RisingKeys.{key_itself}
use Rattle.osm_table.specs.Table.{TableValue}
use Rattle.renamed_content.specs.Renamed.{renamed}
use Rattle.upload_order.specs.declared.change.Change.{Change}
use Rattle.upload_order.specs.declared.change.Change.TheVariants.{Create, Modify, Delete}
use Rattle.upload_order.specs.Fronts.{RunsEachFront}
use Rattle.upload_order.specs.Rename.{called, with_id}
use Rattle.upload_order.specs.Run.{pick_for, picks_left, Ran, Ended, Stopped, run_from, picked, IsAmong, AreFresh}
use Rattle.upload_order.specs.Pieces.{on_refusal}
use Rattle.upload_order.specs.World.{World, WorldEntry, stands, refusal, after, IsSoundWorld, IsFresh, Accepts, AcceptsSoundly}
use Rattle.upload_order.specs.declared.world.WorldRefusal.{WorldRefusal}
use Rattle.upload_order.proofs.Basics.{none_some, at_key_put, at_other}
use Rattle.upload_order.proofs.Runs.{fresh_later, runs_through, accepts_front}
use Rattle.upload_order.proofs.Worlds.{accepted_sound}

-- a run that ends accepts its first change
on_ended : (o : Option WorldRefusal) (n : ℕ) (r : Ran) (v : World) → on_refusal o n r ≡ Ended v → (o ≡ None) × (r ≡ Ended v)
on_ended None n r v e = (refl, e)
on_ended (Some why) n r v e = cc

-- wherever one begins to count
ended_from : (n m : ℕ) (w v : World) (cs : List Change) (ps : List ℤ) → run_from n w cs ps ≡ Ended v → run_from m w cs ps ≡ Ended v
ended_from n m w v [] ps e = e
ended_from n m w v (c ∷ cs) ps e =
    let x = on_ended (refusal w c (pick_for c ps)) n (run_from (n + 1) (after w c (pick_for c ps)) cs (picks_left c ps)) v e in
    ap (λ (o : Option WorldRefusal). on_refusal o m (run_from (m + 1) (after w c (pick_for c ps)) cs (picks_left c ps))) x.0
    ∙ ended_from (n + 1) (m + 1) (after w c (pick_for c ps)) v cs (picks_left c ps) x.1

abbrev ended_world : World → Ran → World
ended_world w (Ended v) = v
ended_world w (Stopped n r) = w

one_end : (v w : World) → Ended v ≡ Ended w → v ≡ w
one_end v w e = ap (ended_world v) e

-- a sound world is sound after each run that ends
pub runs_sound : (n : ℕ) (w v : World) (cs : List Change) (ps : List ℤ) → IsSoundWorld w → run_from n w cs ps ≡ Ended v → IsSoundWorld v
runs_sound n w v [] ps s e = subst IsSoundWorld (one_end w v e) s
runs_sound n w v (c ∷ cs) ps s e =
    let x = on_ended (refusal w c (pick_for c ps)) n (run_from (n + 1) (after w c (pick_for c ps)) cs (picks_left c ps)) v e in
    runs_sound (n + 1) (after w c (pick_for c ps)) v cs (picks_left c ps) (accepted_sound w c (pick_for c ps) s x.0) x.1

pub sound_first : (t : TableValue) (w : World) (cs : List Change) (P : World → Type 0) → AcceptsSoundly t w cs P → IsSoundWorld w
sound_first t w [] P a = a.0
sound_first t w (c ∷ cs) P a = a.0

pub accepts_all : (t : TableValue) (w : World) (cs : List Change) (P : World → Type 0) → AcceptsSoundly t w cs P → Accepts t w cs P
accepts_all t w [] P a = a.1
accepts_all t w (c ∷ cs) P a = λ p f. let x = a.1 p f in (x.0, accepts_all t (after w c p) cs P x.1)

-- From one by one to each run.
pub fronts_run : (t : TableValue) (P : World → Type 0) (w : World) (cs : List Change) → AcceptsSoundly t w cs P → RunsEachFront t w cs P
fronts_run t P w cs a front back picks is fresh =
    let all = subst (λ (xs : List Change). Accepts t w xs P) (sym is) (accepts_all t w cs P a) in
    let r = runs_through t (λ v. Accepts t v back P) 1 w front picks (accepts_front t w front back P all) fresh in
    (r.0, r.1, runs_sound 1 w r.0 front picks (sound_first t w cs P a) r.1, λ none. subst (λ (xs : List Change). Accepts t r.0 xs P) none r.2)

-- where nothing stands after an object was put, nothing stood before
not_before : (m : fin.FinMap rank_cmp WorldEntry) (k q : Key) (e : WorldEntry) → fin.get (fin.insert m k e) q ≡ None → fin.get m q ≡ None
not_before m k q e none = elim (cases_Bool (is_key q k)) [
  | inl i ↦ none_some e (fin.get (fin.insert m k e) q) none (at_key_put m k q e i)
  | inr o ↦ sym (at_other m k q e o) ∙ none
]

-- under a fresh id nothing stands
fresh_new : (w : World) (t : TableValue) (cs : List Change) (ps : List ℤ) → AreFresh w t cs ps → (q : Key) → IsAmong q (picked cs ps) → stands w q ≡ None
fresh_new w t [] ps f q i = absurd i
fresh_new w t (Create k c ∷ cs) [] f q i = absurd f
fresh_new w t (Create k c ∷ cs) (p ∷ ps) f q (inl e) = ap (stands w) (sym e) ∙ f.1
fresh_new w t (Create k c ∷ cs) (p ∷ ps) f q (inr i) = fresh_new w t cs ps f.4 q i
fresh_new w t (Modify k v c ∷ cs) ps f q i = fresh_new w t cs ps f q i
fresh_new w t (Delete k v ∷ cs) ps f q i = fresh_new w t cs ps f q i

-- the picks for a change and those after it
abbrev with_pick : Change → ℤ → List ℤ → List ℤ
with_pick (Create k c) p ps = p ∷ ps
with_pick (Modify k v c) p ps = ps
with_pick (Delete k v) p ps = ps

run_first : (n : ℕ) (w : World) (c : Change) (p : ℤ) (cs : List Change) (ps : List ℤ) → run_from n w (c ∷ cs) (with_pick c p ps) ≡ on_refusal (refusal w c p) n (run_from (n + 1) (after w c p) cs ps)
run_first n w (Create k c) p cs ps = refl
run_first n w (Modify k v c) p cs ps = refl
run_first n w (Delete k v) p cs ps = refl

-- fresh picks after a change with a fresh pick, and that one, are fresh before it
fresh_before : (w : World) (t : TableValue) (c : Change) (p : ℤ) (cs : List Change) (ps : List ℤ) → IsFresh w t c p → AreFresh (after w c p) t cs ps → AreFresh w t (c ∷ cs) (with_pick c p ps)
fresh_before w t (Create k c) p cs ps f g =
    let e : WorldEntry = record { version = 1; content = Some (renamed (called w.names) c) } in
    let put = after w (Create k c) p in
    let itself = at_key_put w.entries (with_id k p) (with_id k p) e (key_itself (with_id k p)) in
    let later = fresh_later put w t cs ps (λ q i n. not_before w.entries (with_id k p) q e n) g in
    (f.0, f.1, f.2, λ i. none_some e (stands put (with_id k p)) (fresh_new put t cs ps g (with_id k p) i) itself, later)
fresh_before w t (Modify k v c) p cs ps f g = fresh_later (after w (Modify k v c) p) w t cs ps (λ q i n. not_before w.entries (called w.names k) q _ n) g
fresh_before w t (Delete k v) p cs ps f g = fresh_later (after w (Delete k v) p) w t cs ps (λ q i n. not_before w.entries (called w.names k) q _ n) g

-- each run of the first changes accepts the first of them, and goes on with the others
first_runs : (t : TableValue) (P : World → Type 0) (w : World) (c : Change) (cs : List Change) (p : ℤ) → RunsEachFront t w (c ∷ cs) P → IsFresh w t c p
    → (front back : List Change) (ps : List ℤ) → front ++ back ≡ cs → AreFresh (after w c p) t front ps
    → (refusal w c p ≡ None) × ((v : World) × (run_from 1 (after w c p) front ps ≡ Ended v) × IsSoundWorld v × (back ≡ [] → P v))
first_runs t P w c cs p h f front back ps is g =
    let r = h (c ∷ front) back (with_pick c p ps) (ap (λ (xs : List Change). c ∷ xs) is) (fresh_before w t c p front ps f g) in
    let x = on_ended (refusal w c p) 1 (run_from (1 + 1) (after w c p) front ps) r.0 (sym (run_first 1 w c p front ps) ∙ r.1) in
    (x.0, (r.0, ended_from (1 + 1) 1 (after w c p) r.0 front ps x.1, r.2, r.3))

rest_runs : (t : TableValue) (P : World → Type 0) (w : World) (c : Change) (cs : List Change) (p : ℤ) → RunsEachFront t w (c ∷ cs) P → IsFresh w t c p → RunsEachFront t (after w c p) cs P
rest_runs t P w c cs p h f front back ps is g = (first_runs t P w c cs p h f front back ps is g).1

-- From each run to one by one.
pub fronts_accept : (t : TableValue) (P : World → Type 0) (w : World) (cs : List Change) → RunsEachFront t w cs P → AcceptsSoundly t w cs P
fronts_accept t P w [] h =
    let r = h [] [] [] refl tt in
    let same = one_end w r.0 r.1 in
    (subst IsSoundWorld (sym same) r.2, subst P (sym same) (r.3 refl))
fronts_accept t P w (c ∷ cs) h =
    let r = h [] (c ∷ cs) [] refl tt in
    (subst IsSoundWorld (sym (one_end w r.0 r.1)) r.2, λ p f. ((first_runs t P w c cs p h f [] cs [] refl tt).0, fronts_accept t P (after w c p) cs (rest_runs t P w c cs p h f)))
