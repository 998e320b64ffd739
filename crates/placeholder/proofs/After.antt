-- After the answers to any number of first changes the table is again clear to be sent, and its plan is the rest.
use Rattle.std.proofs.Common.{◌≡◌, ℕ, ◌+◌, ℤ, List, [], ◌∷◌, ◌++◌, map, Option, Some, None, refl, sym, ◌∙◌, ap, subst, inl, inr}
use Rattle.std.proofs.lemmas.Bool.{cases_Bool}
use Rattle.osm_base.specs.Rank.{is_key}
use Rattle.osm_base.specs.Meta.{empty_meta}
use Rattle.osm_base.specs.declared.key.Key.{Key}
use Rattle.osm_table.specs.declared.entry.Base.TheVariants.{Live, Gone}
use Rattle.osm_table.specs.Table.{TableValue, entry_of, with_entry}
use Rattle.upload_order.specs.declared.change.Change.{Change}
use Rattle.upload_order.specs.declared.change.Change.TheVariants.{Create, Modify, Delete}
use Rattle.upload_order.specs.Plan.{plan}
use Rattle.upload_order.specs.Rename.{Names, called, with_id}
use Rattle.renamed_content.specs.Renamed.{renamed}
use Rattle.upload_order.specs.Run.{Ran, Ended, Stopped, run_from, pick_for, picks_left, picked, IsAmong, AreFresh}
use Rattle.upload_order.specs.Pieces.{on_refusal}
use Rattle.upload_order.specs.World.{World, Accepts, IsEdited, IsFresh, refusal, after}
use Rattle.upload_order.specs.declared.world.WorldRefusal.{WorldRefusal}
use Rattle.upload_order.proofs.Accepted.{plan_accepted}
use Rattle.upload_order.proofs.Runs.{sound_backs, runs_through, accepts_front, fresh_first, fresh_rest, other_pick}
use Rattle.placeholder.specs.Answers.{IsNewTo, AreNew, AreNewFrom, IsAnswer, AreAnswers}
use Rattle.placeholder.specs.Confirmed.{based_on, moved_change, named_by, confirmed, confirmed_from, confirmed_all, names_from, names_of}
use Rattle.placeholder.specs.Resumed.{IsReady}
use Rattle.placeholder.proofs.LookUps.{made_none, set_none}
use Rattle.placeholder.proofs.Names.{AreAmong, head_name, tail_name, changes_stay, after_same}
use Rattle.placeholder.proofs.Named.{AreNamed, IsGivenTo, known_moved, named_again, left_again, none_named}
use Rattle.placeholder.proofs.Resumed.{IsKnownIn, first_known, ready_again, rest_again}
use Rattle.placeholder.proofs.Steadily.{within_moved}

-- What is asked of a change with other references, and what follows it.
module _ (f : Key → Key) where
  fresh_moved : (w : World) (t : TableValue) (c : Change) (p : ℤ) → IsFresh w t c p → IsFresh w t (moved_change f c) p
  fresh_moved w t (Create k c) p h = h
  fresh_moved w t (Modify k v c) p h = h
  fresh_moved w t (Delete k v) p h = h

fresh_table : (w : World) (t u : TableValue) (cs : List Change) (ps : List ℤ) → ((q : Key) → IsAmong q (picked cs ps) → entry_of t q ≡ None → entry_of u q ≡ None) → AreFresh w t cs ps → AreFresh w u cs ps
fresh_table w t u [] ps h f = tt
fresh_table w t u (Create k c ∷ cs) [] h f = absurd f
fresh_table w t u (Create k c ∷ cs) (p ∷ ps) h f = (f.0, f.1, h (with_id k p) (inl refl) f.2, f.3, fresh_table w t u cs ps (λ q i n. h q (inr i) n) f.4)
fresh_table w t u (Modify k x c ∷ cs) ps h f = fresh_table w t u cs ps h f
fresh_table w t u (Delete k x ∷ cs) ps h f = fresh_table w t u cs ps h f

-- the ids that are left are new to the confirmed table
fresh_confirmed : (f : Key → Key) (w v : World) (t : TableValue) (c : Change) (cs : List Change) (ps : List ℤ) → IsKnownIn t c → AreFresh w t (c ∷ cs) ps → AreFresh v t cs (picks_left c ps) → AreFresh v (confirmed t (moved_change f c) (pick_for c ps)) cs (picks_left c ps)
fresh_confirmed f w v t (Create k c) cs [] known fresh later = absurd fresh
fresh_confirmed f w v t (Create k c) cs (p ∷ ps) known fresh later =
    fresh_table v t (confirmed t (Create k (renamed f c)) p) cs ps (λ q i n. made_none t k (renamed f c) p q (other_pick q (with_id k p) (picked cs ps) fresh.3 i) n) later
fresh_confirmed f w v t (Modify k x c) cs ps known fresh later =
    fresh_table v t (with_entry t k (based_on (Live (x + 1) (renamed f c) empty_meta) (entry_of t k))) cs ps (λ q i n. set_none t k q known.0 (based_on (Live (x + 1) (renamed f c) empty_meta) (entry_of t k)) known.1 n) later
fresh_confirmed f w v t (Delete k x) cs ps known fresh later =
    fresh_table v t (with_entry t k (based_on (Gone (x + 1) empty_meta) (entry_of t k))) cs ps (λ q i n. set_none t k q known.0 (based_on (Gone (x + 1) empty_meta) (entry_of t k)) known.1 n) later

-- the server has the names too
pub among_again : (ns : Names) (w : World) (c : Change) (p : ℤ) → AreAmong ns w.names → AreAmong (named_by c p ns) (after w c p).names
among_again ns w (Create k c) p m = λ r x h. elim (cases_Bool (is_key r k)) [
  | inl i ↦ head_name k p w.names r i ∙ sym (head_name k p ns r i) ∙ h
  | inr i ↦ tail_name k p w.names r i ∙ m r x (sym (tail_name k p ns r i) ∙ h)
]
among_again ns w (Modify k v c) p m = m
among_again ns w (Delete k v) p m = m

abbrev world_of : World → Ran → World
world_of w (Ended v) = v
world_of w (Stopped n r) = w

run_step : (o : Option WorldRefusal) (n : ℕ) (rest : Ran) (v : World) → on_refusal o n rest ≡ Ended v → (o ≡ None) × (rest ≡ Ended v)
run_step None n rest v e = (refl, e)
run_step (Some r) n rest v e = cc

new_to : (w : World) (t : TableValue) (c : Change) (p : ℤ) → IsFresh w t c p → IsNewTo t c p
new_to w t (Create k c) p h = h.2
new_to w t (Modify k v c) p h = tt
new_to w t (Delete k v) p h = tt

positive_pick : (w : World) (t : TableValue) (c : Change) (p : ℤ) → IsFresh w t c p → IsGivenTo c p
positive_pick w t (Create k c) p h = h.0
positive_pick w t (Modify k v c) p h = tt
positive_pick w t (Delete k v) p h = tt

through : (v : World) (cs ds : List Change) (ns : Names) (n : ℕ) (w : World) (t : TableValue) (ps : List ℤ) → IsReady w t → AreNamed ns t → AreAmong ns w.names → plan t ≡ map (moved_change (called ns)) (cs ++ ds) → AreAnswers w t cs ps → run_from n w cs ps ≡ Ended v
    → AreNewFrom ns t cs ps × IsReady v (confirmed_from ns t cs ps) × (plan (confirmed_from ns t cs ps) ≡ map (moved_change (called (names_from ns cs ps))) ds)
through v [] ds ns n w t ps ready a m whole answers run = (tt, subst (λ (x : World). IsReady x t) (ap (world_of w) run) ready, whole)
through v (c ∷ cs) ds ns n w t ps ready a m whole answers run =
    let p = pick_for c ps in
    let f = called ns in
    let step = run_step (refusal w c p) n (run_from (n + 1) (after w c p) cs (picks_left c ps)) v run in
    let fresh = fresh_first w t c cs ps answers.0 in
    let answer : IsAnswer w t (moved_change f c) p = (fresh_moved f w t c p fresh, within_moved f c p answers.1.0) in
    let known = known_moved f t c (first_known t w ready p (moved_change f c) (map (moved_change f) (cs ++ ds)) whole) in
    let same = after_same w ns a.given m c p in
    let later = fresh_rest w t c cs ps step.0 answers.0 in
    let more =
    through v cs ds (named_by c p ns) (n + 1) (after w c p) (confirmed t (moved_change f c) p) (picks_left c ps)
    (subst (λ (x : World). IsReady x (confirmed t (moved_change f c) p)) same (ready_again w t (moved_change f c) (map (moved_change f) (cs ++ ds)) p ready whole answer))
    (named_again f ns t c p a known (positive_pick w t c p fresh))
    (among_again ns w c p m)
    (rest_again w t (moved_change f c) (map (moved_change f) (cs ++ ds)) p ready whole answer ∙ left_again ns t c p (cs ++ ds) a known)
    (fresh_confirmed f w (after w c p) t c cs ps known answers.0 later, answers.1.1)
    step.1 in
    ((new_to w t c p fresh, more.0), more.1, more.2)

pub after_all : (w v : World) (t : TableValue) (cs ds : List Change) (ps : List ℤ) → IsReady w t → plan t ≡ cs ++ ds → AreAnswers w t cs ps → run_from 1 w cs ps ≡ Ended v
    → AreNew t cs ps × IsReady v (confirmed_all t cs ps) × (plan (confirmed_all t cs ps) ≡ map (moved_change (called (names_of cs ps))) ds)
after_all w v t cs ds ps ready whole answers run = through v cs ds [] 1 w t ps ready (none_named t) (λ r p h. cc) (whole ∙ sym (changes_stay (cs ++ ds))) answers run

-- the server takes the first changes
pub front_taken : (w : World) (t : TableValue) (cs ds : List Change) (ps : List ℤ) → IsReady w t → plan t ≡ cs ++ ds → AreFresh w t cs ps → (v : World) × (run_from 1 w cs ps ≡ Ended v)
front_taken w t cs ds ps ready whole fresh =
    let all : Accepts t w (cs ++ ds) (IsEdited t w) = subst (λ (xs : List Change). Accepts t w xs (IsEdited t w)) whole (plan_accepted t w ready.sound ready.clear (sound_backs t w ready.world ready.holds) ready.holds ready.alone) in
    let x = runs_through t (λ v. Accepts t v ds (IsEdited t w)) 1 w cs ps (accepts_front t w cs ds (IsEdited t w) all) fresh in
    (x.0, x.1)
