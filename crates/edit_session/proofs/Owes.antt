-- What becomes of each edit of a run.
use Rattle.std.proofs.Common.{◌≡◌, ℕ, Bool, true, false, not, cond, List, [], ◌∷◌, map, drop, Option, None, Some, refl, sym, subst, inl, inr}
use Rattle.std.proofs.lemmas.Bool.{true≢false, or_parts}
use Rattle.std.proofs.lemmas.List.Elements.{All-head, All-tail}
use Rattle.osm_base.specs.declared.content.Content.{Content}
use Rattle.osm_base.specs.declared.key.Key.{Key}
use Rattle.osm_base.proofs.Tests.{by_bool}
use Rattle.osm_table.specs.declared.entry.Base.{Base}
use Rattle.osm_table.specs.declared.entry.Entry.{Entry}
use Rattle.osm_table.specs.declared.entry.Entry.TheVariants.{Incomplete, Known}
use Rattle.osm_table.specs.Table.{entry_of, held_by, is_new}
use Rattle.osm_table.specs.Same.{same_mine}
use Rattle.osm_table.proofs.SameLaws.{same_mine_decides}
use Rattle.dataset.specs.Sound.{IsSound}
use Rattle.placeholder.specs.declared.answer.Answer.{Answer}
use Rattle.edit_script.specs.declared.step.Act.TheVariants.{Look}
use Rattle.edit_script.specs.declared.step.Look.TheVariants.{Upload}
use Rattle.edit_script.specs.declared.step.Step.{Step}
use Rattle.edit_script.specs.Place.{is_meeting}
use Rattle.edit_history.specs.Machine.{State, first_state}
use Rattle.editor_laws.specs.Answered.{KeepsAllBut}
use Rattle.editor_laws.specs.Kept.{wish, is_edited, Keeps}
use Rattle.edit_steps.specs.declared.limits.Limits.{Limits}
use Rattle.edit_steps.specs.Given.{Given, first_given}
use Rattle.edit_steps.specs.States.{AreSound, states_before}
use Rattle.edit_steps.specs.Turn.{step_turn}
use Rattle.edit_session.specs.Meet.{own_machine}
use Rattle.edit_session.specs.Owed.{AreOwed, Fate, IsOwed, answers_at, says_at, tells_at}
use Rattle.edit_session.specs.Owed.Fate.{over, stays, joined, has, has_joined, gone, said, answered}
use Rattle.edit_session.specs.Said.{IsKept, alone}
use Rattle.edit_session.specs.Session.{met, run}
use Rattle.edit_session.specs.Uploads.{AreUploads, IsUpload}
use Rattle.edit_session.proofs.Keeps.{step_kept}

-- what isn't edited, and isn't in conflict, has what its base holds
calm_base : (b : Base) (c : Content) → is_edited (Known b (Some c) None) ≡ false → held_by b ≡ Some c
calm_base b c h = sym ((same_mine_decides (Some c) (held_by b)).0 (by (same_mine (Some c) (held_by b)) (or_parts (is_new b) (not (same_mine (Some c) (held_by b))) h).1))
  where
    by : (s : Bool) → not s ≡ false → s ≡ true
    by true e = refl
    by false e = absurd (true≢false e)

module _ (limits : Limits) (k : Key) (at : Step × Given × State) (rest : List (Step × Given × State)) (next : State) (on : (x : Entry) → entry_of next.now k ≡ Some x → is_edited x ≡ true → Fate limits k (wish (Some x)) rest) where
  -- by how it is kept
  by_kept : (e : Entry) → IsOwed limits at k e (wish (Some e)) → (o : Option Entry) → entry_of next.now k ≡ o → Keeps (tells_at limits at k) e o → Fate limits k (wish (Some e)) (at ∷ rest)
  by_kept e owed None is (inl h) = absurd h
  by_kept e owed (Some Incomplete) is (inl h) = absurd h
  by_kept e owed (Some (Known b m f)) is (inl h) = stays (wish (Some e)) at rest e owed (subst (λ (w : Option Content). Fate limits k w rest) h.1 (on (Known b m f) is h.0))
  by_kept Incomplete owed o is (inr h) = absurd (true≢false (sym owed.edited))
  by_kept (Known old mine conflict) owed None is (inr (inl h)) = absurd h
  by_kept (Known old mine conflict) owed (Some Incomplete) is (inr (inl h)) = absurd h
  by_kept (Known old mine conflict) owed (Some (Known theirs m (Some x))) is (inr (inl h)) = absurd h
  by_kept (Known old mine conflict) owed (Some (Known theirs None None)) is (inr (inl h)) = absurd (true≢false (sym h.1))
  by_kept (Known old mine conflict) owed (Some (Known theirs (Some c) None)) is (inr (inl h)) =
      by_bool (is_edited (Known theirs (Some c) None))
      (λ edits. joined (wish (Some (Known old mine conflict))) at rest (Known old mine conflict) owed theirs c h (on (Known theirs (Some c) None) is edits))
      (λ calm. has_joined (wish (Some (Known old mine conflict))) at rest (Known old mine conflict) owed theirs c h (calm_base theirs c calm))
  by_kept (Known old mine conflict) owed None is (inr (inr h)) = absurd h
  by_kept (Known old mine conflict) owed (Some Incomplete) is (inr (inr h)) = gone (wish (Some (Known old mine conflict))) at rest (Known old mine conflict) owed h.0 h.1
  by_kept (Known old mine conflict) owed (Some (Known theirs m None)) is (inr (inr h)) = has (wish (Some (Known old mine conflict))) at rest (Known old mine conflict) owed theirs h.0 h.1
  by_kept (Known old mine conflict) owed (Some (Known b m (Some x))) is (inr (inr h)) = has (wish (Some (Known old mine conflict))) at rest (Known old mine conflict) owed x.theirs h.0 h.1

  by_answers : (e : Entry) → IsOwed limits at k e (wish (Some e)) → (a : Option (List Answer)) → answers_at limits at ≡ a → KeepsAllBut a (says_at limits at) (tells_at limits at) at.2.now next.now → Fate limits k (wish (Some e)) (at ∷ rest)
  by_answers e owed (Some answers) is kept = answered (wish (Some e)) at rest e owed answers is
  by_answers e owed None is kept =
      by_bool (says_at limits at k) (λ yes. said (wish (Some e)) at rest e owed yes) (λ no. by_kept e owed (entry_of next.now k) refl (kept k e owed.there owed.edited no))

-- what is owed before the next step is so from there on
on_from : (limits : Limits) (given : List Given) (steps : List Step) (next : State) → AreOwed limits (states_before limits given steps next) → (k : Key) (x : Entry) → entry_of next.now k ≡ Some x → is_edited x ≡ true → Fate limits k (wish (Some x)) (states_before limits given steps next)
on_from limits given [] next owed k x is edits = over (wish (Some x))
on_from limits given (step ∷ steps) next owed k x is edits = owed.0 k x is edits

fates : (limits : Limits) (given : List Given) (steps : List Step) (s : State) → AreSound (states_before limits given steps s) → AreUploads limits (states_before limits given steps s) → AreOwed limits (states_before limits given steps s)
fates limits given [] s sound sent = tt
fates limits given (step ∷ steps) s sound sent =
    let got = first_given given in
    let next : State = (step_turn limits got step s).state in
    let rest = states_before limits (drop 1 given) steps next in
    let more = fates limits (drop 1 given) steps next (All-tail (λ (at : Step × Given × State). IsSound at.2.now) (step, got, s) rest sound)
    (All-tail (λ (at : Step × Given × State). (size : ℕ) → at.0.act ≡ Look (Upload size) → IsUpload limits at.1 at.0 size at.2) (step, got, s) rest sent) in
    let kept : IsKept limits got step s = step_kept limits got step s (All-head (λ (at : Step × Given × State). IsSound at.2.now) (step, got, s) rest sound) in
    let upload = All-head (λ (at : Step × Given × State). (size : ℕ) → at.0.act ≡ Look (Upload size) → IsUpload limits at.1 at.0 size at.2) (step, got, s) rest sent in (
      λ k e is edits. by_answers limits k (step, got, s) rest next (on_from limits (drop 1 given) steps next more k) e
          (record { there = is; edited = edits; wished = refl; sent = λ size act done. ((upload size act).sent done).brings k e is edits })
          (answers_at limits (step, got, s)) refl kept,
      more,
    )

by_meeting : (limits : Limits) (given : List Given) (steps : List Step) (meets : Bool) → AreSound (cond meets (map own_machine (met limits given steps)) (states_before limits given steps first_state))
    → AreUploads limits (cond meets (map own_machine (met limits given steps)) (states_before limits given steps first_state)) → AreOwed limits (cond meets [] (states_before limits given steps first_state))
by_meeting limits given steps true sound sent = tt
by_meeting limits given steps false sound sent = fates limits given steps first_state sound sent

-- Where the tables of the run are sound and its uploads sent, each edit is owed so.
pub owed_in : (limits : Limits) (given : List Given) (steps : List Step) → AreSound (run limits given steps) → AreUploads limits (run limits given steps) → AreOwed limits (alone limits given steps)
owed_in limits given steps sound sent = by_meeting limits given steps (is_meeting steps) sound sent
