-- What becomes of an edit in the run of a script, from one step to the last: it is owed to the server up to the step that says that it
-- changes it, that takes a server's answers, or that tells that the server has it. Each upload before that brings it.
--
-- For example n1 was named here, and `download f` tells of it moved. From then on it is owed with both, and the next upload brings both.
use Rattle.std.specs.Prelude.{◌≡◌, ℕ, Bool, true, List, [], ◌∷◌, Option, Some, None}
use Rattle.osm_base.specs.declared.content.Content.{Content}
use Rattle.osm_base.specs.declared.key.Key.{Key}
use Rattle.osm_table.specs.declared.entry.Base.{Base}
use Rattle.osm_table.specs.declared.entry.Entry.{Entry}
use Rattle.osm_table.specs.declared.entry.Entry.TheVariants.{Known}
use Rattle.osm_table.specs.declared.told.Told.{Told}
use Rattle.osm_table.specs.Table.{entry_of, held_by}
use Rattle.placeholder.specs.declared.answer.Answer.{Answer}
use Rattle.upload_order.specs.Plan.{plan}
use Rattle.edit_script.specs.declared.step.Act.TheVariants.{Look}
use Rattle.edit_script.specs.declared.step.Look.TheVariants.{Upload}
use Rattle.edit_script.specs.declared.step.Step.{Step}
use Rattle.edit_script.specs.declared.reply.StepReply.TheVariants.{Done}
use Rattle.edit_history.specs.Machine.{State}
use Rattle.editor_laws.specs.Kept.{wish, is_edited, is_gone_there, IsJoined}
use Rattle.editor_laws.specs.Sent.{Bring}
use Rattle.editor_laws.specs.Telling.{IsToldSide}
use Rattle.edit_steps.specs.declared.limits.Limits.{Limits}
use Rattle.edit_steps.specs.declared.loading.Found.{Found}
use Rattle.edit_steps.specs.Given.{Given}
use Rattle.edit_steps.specs.Load.{found_in}
use Rattle.edit_steps.specs.Turn.{step_turn}
use Rattle.edit_session.specs.Said.{act_says, act_tells, answers_taken}

-- a step of a run, with what it is given and the state before it: what it finds, tells and says, and the answers that it takes
module _ (limits : Limits) (at : Step × Given × State) where
  abbrev pub found_at : Found
  found_at = found_in limits at.1 at.2.group at.0.act

  abbrev pub tells_at : Key → Option Told
  tells_at k = act_tells found_at at.0.act k

  abbrev pub says_at : Key → Bool
  says_at k = act_says limits found_at at.0.act at.2 k

  abbrev pub answers_at : Option (List Answer)
  answers_at = answers_taken at.0.act found_at at.2

-- The object is edited before the step, and this is wanted of it. An upload that is done brings it.
pub record IsOwed (limits : Limits) (at : Step × Given × State) (k : Key) (e : Entry) (wanted : Option Content) : Type 0 where
  pub there : entry_of at.2.now k ≡ Some e
  pub edited : is_edited e ≡ true
  pub wished : wish (Some e) ≡ wanted
  pub sent : (size : ℕ) → at.0.act ≡ Look (Upload size) → (step_turn limits at.1 at.0 at.2).answer.reply ≡ Done [] → Bring (plan at.2.now) k e

-- What becomes of it in these steps.
pub data Fate (limits : Limits) (k : Key) : Option Content → List (Step × Given × State) → Type 0 where
  -- it is owed when they end,
  over : (wanted : Option Content) → Fate limits k wanted []
  -- and so it is after the first, or joined with what that tells;
  stays : (wanted : Option Content) (at : Step × Given × State) (rest : List (Step × Given × State)) (e : Entry) → IsOwed limits at k e wanted → Fate limits k wanted rest → Fate limits k wanted (at ∷ rest)
  joined : (wanted : Option Content) (at : Step × Given × State) (rest : List (Step × Given × State)) (e : Entry) → IsOwed limits at k e wanted
      → (theirs : Base) (c : Content) → IsJoined (tells_at limits at k) e (Some (Known theirs (Some c) None)) → Fate limits k (Some c) rest → Fate limits k wanted (at ∷ rest)
  -- the first tells that the server has what is wanted, or what is joined with it, or it has the object no more that is wanted gone;
  has : (wanted : Option Content) (at : Step × Given × State) (rest : List (Step × Given × State)) (e : Entry) → IsOwed limits at k e wanted
      → (theirs : Base) → IsToldSide (tells_at limits at k) theirs → held_by theirs ≡ wanted → Fate limits k wanted (at ∷ rest)
  has_joined : (wanted : Option Content) (at : Step × Given × State) (rest : List (Step × Given × State)) (e : Entry) → IsOwed limits at k e wanted
      → (theirs : Base) (c : Content) → IsJoined (tells_at limits at k) e (Some (Known theirs (Some c) None)) → held_by theirs ≡ Some c → Fate limits k wanted (at ∷ rest)
  gone : (wanted : Option Content) (at : Step × Given × State) (rest : List (Step × Given × State)) (e : Entry) → IsOwed limits at k e wanted → wanted ≡ None → is_gone_there (tells_at limits at k) e ≡ true → Fate limits k wanted (at ∷ rest)
  -- or it says that it changes or forgets it, or takes answers.
  said : (wanted : Option Content) (at : Step × Given × State) (rest : List (Step × Given × State)) (e : Entry) → IsOwed limits at k e wanted → says_at limits at k ≡ true → Fate limits k wanted (at ∷ rest)
  answered : (wanted : Option Content) (at : Step × Given × State) (rest : List (Step × Given × State)) (e : Entry) → IsOwed limits at k e wanted → (answers : List Answer) → answers_at limits at ≡ Some answers → Fate limits k wanted (at ∷ rest)

-- So it is of each object that is edited before a step.
abbrev pub AreOwed : Limits → List (Step × Given × State) → Type 0
AreOwed limits [] = Unit {0}
AreOwed limits (at ∷ rest) = ((k : Key) (e : Entry) → entry_of at.2.now k ≡ Some e → is_edited e ≡ true → Fate limits k (wish (Some e)) (at ∷ rest)) × AreOwed limits rest
