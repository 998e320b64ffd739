-- A server's answers, as a text, are taken, and the upload goes on from what they make of the table.
use Rattle.std.proofs.Common.{◌≡◌, ℕ, ℤ, List, Result, Ok, Err, refl, ap, subst, ◌∙◌}
use Rattle.std.specs.Prelude.{IfOk, IfErr}
use Rattle.osm_table.specs.Table.{TableValue}
use Rattle.dataset.specs.Diff.{diff}
use Rattle.dataset.specs.Patch.{PatchValue, after_of}
use Rattle.dataset.proofs.Differs.{diff_is}
use Rattle.dataset.proofs.Laws.{diff_leads}
use Rattle.upload_order.specs.declared.change.Change.{Change}
use Rattle.upload_order.specs.World.{World}
use Rattle.placeholder.specs.Answered.{AreAnswered}
use Rattle.placeholder.specs.Confirm.{answers_of, Confirms}
use Rattle.placeholder.specs.Confirmed.{confirmed_all}
use Rattle.placeholder.proofs.Accepts.{accepts_answers}
use Rattle.placeholder.proofs.After.{after_all, front_taken}
use Rattle.placeholder.specs.declared.fault.ConfirmFault.{ConfirmFault}
use Rattle.placeholder.specs.declared.fault.ConfirmFault.TheVariants.{Plan, WrongAnswer, IdTaken, Memory}
use Rattle.answer_file.specs.Answers.{confirm_text}
use Rattle.answer_file.specs.Resumed.{TellsAnswers, GoesOn}
use Rattle.answer_file.specs.Text.{text_of}
use Rattle.answer_file.proofs.Told.{answers_told, text_makes}

-- The text of a server's answers makes the confirmed table.
pub text_confirms : (w : World) (t : TableValue) (cs ds : List Change) (ids : List ℤ) → AreAnswered w t cs ds ids → confirm_text t (text_of (answers_of cs ids)) ≡ Ok (diff t (confirmed_all t cs ids))
text_confirms w t cs ds ids h =
    let run = front_taken w t cs ds ids h.ready h.changes h.answers.0 in
    let taken = accepts_answers t cs ds ids (after_all w run.0 t cs ds ids h.ready h.changes h.answers run.1).0 h.answers.1 in
    text_makes t (confirmed_all t cs ids) cs ds ids h.ready.clear h.changes (answers_told t cs ds ids h.ready.sound h.ready.clear h.changes h.answers.1) taken

-- the upload goes on from the confirmed table
confirmed_goes_on : (w : World) (t : TableValue) (cs ds : List Change) (ids : List ℤ) → AreAnswered w t cs ds ids → GoesOn w cs ds ids (confirmed_all t cs ids)
confirmed_goes_on w t cs ds ids h =
    let run = front_taken w t cs ds ids h.ready h.changes h.answers.0 in
    let after = after_all w run.0 t cs ds ids h.ready h.changes h.answers run.1 in
    record { server = run.0; taken = run.1; ready = after.1; rest = after.2 }

difference_leads : (t u : TableValue) → u ≡ after_of (diff t u) t
difference_leads t u = (diff_leads t u (diff t u) (diff_is t u)).to

-- where a patch is to be answered, memory alone can fail
memory_alone : (result : Result PatchValue ConfirmFault) (patch : PatchValue) → Confirms result (Ok patch) → IfErr result (λ fault. fault ≡ Memory)
memory_alone (Ok other) patch h = tt
memory_alone (Err Memory) patch h = refl
memory_alone (Err (Plan refusal)) patch h = cc
memory_alone (Err (WrongAnswer line)) patch h = cc
memory_alone (Err (IdTaken key)) patch h = cc

-- and a patch that is answered is that one
patch_alone : (P : PatchValue → Type 0) (result : Result PatchValue ConfirmFault) (patch : PatchValue) → Confirms result (Ok patch) → P patch → IfOk result P
patch_alone P (Ok other) patch h holds = let same : patch ≡ other = cc in subst P same holds
patch_alone P (Err fault) patch h holds = tt

module _ (w : World) (t : TableValue) (cs ds : List Change) (ids : List ℤ) (bytes : List ℕ) (result : Result PatchValue ConfirmFault) where
  confirms_patch : TellsAnswers w t cs ds ids bytes → Confirms result (confirm_text t bytes) → Confirms result (Ok (diff t (confirmed_all t cs ids)))
  confirms_patch h value = subst (Confirms result) (ap (confirm_text t) h.text ∙ text_confirms w t cs ds ids h.answers) value

  -- The answers are taken.
  pub answers_taken : TellsAnswers w t cs ds ids bytes → Confirms result (confirm_text t bytes) → IfErr result (λ fault. fault ≡ Memory)
  answers_taken h value = memory_alone result (diff t (confirmed_all t cs ids)) (confirms_patch h value)

  -- The upload goes on.
  pub answers_resumed : TellsAnswers w t cs ds ids bytes → Confirms result (confirm_text t bytes) → IfOk result (λ patch. GoesOn w cs ds ids (after_of patch t))
  answers_resumed h value =
      patch_alone (λ patch. GoesOn w cs ds ids (after_of patch t)) result (diff t (confirmed_all t cs ids)) (confirms_patch h value)
      (subst (GoesOn w cs ds ids) (difference_leads t (confirmed_all t cs ids)) (confirmed_goes_on w t cs ds ids h.answers))
