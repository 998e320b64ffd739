use Rattle.std.proofs.Common.{Result, Ok, Err, IfOk, OnErr}
use Rattle.edit_history.proofs.history.History.step.Goals as goal

both : {T E : Type 0} (A B : Type 0) (r : Result T E) → OnErr r A → OnErr r B → OnErr r (A × B)
both A B (Ok x) a b = tt
both A B (Err e) a b = (a, b)

-- Of a step that runs no job nothing more is said.
nothing : {T E : Type 0} (r : Result T E) → IfOk r (λ _. Unit {0})
nothing (Ok x) = tt
nothing (Err e) = tt

pub returns-in-Run : goal.returns-in-Run
returns-in-Run g c =
    let ran = c.run.ensures in
    rw c.in-Run.is (record { moved = ran.moved; first = ran.first; left = both _ _ c.run.result ran.stopped ran.between })

pub returns-in-Begin : goal.returns-in-Begin
returns-in-Begin g c =
    let began = c.begin.ensures in
    rw c.in-Begin.is (record { moved = record { valid = began.valid; verbs = began.verbs; answer = began.answer; state = began.state }; first = tt; left = tt })

pub returns-in-GiveUp : goal.returns-in-GiveUp
returns-in-GiveUp g c =
    let left = c.give_up.ensures in
    rw c.in-GiveUp.is (record { moved = left.moved; first = nothing c.give_up.result; left = both _ _ c.give_up.result left.stopped left.between })

pub returns-in-End : goal.returns-in-End
returns-in-End g c = rw c.in-End.is (record { moved = c.end.ensures.moved; first = nothing c.end.result; left = c.end.ensures.err })

pub returns-in-Undo : goal.returns-in-Undo
returns-in-Undo g c =
    let led = c.lead.ensures in
    rw c.in-Undo.is (record { moved = led.moved; first = nothing c.lead.result; left = both _ _ c.lead.result led.stopped led.between })

pub returns-in-Redo : goal.returns-in-Redo
returns-in-Redo g c =
    let led = c.lead-in-Redo.ensures in
    rw c.in-Redo.is (record { moved = led.moved; first = nothing c.lead-in-Redo.result; left = both _ _ c.lead-in-Redo.result led.stopped led.between })

pub returns-in-Settle : goal.returns-in-Settle
returns-in-Settle g c = rw c.in-Settle.is (record { moved = c.settle.ensures.moved; first = nothing c.settle.result; left = c.settle.ensures.err })
