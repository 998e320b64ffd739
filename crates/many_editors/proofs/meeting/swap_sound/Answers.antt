use Rattle.std.proofs.Common.{◌∙◌, refl, sym}
use Rattle.std.proofs.lemmas.Result.{err_from_is_err_and}
use Rattle.many_editors.proofs.meeting.swap_sound.Goals as goal

pub returns-in_err-key : goal.returns-in_err-key
returns-in_err-key c =
    let p = err_from_is_err_and c.from_residual.result c.from_residual.ensures.1 in
    rw p.1 (record { answer = tt; sound = tt; swapped = tt; kept = tt; err = refl })

pub returns-in-Some : goal.returns-in-Some
returns-in-Some c = record { answer = sym c.in-Some.is ∙ c.in_ok-key.ensures.value; sound = tt; swapped = tt; kept = refl; err = tt }

pub returns-in-None : goal.returns-in-None
returns-in-None c = record { answer = sym c.in-None.is ∙ c.in_ok-key.ensures.value; sound = c.in_ok-key.ensures.sound c.in-None.is; swapped = c.swap.ensures.x_after; kept = tt; err = tt }
