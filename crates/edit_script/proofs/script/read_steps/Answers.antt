use Rattle.std.proofs.Common.{◌≡◌, ℕ, ◌+◌, Bool, true, false, if◌then◌else◌, List, ◌∷◌, None, Some, Result, Err, sym, ap, subst, ◌∙◌, arith}
use Rattle.opl_file.specs.Cut.{lines_of}
use Rattle.edit_script.specs.declared.line.ScriptLine.TheVariants.{Asks}
use Rattle.edit_script.specs.declared.place.Place.{Place}
use Rattle.edit_script.specs.declared.place.Place.TheVariants.{Start}
use Rattle.edit_script.specs.declared.step.Act.{Act}
use Rattle.edit_script.specs.declared.step.Step.{Step}
use Rattle.edit_script.specs.Order.{IsMeant}
use Rattle.edit_script.specs.Place.{may_stand_at, place_after}
use Rattle.edit_script.specs.Script.{after_line, line_of, onto_steps, steps_from}
use Rattle.edit_script.proofs.Lists.{onto_front, onto_front-asks}
use Rattle.edit_script.proofs.Orderly.{IsPlaced, place_behind, placed-more, place_behind-more, placed_meeting, placed_orderly, placed_other}
use Rattle.edit_script.proofs.script.read_steps.Goals as goal

-- a line outside the grammar is a bad one,
outside : (front : List Step) (place : Place) (line : ℕ) (text : List ℕ) (texts : List (List ℕ)) → line_of text ≡ None → onto_front front (steps_from place line (text ∷ texts)) ≡ Err line
outside front place line text texts bad = ap (λ kind. onto_front front (after_line place line kind (λ behind. steps_from behind (line + 1) texts))) bad

-- and so is one that may not stand there
misplaced : (front : List Step) (place : Place) (line : ℕ) (act : Act) (text : List ℕ) (texts : List (List ℕ)) → line_of text ≡ Some (Asks act) → may_stand_at place act ≡ false → onto_front front (steps_from place line (text ∷ texts)) ≡ Err line
misplaced front place line act text texts asks stands =
    let rest : Place → Result (List Step) ℕ = λ behind. steps_from behind (line + 1) texts in
    ap (λ kind. onto_front front (after_line place line kind rest)) asks
    ∙ ap (λ (test : Bool). onto_front front (if test then onto_steps (record { line = line; act = act }) (rest (place_after place act)) else Err line)) stands

pub loop-rest-preserved : goal.loop-rest-preserved
loop-rest-preserved c =
    let before = c.loop-rest in
    let number = before.count + 1 in
    let act = c.in-Ok-Asks.act in
    let step : Step = record { line = number; act = act } in
    let items = c.in_ok-push-in-Ok-Asks.ensures.items in
    let texts = lines_of c.next_line.result.1.now in
    let asks : line_of c.next_line.result.0.now ≡ Some (Asks act) = rw c.in-Ok-Asks.field-0-is at c.in-Ok-Asks.ensures.value in
    let meant : IsMeant act = rw c.in-Ok-Asks.field-0-is at c.in-Ok-Asks.ensures.meant in
    let stands : may_stand_at before.place act ≡ true = sym c.takes.ensures ∙ c.if-not-takes.false in
    record {
      bound = omega arith;
      so_far = before.invariant.so_far
          ∙ ap (λ lines. onto_front before.steps.items (steps_from before.place number lines)) c.next_line.ensures.lines
          ∙ onto_front-asks before.steps.items before.place number act c.next_line.result.0.now texts asks stands
          ∙ ap (λ steps. onto_front steps (steps_from (place_after before.place act) (number + 1) texts)) (sym items)
          ∙ ap (λ place. onto_front c.push.new.self.items (steps_from place (number + 1) texts)) (sym c.after-place.ensures);
      placed = subst (IsPlaced Start) (sym items) (placed-more Start before.steps.items step before.invariant.placed meant (ap (λ place. may_stand_at place act) before.invariant.at ∙ stands));
      at = ap (place_behind Start) items
          ∙ place_behind-more Start before.steps.items step
          ∙ ap (λ place. place_after place act) before.invariant.at
          ∙ sym c.after-place.ensures;
    }

pub returns-in-Err-Memory : goal.returns-in-Err-Memory
returns-in-Err-Memory c = record { steps = tt; orderly = tt; meeting = tt; other = tt }

pub returns-in-Err-Outside : goal.returns-in-Err-Outside
returns-in-Err-Outside c =
    let before = c.loop-rest in
    let number = before.count + 1 in
    record {
      steps = before.invariant.so_far
          ∙ ap (λ lines. onto_front before.steps.items (steps_from before.place number lines)) c.next_line.ensures.lines
          ∙ outside before.steps.items before.place number c.next_line.result.0.now (lines_of c.next_line.result.1.now) (rw c.in-Err-Outside.field-0-is at c.in-Err-Outside.ensures.value);
      orderly = tt;
      meeting = tt;
      other = tt;
    }

pub returns-then-not-takes : goal.returns-then-not-takes
returns-then-not-takes c =
    let before = c.loop-rest in
    let number = before.count + 1 in
    let act = c.in-Ok-Asks.act in
    let asks : line_of c.next_line.result.0.now ≡ Some (Asks act) = rw c.in-Ok-Asks.field-0-is at c.in-Ok-Asks.ensures.value in
    record {
      steps = before.invariant.so_far
          ∙ ap (λ lines. onto_front before.steps.items (steps_from before.place number lines)) c.next_line.ensures.lines
          ∙ misplaced before.steps.items before.place number act c.next_line.result.0.now (lines_of c.next_line.result.1.now) asks (sym c.takes.ensures ∙ c.if-not-takes.true);
      orderly = tt;
      meeting = tt;
      other = tt;
    }

pub returns-clause-orderly : goal.returns-clause-orderly
returns-clause-orderly c = placed_orderly c.loop-rest.steps.items c.loop-rest.invariant.placed

pub returns-clause-meeting : goal.returns-clause-meeting
returns-clause-meeting c = placed_meeting c.loop-rest.steps.items c.loop-rest.invariant.placed

pub returns-clause-other : goal.returns-clause-other
returns-clause-other c = placed_other c.loop-rest.steps.items c.loop-rest.invariant.placed
