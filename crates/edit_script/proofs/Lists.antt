-- What was read so far, and what is left.
use Rattle.std.proofs.Common.{◌≡◌, ℕ, ◌+◌, true, List, [], ◌∷◌, ◌++◌, Option, Some, None, Result, Ok, Err, refl, ap, append_assoc, sym, ◌∙◌}
use Rattle.opl_text.specs.Time.{◌>>=◌}
use Rattle.opl_line.specs.Cut.{split}
use Rattle.opl_line.specs.Field.{is}
use Rattle.opl_line.proofs.Fronts.{split_front}
use Rattle.edit_script.specs.declared.line.ScriptLine.TheVariants.{Asks}
use Rattle.edit_script.specs.declared.place.Place.{Place}
use Rattle.edit_script.specs.declared.step.Act.{Act}
use Rattle.edit_script.specs.declared.step.Step.{Step}
use Rattle.edit_script.specs.Items.{all_of, four_texts}
use Rattle.edit_script.specs.Place.{may_stand_at, place_after}
use Rattle.edit_script.specs.Script.{onto_steps, after_act, after_line, line_of, steps_from}

-- items before the others, if there are others
abbrev pub onto_items : {A : Type 0} → List A → Option (List A) → Option (List A)
onto_items front None = None
onto_items front (Some items) = Some (front ++ items)

more_items : {A : Type 0} (front : List A) (x : A) (items : Option (List A)) → onto_items front (items >>= λ xs. Some (x ∷ xs)) ≡ onto_items (front ++ x ∷ []) items
more_items front x None = refl
more_items front x (Some items) = ap Some (sym (append_assoc front (x ∷ []) items))

-- one item more
pub onto_items-more : {A : Type 0} (read : List ℕ → Option A) (front : List A) (x : A) (text : List ℕ) (texts : List (List ℕ)) → read text ≡ Some x → onto_items front (all_of read (text ∷ texts)) ≡ onto_items (front ++ x ∷ []) (all_of read texts)
onto_items-more read front x text texts e = rw e (more_items front x (all_of read texts))

-- behind a fourth comma stands a fifth text, which may be empty
pub fifth_text : (first second third fourth rest : List ℕ) → four_texts (first ∷ second ∷ third ∷ fourth ∷ split (is 44) rest) ≡ None
fifth_text first second third fourth rest = rw (split_front (is 44) rest) refl

-- steps before the others, unless there is a bad line
abbrev pub onto_front : List Step → Result (List Step) ℕ → Result (List Step) ℕ
onto_front front (Ok steps) = Ok (front ++ steps)
onto_front front (Err line) = Err line

pub onto_front-more : (front : List Step) (step : Step) (steps : Result (List Step) ℕ) → onto_front front (onto_steps step steps) ≡ onto_front (front ++ step ∷ []) steps
onto_front-more front step (Ok steps) = ap Ok (sym (append_assoc front (step ∷ []) steps))
onto_front-more front step (Err line) = refl

after_act-stands : (place : Place) (line : ℕ) (act : Act) (rest : Place → Result (List Step) ℕ) → may_stand_at place act ≡ true → after_act place line act rest ≡ onto_steps (record { line = line; act = act }) (rest (place_after place act))
after_act-stands place line act rest stands = rw stands refl

-- a line that asks for something adds its step
pub onto_front-asks : (front : List Step) (place : Place) (line : ℕ) (act : Act) (text : List ℕ) (texts : List (List ℕ)) → line_of text ≡ Some (Asks act) → may_stand_at place act ≡ true → onto_front front (steps_from place line (text ∷ texts)) ≡ onto_front (front ++ record { line = line; act = act } ∷ []) (steps_from (place_after place act) (line + 1) texts)
onto_front-asks front place line act text texts asks stands =
    let rest : Place → Result (List Step) ℕ = λ behind. steps_from behind (line + 1) texts in
    ap (λ kind. onto_front front (after_line place line kind rest)) asks
    ∙ ap (onto_front front) (after_act-stands place line act rest stands)
    ∙ onto_front-more front (record { line = line; act = act }) (rest (place_after place act))
