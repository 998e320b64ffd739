-- What was read of a file, and what is left.
use Rattle.std.proofs.Common.{◌≡◌, ℕ, ◌+◌, true, false, cond, List, [], ◌∷◌, ◌++◌, length, Option, Some, None, Result, Ok, Err, refl, sym, ap, subst, ◌∙◌, append_assoc, append-nil, arith}
use Rattle.dataset.specs.Patch.{PatchValue}
use Rattle.opl_line.specs.Line.{freed}
use Rattle.edit_script.specs.Script.{is_skipped}
use Rattle.osm_table.specs.Table.{TableValue}
use Rattle.placeholder.specs.declared.answer.Answer.{Answer}
use Rattle.placeholder.specs.declared.fault.ConfirmFault.{ConfirmFault}
use Rattle.placeholder.specs.declared.fault.ConfirmFault.TheVariants.{Plan, WrongAnswer, IdTaken, Memory}
use Rattle.placeholder.specs.Confirm.{Confirms, confirm}
use Rattle.answer_file.specs.Lines.{answer_of}
use Rattle.answer_file.specs.Answers.{FileAnswers, before_others, answers_from, answers_of, unless_wrong, by_lines, confirm_text}

-- answers with their lines before the others
abbrev pub onto_front : List Answer → List ℕ → FileAnswers → FileAnswers
onto_front answers lines file = record { answers = answers ++ file.answers; lines = lines ++ file.lines; wrong = file.wrong }

skipped_from : (line : ℕ) (text : List ℕ) (texts : List (List ℕ)) → is_skipped (freed text) ≡ true → answers_from line (text ∷ texts) ≡ answers_from (line + 1) texts
skipped_from line text texts e = rw e refl

pub front_skipped : (answers : List Answer) (lines : List ℕ) (line : ℕ) (text : List ℕ) (texts : List (List ℕ)) → is_skipped (freed text) ≡ true
    → onto_front answers lines (answers_from line (text ∷ texts)) ≡ onto_front answers lines (answers_from (line + 1) texts)
front_skipped answers lines line text texts e = ap (onto_front answers lines) (skipped_from line text texts e)

pub line_from : (line : ℕ) (text : List ℕ) (texts : List (List ℕ)) (read : Option Answer) → is_skipped (freed text) ≡ false → answer_of (freed text) ≡ read
    → answers_from line (text ∷ texts) ≡ before_others line read (answers_from (line + 1) texts)
line_from line text texts read e is = rw (e, is) refl

pub front_answer : (answers : List Answer) (lines : List ℕ) (line : ℕ) (text : List ℕ) (texts : List (List ℕ)) (answer : Answer) → is_skipped (freed text) ≡ false → answer_of (freed text) ≡ Some answer
    → onto_front answers lines (answers_from line (text ∷ texts)) ≡ onto_front (answers ++ answer ∷ []) (lines ++ line ∷ []) (answers_from (line + 1) texts)
front_answer answers lines line text texts answer e is =
    let rest = answers_from (line + 1) texts in
    ap (onto_front answers lines) (line_from line text texts (Some answer) e is)
    ∙ (λ i. record { answers = sym (append_assoc answers (answer ∷ []) rest.answers) i; lines = sym (append_assoc lines (line ∷ []) rest.lines) i; wrong = rest.wrong })

-- what a file answers that was read up to the line of a number
abbrev pub ended : List Answer → List ℕ → Option ℕ → FileAnswers
ended answers lines wrong = record { answers = answers; lines = lines; wrong = wrong }

front_ended : (answers : List Answer) (lines : List ℕ) (wrong : Option ℕ) → onto_front answers lines (ended [] [] wrong) ≡ ended answers lines wrong
front_ended answers lines wrong = λ i. record { answers = append-nil answers i; lines = append-nil lines i; wrong = wrong }

pub front_wrong : (answers : List Answer) (lines : List ℕ) (line : ℕ) (text : List ℕ) (texts : List (List ℕ)) → is_skipped (freed text) ≡ false → answer_of (freed text) ≡ None
    → onto_front answers lines (answers_from line (text ∷ texts)) ≡ ended answers lines (Some line)
front_wrong answers lines line text texts e is = ap (onto_front answers lines) (line_from line text texts None e is) ∙ front_ended answers lines (Some line)

pub front_last : (answers : List Answer) (lines : List ℕ) (line : ℕ) → onto_front answers lines (answers_from line []) ≡ ended answers lines None
front_last answers lines line = front_ended answers lines None

-- each answer has its line
as_many : (line : ℕ) (read : Option Answer) (others : FileAnswers) → length others.answers ≡ length others.lines → length (before_others line read others).answers ≡ length (before_others line read others).lines
as_many line None others e = refl
as_many line (Some answer) others e = omega arith

pub each_line : (line : ℕ) (texts : List (List ℕ)) → length (answers_from line texts).answers ≡ length (answers_from line texts).lines
each_line line [] = refl
each_line line (text ∷ texts) =
    let others = answers_from (line + 1) texts in
    let read = before_others line (answer_of (freed text)) others in
    elim (is_skipped (freed text)) as (λ skipped. length (cond skipped others read).answers ≡ length (cond skipped others read).lines) [
      | true ↦ each_line (line + 1) texts
      | false ↦ as_many line (answer_of (freed text)) others (each_line (line + 1) texts)
    ]

unless_itself : (wrong : Option ℕ) (patch : PatchValue) → Confirms (unless_wrong wrong patch) (unless_wrong wrong patch)
unless_itself None patch = refl
unless_itself (Some line) patch = refl

-- what is answered of the answers is answered of the file
pub by_lines_of : (file : FileAnswers) (r s : Result PatchValue ConfirmFault) → Confirms r s → Confirms (by_lines file r) (by_lines file s)
by_lines_of file (Ok patch) s h = subst (λ x. Confirms (unless_wrong file.wrong patch) (by_lines file x)) (sym h) (unless_itself file.wrong patch)
by_lines_of file (Err Memory) s h = tt
by_lines_of file (Err (Plan refusal)) s h = ap (by_lines file) h
by_lines_of file (Err (WrongAnswer number)) s h = ap (by_lines file) h
by_lines_of file (Err (IdTaken key)) s h = ap (by_lines file) h

pub text_of_file : (t : TableValue) (bytes : List ℕ) (answers : List Answer) (lines : List ℕ) (wrong : Option ℕ) (r : Result PatchValue ConfirmFault)
    → answers ≡ (answers_of bytes).answers → lines ≡ (answers_of bytes).lines → wrong ≡ (answers_of bytes).wrong → Confirms r (confirm t answers)
    → Confirms (by_lines (ended answers lines wrong) r) (confirm_text t bytes)
text_of_file t bytes answers lines wrong r a l w h =
    subst (λ (file : FileAnswers). Confirms (by_lines file r) (confirm_text t bytes)) (λ i. record { answers = sym a i; lines = sym l i; wrong = sym w i })
    (by_lines_of (answers_of bytes) r (confirm t (answers_of bytes).answers) (subst (λ (x : List Answer). Confirms r (confirm t x)) a h))
