-- What a file answers is said by its lines.
use Rattle.std.proofs.Common.{◌≡◌, ℕ, zero, suc, ◌+◌, ◌-◌, ◌<◌, ◌≤◌, Bool, true, false, cond, List, [], ◌∷◌, length, Option, Some, None, refl, sym, ap, subst, ◌∙◌, arith}
use Rattle.std.specs.Prelude.{slice_index, slice_index_or, slice_get, IfSome, Contains}
use Rattle.opl_line.specs.Line.{freed}
use Rattle.opl_file.specs.Cut.{lines_of}
use Rattle.edit_script.specs.Script.{is_skipped}
use Rattle.placeholder.specs.declared.answer.Answer.{Answer}
use Rattle.answer_file.specs.Answers.{FileAnswers, before_others, answers_from, answers_of}
use Rattle.answer_file.specs.ByLine.{IsByLine}
use Rattle.answer_file.specs.Lines.{answer_of}

-- the text at a place, counted from 0
abbrev text_at : List (List ℕ) → ℕ → List ℕ
text_at texts k = freed (slice_index_or texts k [])

-- what these lines answer, of which the first has that number
record IsRead (line : ℕ) (texts : List (List ℕ)) (file : FileAnswers) : Type 0 where
  many : length file.answers ≡ length file.lines
  least : (i : ℕ) → i < length file.lines → line ≤ slice_index file.lines i
  given : (i : ℕ) → i < length file.answers → answer_of (text_at texts (slice_index file.lines i - line)) ≡ slice_get file.answers i
  rising : (i j : ℕ) → i < j → j < length file.lines → slice_index file.lines i < slice_index file.lines j
  wrong : (n : ℕ) → file.wrong ≡ Some n → (line ≤ n) × (is_skipped (text_at texts (n - line)) ≡ false) × (answer_of (text_at texts (n - line)) ≡ None)
  others : (k : ℕ) → k < length texts → IfSome file.wrong (λ m. line + k < m) → is_skipped (text_at texts k) ≡ false → Contains file.lines (line + k)

text_later : (text : List ℕ) (texts : List (List ℕ)) (line n : ℕ) → line + 1 ≤ n → text_at (text ∷ texts) (n - line) ≡ text_at texts (n - (line + 1))
text_later text texts line n h = let e : n - line ≡ suc (n - (line + 1)) = omega arith in ap (text_at (text ∷ texts)) e

text_here : (text : List ℕ) (texts : List (List ℕ)) (line : ℕ) → text_at (text ∷ texts) (line - line) ≡ freed text
text_here text texts line = let e : line - line ≡ 0 = omega arith in ap (text_at (text ∷ texts)) e

wrong_later : (line : ℕ) (text : List ℕ) (texts : List (List ℕ)) (file : FileAnswers) (n : ℕ) → IsRead (line + 1) texts file → file.wrong ≡ Some n
    → (line ≤ n) × (is_skipped (text_at (text ∷ texts) (n - line)) ≡ false) × (answer_of (text_at (text ∷ texts) (n - line)) ≡ None)
wrong_later line text texts file n r e =
    let w = r.wrong n e in
    let at = text_later text texts line n w.0 in
    (omega (arith, w.0), ap is_skipped at ∙ w.1, ap answer_of at ∙ w.2)

given_later : (line : ℕ) (text : List ℕ) (texts : List (List ℕ)) (file : FileAnswers) (i : ℕ) → IsRead (line + 1) texts file → i < length file.answers
    → answer_of (text_at (text ∷ texts) (slice_index file.lines i - line)) ≡ slice_get file.answers i
given_later line text texts file i r h = ap answer_of (text_later text texts line (slice_index file.lines i) (r.least i (omega (arith, r.many)))) ∙ r.given i h

others_later : (line : ℕ) (texts : List (List ℕ)) (file : FileAnswers) (k : ℕ) → IsRead (line + 1) texts file → k < length texts → IfSome file.wrong (λ m. line + suc k < m)
    → is_skipped (text_at texts k) ≡ false → Contains file.lines (line + suc k)
others_later line texts file k r h before stays =
    let e : line + 1 + k ≡ line + suc k = omega arith in
    subst (Contains file.lines) e (r.others k h (subst (λ n. IfSome file.wrong (λ m. n < m)) (sym e) before) stays)

others_skipped : (line : ℕ) (text : List ℕ) (texts : List (List ℕ)) (file : FileAnswers) → is_skipped (freed text) ≡ true → IsRead (line + 1) texts file
    → (k : ℕ) → k < length (text ∷ texts) → IfSome file.wrong (λ m. line + k < m) → is_skipped (text_at (text ∷ texts) k) ≡ false → Contains file.lines (line + k)
others_skipped line text texts file skipped r zero h before stays = let f : true ≡ false = sym skipped ∙ stays in cc
others_skipped line text texts file skipped r (suc k) h before stays = others_later line texts file k r (omega arith) before stays

read_skipped : (line : ℕ) (text : List ℕ) (texts : List (List ℕ)) (file : FileAnswers) → is_skipped (freed text) ≡ true → IsRead (line + 1) texts file → IsRead line (text ∷ texts) file
read_skipped line text texts file skipped r = record {
  many = r.many;
  least = λ i h. omega (arith, r.least i h);
  given = λ i h. given_later line text texts file i r h;
  rising = r.rising;
  wrong = λ n e. wrong_later line text texts file n r e;
  others = others_skipped line text texts file skipped r;
}

contains_more : (xs : List ℕ) (x y : ℕ) → Contains xs x → Contains (y ∷ xs) x
contains_more xs x y h = (suc h.0, omega (arith, h.1), h.2)

least_more : (line : ℕ) (texts : List (List ℕ)) (file : FileAnswers) → IsRead (line + 1) texts file → (i : ℕ) → i < length (line ∷ file.lines) → line ≤ slice_index (line ∷ file.lines) i
least_more line texts file r zero h = omega arith
least_more line texts file r (suc i) h = omega (arith, r.least i (omega arith))

given_more : (line : ℕ) (text : List ℕ) (texts : List (List ℕ)) (a : Answer) (file : FileAnswers) → answer_of (freed text) ≡ Some a → IsRead (line + 1) texts file
    → (i : ℕ) → i < length (a ∷ file.answers) → answer_of (text_at (text ∷ texts) (slice_index (line ∷ file.lines) i - line)) ≡ slice_get (a ∷ file.answers) i
given_more line text texts a file gives r zero h = ap answer_of (text_here text texts line) ∙ gives
given_more line text texts a file gives r (suc i) h = given_later line text texts file i r (omega arith)

rising_more : (line : ℕ) (texts : List (List ℕ)) (file : FileAnswers) → IsRead (line + 1) texts file
    → (i j : ℕ) → i < j → j < length (line ∷ file.lines) → slice_index (line ∷ file.lines) i < slice_index (line ∷ file.lines) j
rising_more line texts file r i zero lt h = absurd (omega arith)
rising_more line texts file r zero (suc j) lt h = omega (arith, r.least j (omega arith))
rising_more line texts file r (suc i) (suc j) lt h = r.rising i j (omega arith) (omega arith)

others_more : (line : ℕ) (text : List ℕ) (texts : List (List ℕ)) (file : FileAnswers) → IsRead (line + 1) texts file
    → (k : ℕ) → k < length (text ∷ texts) → IfSome file.wrong (λ m. line + k < m) → is_skipped (text_at (text ∷ texts) k) ≡ false → Contains (line ∷ file.lines) (line + k)
others_more line text texts file r zero h before stays = let e : line ≡ line + 0 = omega arith in (0, omega arith, e)
others_more line text texts file r (suc k) h before stays = contains_more file.lines (line + suc k) line (others_later line texts file k r (omega arith) before stays)

read_answer : (line : ℕ) (text : List ℕ) (texts : List (List ℕ)) (a : Answer) (file : FileAnswers) → answer_of (freed text) ≡ Some a → IsRead (line + 1) texts file
    → IsRead line (text ∷ texts) (before_others line (Some a) file)
read_answer line text texts a file gives r = record {
  many = omega (arith, r.many);
  least = least_more line texts file r;
  given = given_more line text texts a file gives r;
  rising = rising_more line texts file r;
  wrong = λ n e. wrong_later line text texts file n r e;
  others = others_more line text texts file r;
}

read_wrong : (line : ℕ) (text : List ℕ) (texts : List (List ℕ)) (file : FileAnswers) → is_skipped (freed text) ≡ false → answer_of (freed text) ≡ None → IsRead line (text ∷ texts) (before_others line None file)
read_wrong line text texts file stays gives = record {
  many = refl;
  least = λ i h. absurd (omega arith);
  given = λ i h. absurd (omega arith);
  rising = λ i j lt h. absurd (omega arith);
  wrong = λ n e.
      let one : line ≡ n = cc in
      let at : text_at (text ∷ texts) (n - line) ≡ freed text = ap (λ m. text_at (text ∷ texts) (m - line)) (sym one) ∙ text_here text texts line in
      (omega arith, ap is_skipped at ∙ stays, ap answer_of at ∙ gives);
  others = λ k h before stays. absurd (omega arith);
}

read_line : (line : ℕ) (text : List ℕ) (texts : List (List ℕ)) (file : FileAnswers) (read : Option Answer) → is_skipped (freed text) ≡ false → answer_of (freed text) ≡ read → IsRead (line + 1) texts file
    → IsRead line (text ∷ texts) (before_others line read file)
read_line line text texts file None stays gives r = read_wrong line text texts file stays gives
read_line line text texts file (Some a) stays gives r = read_answer line text texts a file gives r

read_one : (line : ℕ) (text : List ℕ) (texts : List (List ℕ)) (file : FileAnswers) (skipped : Bool) → is_skipped (freed text) ≡ skipped → IsRead (line + 1) texts file
    → IsRead line (text ∷ texts) (cond skipped file (before_others line (answer_of (freed text)) file))
read_one line text texts file true is r = read_skipped line text texts file is r
read_one line text texts file false is r = read_line line text texts file (answer_of (freed text)) is refl r

read_all : (line : ℕ) (texts : List (List ℕ)) → IsRead line texts (answers_from line texts)
read_all line [] = record {
  many = refl;
  least = λ i h. absurd (omega arith);
  given = λ i h. absurd (omega arith);
  rising = λ i j lt h. absurd (omega arith);
  wrong = λ n e. cc;
  others = λ k h before stays. absurd (omega arith);
}
read_all line (text ∷ texts) = read_one line text texts (answers_from (line + 1) texts) (is_skipped (freed text)) refl (read_all (line + 1) texts)

pub by_line : (bytes : List ℕ) → IsByLine bytes (answers_of bytes)
by_line bytes =
    let r = read_all 1 (lines_of bytes) in
    record {
      given = r.given;
      rising = r.rising;
      wrong = λ line e. let w = r.wrong line e in (w.1, w.2);
      others = λ line least most before stays.
          let e : 1 + (line - 1) ≡ line = omega arith in
          subst (Contains (answers_of bytes).lines) e (r.others (line - 1) (omega arith) (subst (λ n. IfSome (answers_of bytes).wrong (λ m. n < m)) (sym e) before) stays);
    }
