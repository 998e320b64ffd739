-- Bytes without an LF before the bytes of a file.
use Rattle.std.proofs.Common.{◌≡◌, ℕ, zero, suc, ◌<◌, ◌≤◌, true, false, ◌==◌, List, [], ◌∷◌, ◌++◌, take, length, slice_index, refl, sym, ap, ◌∙◌, append-nil, arith}
use Rattle.std.proofs.lemmas.Bool.{or_parts, false_from_ne_true}
use Rattle.opl_file.specs.Cut.{Cut, has_lf, behind, cut, lines_of}

-- bytes without an LF belong to the first line of what follows
unfoldable pub glued : List ℕ → List (List ℕ) → List ℕ → Cut
glued front [] rest = record { ended = []; rest = front ++ rest }
glued front (line ∷ lines) rest = record { ended = (front ++ line) ∷ lines; rest = rest }

glued-nil : (lines : List (List ℕ)) (rest : List ℕ) → glued [] lines rest ≡ record { ended = lines; rest = rest }
unfolding glued
glued-nil [] rest = refl
glued-nil (line ∷ lines) rest = refl

glued-cons : (byte : ℕ) (front : List ℕ) (lines : List (List ℕ)) (rest : List ℕ) → behind byte (glued front lines rest).ended (glued front lines rest).rest ≡ glued (byte ∷ front) lines rest
unfolding glued
glued-cons byte front [] rest = refl
glued-cons byte front (line ∷ lines) rest = refl

cut-step : (byte : ℕ) (bytes : List ℕ) → (byte == 10) ≡ false → cut (byte ∷ bytes) ≡ behind byte (cut bytes).ended (cut bytes).rest
cut-step byte bytes plain = rw plain refl

pub cut-front : (front bytes : List ℕ) → has_lf front ≡ false → cut (front ++ bytes) ≡ glued front (cut bytes).ended (cut bytes).rest
cut-front [] bytes plain = sym (glued-nil (cut bytes).ended (cut bytes).rest)
cut-front (byte ∷ front) bytes plain =
    let parts = or_parts (byte == 10) (has_lf front) plain in
    cut-step byte (front ++ bytes) parts.0
    ∙ ap (λ (c : Cut). behind byte c.ended c.rest) (cut-front front bytes parts.1)
    ∙ glued-cons byte front (cut bytes).ended (cut bytes).rest

-- an LF ends the line before it
pub cut-line : (front bytes : List ℕ) → has_lf front ≡ false → cut (front ++ 10 ∷ bytes) ≡ record { ended = front ∷ (cut bytes).ended; rest = (cut bytes).rest }
unfolding glued
cut-line front bytes plain = cut-front front (10 ∷ bytes) plain ∙ ap (λ (line : List ℕ). record { ended = line ∷ (cut bytes).ended; rest = (cut bytes).rest }) (append-nil front)

-- without an LF no line is ended
pub cut-plain : (front : List ℕ) → has_lf front ≡ false → cut front ≡ record { ended = []; rest = front }
unfolding glued
cut-plain front plain = ap cut (sym (append-nil front)) ∙ cut-front front [] plain ∙ ap (λ (rest : List ℕ). record { ended = []; rest = rest }) (append-nil front)

-- Two fronts without an LF are one.
pub both_plain : (xs ys : List ℕ) → has_lf xs ≡ false → has_lf ys ≡ false → has_lf (xs ++ ys) ≡ false
both_plain [] ys plain none = none
both_plain (x ∷ xs) ys plain none =
    let parts = or_parts (x == 10) (has_lf xs) plain in
    rw (parts.0, both_plain xs ys parts.1 none) refl

-- where no byte below a place is an LF, none is among those before it
pub plain_below : (bytes : List ℕ) (n : ℕ) → n ≤ length bytes → ((k : ℕ) → 0 ≤ k → k < n → ¬ ((slice_index bytes k == 10) ≡ true)) → has_lf (take n bytes) ≡ false
plain_below bytes zero le none = refl
plain_below [] (suc n) le none = absurd (omega arith)
plain_below (byte ∷ bytes) (suc n) le none = rw (false_from_ne_true (byte == 10) (none 0 (omega arith) (omega arith)), plain_below bytes n (omega arith) (λ k low high. none (suc k) (omega arith) (omega arith))) refl

-- an LF ends the first line
pub lines_of-line : (bytes line rest : List ℕ) → has_lf line ≡ false → bytes ≡ line ++ 10 ∷ rest → lines_of bytes ≡ line ∷ lines_of rest
lines_of-line bytes line rest plain e = rw (e, cut-line line rest plain) refl

-- bytes without an LF are one line
pub lines_of-last : (bytes line : List ℕ) → has_lf line ≡ false → line ≡ bytes → 0 < length bytes → lines_of bytes ≡ line ∷ []
lines_of-last [] line plain e some = absurd (omega arith)
lines_of-last (byte ∷ bytes) line plain e some = rw (cut-plain (byte ∷ bytes) (rw e at plain), e) refl
