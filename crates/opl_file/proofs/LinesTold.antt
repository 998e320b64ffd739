-- A file is cut into the lines that are told.
use Rattle.std.proofs.Common.{◌≡◌, ℕ, Bool, true, false, cond, List, [], ◌∷◌, ◌++◌, refl, sym, ap, ◌∙◌}
use Rattle.std.specs.Prelude.{◌↔◌, ◌==◌}
use Rattle.opl_line.specs.Cut.{onto_first}
use Rattle.opl_file.specs.Cut.{Cut, behind, cut, last_line, lines_of}
use Rattle.opl_file.specs.Lines.{told_lines}

abbrev lines_in : Cut → List (List ℕ)
lines_in c = c.ended ++ last_line c.rest

byte_before : (byte : ℕ) (ended : List (List ℕ)) (rest : List ℕ) → lines_in (behind byte ended rest) ≡ onto_first byte (ended ++ last_line rest)
byte_before byte [] [] = refl
byte_before byte [] (b ∷ rest) = refl
byte_before byte (line ∷ lines) rest = refl

at_byte : (lf : Bool) (byte : ℕ) (c : Cut) → lines_in (cond lf (record { ended = [] ∷ c.ended; rest = c.rest }) (behind byte c.ended c.rest)) ≡ cond lf ([] ∷ lines_in c) (onto_first byte (lines_in c))
at_byte true byte c = refl
at_byte false byte c = byte_before byte c.ended c.rest

lines_told : (bytes : List ℕ) → lines_of bytes ≡ told_lines bytes
lines_told [] = refl
lines_told (byte ∷ bytes) =
    at_byte (byte == 10) byte (cut bytes)
    ∙ ap (λ (lines : List (List ℕ)). cond (byte == 10) ([] ∷ lines) (onto_first byte lines)) (lines_told bytes)

pub told_exactly : (bytes : List ℕ) (answer : List (List ℕ)) → (lines_of bytes ≡ answer) ↔ (told_lines bytes ≡ answer)
told_exactly bytes answer = (λ e. sym (lines_told bytes) ∙ e, λ e. lines_told bytes ∙ e)
