-- Whole lines, one text after the other.
use Rattle.std.proofs.Common.{◌∙◌, inl, inr, ℕ, List, [], ◌∷◌, ◌++◌, Option, None, Some, refl, sym, ap, subst, append_assoc, append-nil, flat_map}
use Rattle.std.specs.Io.KnownBytes.{Appends}
use Rattle.osm_outside.specs.Lines.{AreLines, EndsLine, TookLines}

-- a text, and LF
pub at_end : (text : List ℕ) → EndsLine (text ++ 10 ∷ [])
at_end text = (text, refl)

-- what a line ends behind
pub behind : (before text : List ℕ) → EndsLine text → EndsLine (before ++ text)
behind before text ends = (before ++ ends.0, ap (λ l. before ++ l) ends.1 ∙ sym (append_assoc before ends.0 (10 ∷ [])))

-- one after the other
pub both_lines : (first second : List ℕ) → AreLines first → AreLines second → AreLines (first ++ second)
both_lines first second lines (inr ends) = inr (behind first second ends)
both_lines first second lines (inl none) = subst AreLines (sym (ap (λ l. first ++ l) none ∙ append-nil first)) lines

pub all_lines : {X : Type 0} (text : X → List ℕ) (xs : List X) → ((x : X) → AreLines (text x)) → AreLines (flat_map text xs)
all_lines text [] each = inl refl
all_lines text (x ∷ xs) each = both_lines (text x) (flat_map text xs) (each x) (all_lines text xs each)

-- A sink that takes whole lines has whole lines behind those it had.
pub took_lines : (before now : Option (List ℕ)) (text : List ℕ) → AreLines text → Appends before now text → TookLines before → TookLines now
took_lines None now text lines appends told = absurd told
took_lines (Some x) None text lines appends told = absurd appends
took_lines (Some x) (Some y) text lines appends told = subst AreLines (sym appends) (both_lines x text told lines)
