-- What a line more adds to what was read.
use Rattle.std.proofs.Common.{◌≡◌, ℕ, ◌+◌, ◌<◌, true, false, nat_lt, List, [], ◌∷◌, ◌++◌, length, Result, Ok, Err, Option, Some, None, is_some, refl, sym, ap, ◌∙◌, append_assoc, append-nil, arith, rules}
use Rattle.std.proofs.lemmas.Grind.{common_steps}
use Rattle.std.proofs.lemmas.Bool.Decides.{nat_tests}
use Rattle.opl_line.specs.declared.mode.Mode.{Mode}
use Rattle.opl_line.specs.declared.object.OplObject.{OplObject}
use Rattle.opl_file.specs.declared.fault.FileFault.{FileFault}
use Rattle.opl_file.specs.declared.fault.FileFault.TheVariants.{LineTooLong}
use Rattle.opl_file.specs.Cut.{Cut, has_lf, cut, last_line}
use Rattle.opl_file.specs.Reading.{taken, and_then, objects_from, or_before, before_fault}
use Rattle.opl_file.specs.Feeding.{goes_on, lends_so_far}
use Rattle.opl_file.proofs.Cutting.{glued, cut-front, cut-line, cut-plain, both_plain}

-- a line of too many bytes has that fault
taken-long : (mode : Mode) (number : ℕ) (objects : List OplObject) (line : List ℕ) → 16777216 < length line → taken mode number objects line ≡ Err (LineTooLong number)
unfolding taken
taken-long mode number objects line long =
    let test : nat_lt 16777216 (length line) ≡ true = search (rules, nat_tests) in
    rw test refl

-- an LF ends a line, which is taken in
pub goes-line : (mode : Mode) (count : ℕ) (objects : List OplObject) (line bytes : List ℕ) → has_lf line ≡ false
    → goes_on mode None count objects (line ++ 10 ∷ bytes) ≡ and_then (taken mode (count + 1) objects line) (λ more. goes_on mode None (count + 1) more bytes)
goes-line mode count objects line bytes plain = ap (λ (c : Cut). objects_from mode (count + 1) objects (c.ended ++ last_line c.rest)) (cut-line line bytes plain)

pub lends-line : (mode : Mode) (count : ℕ) (objects : List OplObject) (line bytes : List ℕ) → has_lf line ≡ false
    → lends_so_far mode None count objects (line ++ 10 ∷ bytes) ≡ or_before objects (taken mode (count + 1) objects line) (λ more. lends_so_far mode None (count + 1) more bytes)
lends-line mode count objects line bytes plain = ap (λ (c : Cut). before_fault mode (count + 1) objects c.ended) (cut-line line bytes plain)

-- a front that is too long makes its line too long
long_line : (mode : Mode) (number : ℕ) (objects : List OplObject) (front back : List ℕ) (lines : List (List ℕ)) → 16777216 < length front
    → objects_from mode number objects ((front ++ back) ∷ lines) ≡ Err (LineTooLong number)
long_line mode number objects front back lines long =
    ap (λ (r : Result (List OplObject) FileFault). and_then r (λ more. objects_from mode (number + 1) more lines)) (taken-long mode number objects (front ++ back) (grind (arith, common_steps)))

last_line-long : (front back : List ℕ) → 0 < length front → last_line (front ++ back) ≡ (front ++ back) ∷ []
last_line-long [] back long = absurd (omega arith)
last_line-long (byte ∷ front) back long = refl

long_lines : (mode : Mode) (number : ℕ) (objects : List OplObject) (front : List ℕ) (lines : List (List ℕ)) (rest : List ℕ) → 16777216 < length front
    → objects_from mode number objects ((glued front lines rest).ended ++ last_line (glued front lines rest).rest) ≡ Err (LineTooLong number)
unfolding glued
long_lines mode number objects front [] rest long = ap (objects_from mode number objects) (last_line-long front rest (omega arith)) ∙ long_line mode number objects front rest [] long
long_lines mode number objects front (line ∷ lines) rest long = long_line mode number objects front line (lines ++ last_line rest) long

pub goes-long : (mode : Mode) (count : ℕ) (objects : List OplObject) (front bytes : List ℕ) → has_lf front ≡ false → 16777216 < length front
    → goes_on mode None count objects (front ++ bytes) ≡ Err (LineTooLong (count + 1))
goes-long mode count objects front bytes plain long =
    ap (λ (c : Cut). objects_from mode (count + 1) objects (c.ended ++ last_line c.rest)) (cut-front front bytes plain)
    ∙ long_lines mode (count + 1) objects front (cut bytes).ended (cut bytes).rest long

long_before : (mode : Mode) (number : ℕ) (objects : List OplObject) (front : List ℕ) (lines : List (List ℕ)) (rest : List ℕ) → 16777216 < length front
    → before_fault mode number objects (glued front lines rest).ended ≡ objects
unfolding glued
long_before mode number objects front [] rest long = refl
long_before mode number objects front (line ∷ lines) rest long =
    ap (λ (r : Result (List OplObject) FileFault). or_before objects r (λ more. before_fault mode (number + 1) more lines)) (taken-long mode number objects (front ++ line) (grind (arith, common_steps)))

pub lends-long : (mode : Mode) (count : ℕ) (objects : List OplObject) (front bytes : List ℕ) → has_lf front ≡ false → 16777216 < length front
    → lends_so_far mode None count objects (front ++ bytes) ≡ objects
lends-long mode count objects front bytes plain long =
    ap (λ (c : Cut). before_fault mode (count + 1) objects c.ended) (cut-front front bytes plain)
    ∙ long_before mode (count + 1) objects front (cut bytes).ended (cut bytes).rest long

and_then-Ok : (r : Result (List OplObject) FileFault) → and_then r (λ more. Ok more) ≡ r
and_then-Ok (Ok more) = refl
and_then-Ok (Err fault) = refl

-- bytes that no LF ends are a line at the end of the file
pub goes-last : (mode : Mode) (count : ℕ) (objects : List OplObject) (line : List ℕ) → has_lf line ≡ false → 0 < length line
    → goes_on mode None count objects line ≡ taken mode (count + 1) objects line
goes-last mode count objects [] plain some = absurd (omega arith)
goes-last mode count objects (byte ∷ line) plain some =
    ap (λ (c : Cut). objects_from mode (count + 1) objects (c.ended ++ last_line c.rest)) (cut-plain (byte ∷ line) plain)
    ∙ and_then-Ok (taken mode (count + 1) objects (byte ∷ line))

-- and no finished line
pub lends-plain : (mode : Mode) (count : ℕ) (objects : List OplObject) (front : List ℕ) → has_lf front ≡ false → lends_so_far mode None count objects front ≡ objects
lends-plain mode count objects front plain = ap (λ (c : Cut). before_fault mode (count + 1) objects c.ended) (cut-plain front plain)

-- a fault decides, whatever comes
pub faulty : (mode : Mode) (fault : Option FileFault) (count : ℕ) (objects : List OplObject) (xs ys : List ℕ) → is_some fault ≡ true → goes_on mode fault count objects xs ≡ goes_on mode fault count objects ys
faulty mode None count objects xs ys some = cc
faulty mode (Some fault) count objects xs ys some = refl

pub faulty-lends : (mode : Mode) (fault : Option FileFault) (count : ℕ) (objects : List OplObject) (xs ys : List ℕ) → is_some fault ≡ true → lends_so_far mode fault count objects xs ≡ lends_so_far mode fault count objects ys
faulty-lends mode None count objects xs ys some = cc
faulty-lends mode (Some fault) count objects xs ys some = refl

-- The next steps are of a reader without a fault, whose unfinished line is `kept`.
module _ (mode : Mode) (fault : Option FileFault) (good : fault ≡ None) (count : ℕ) (objects : List OplObject) (kept front : List ℕ) (plain : has_lf kept ≡ false) (unbroken : has_lf front ≡ false) where
  pub reads-long : (more : List ℕ) → 16777216 < length kept + length front → Err (LineTooLong (count + 1)) ≡ goes_on mode fault count objects (kept ++ (front ++ more))
  reads-long more long = rw (good, ← append_assoc kept front more)
      (sym (goes-long mode count objects (kept ++ front) more (both_plain kept front plain unbroken) (grind (arith, common_steps))))

  pub keeps-long : (more : List ℕ) → 16777216 < length kept + length front → objects ≡ lends_so_far mode fault count objects (kept ++ (front ++ more))
  keeps-long more long = rw (good, ← append_assoc kept front more)
      (sym (lends-long mode count objects (kept ++ front) more (both_plain kept front plain unbroken) (grind (arith, common_steps))))

  pub reads-line : (new : List OplObject) (more : List ℕ) → taken mode (count + 1) objects (kept ++ front) ≡ Ok new
      → goes_on mode fault (count + 1) new more ≡ goes_on mode fault count objects (kept ++ (front ++ 10 ∷ more))
  reads-line new more is = rw (good, ← append_assoc kept front (10 ∷ more))
      (sym (goes-line mode count objects (kept ++ front) more (both_plain kept front plain unbroken)
      ∙ ap (λ (r : Result (List OplObject) FileFault). and_then r (λ next. goes_on mode None (count + 1) next more)) is))

  pub lends-line-on : (new : List OplObject) (more : List ℕ) → taken mode (count + 1) objects (kept ++ front) ≡ Ok new
      → lends_so_far mode fault (count + 1) new more ≡ lends_so_far mode fault count objects (kept ++ (front ++ 10 ∷ more))
  lends-line-on new more is = rw (good, ← append_assoc kept front (10 ∷ more))
      (sym (lends-line mode count objects (kept ++ front) more (both_plain kept front plain unbroken)
      ∙ ap (λ (r : Result (List OplObject) FileFault). or_before objects r (λ next. lends_so_far mode None (count + 1) next more)) is))

  pub reads-bad : (bad : FileFault) (more : List ℕ) → taken mode (count + 1) objects (kept ++ front) ≡ Err bad
      → Err bad ≡ goes_on mode fault count objects (kept ++ (front ++ 10 ∷ more))
  reads-bad bad more is = rw (good, ← append_assoc kept front (10 ∷ more))
      (sym (goes-line mode count objects (kept ++ front) more (both_plain kept front plain unbroken)
      ∙ ap (λ (r : Result (List OplObject) FileFault). and_then r (λ next. goes_on mode None (count + 1) next more)) is))

  pub lends-bad : (bad : FileFault) (more : List ℕ) → taken mode (count + 1) objects (kept ++ front) ≡ Err bad
      → objects ≡ lends_so_far mode fault count objects (kept ++ (front ++ 10 ∷ more))
  lends-bad bad more is = rw (good, ← append_assoc kept front (10 ∷ more))
      (sym (lends-line mode count objects (kept ++ front) more (both_plain kept front plain unbroken)
      ∙ ap (λ (r : Result (List OplObject) FileFault). or_before objects r (λ next. lends_so_far mode None (count + 1) next more)) is))

-- the objects so far, where no more bytes are fed
pub lends-now : (mode : Mode) (fault : Option FileFault) (count : ℕ) (objects : List OplObject) (kept : List ℕ) → has_lf kept ≡ false → lends_so_far mode fault count objects (kept ++ []) ≡ objects
lends-now mode None count objects kept plain = rw append-nil (lends-plain mode count objects kept plain)
lends-now mode (Some fault) count objects kept plain = refl

-- the end of a file whose last line has its LF
pub ends-ended : (mode : Mode) (fault : Option FileFault) (count : ℕ) (objects : List OplObject) (kept : List ℕ) → fault ≡ None → length kept ≡ 0 → goes_on mode fault count objects (kept ++ []) ≡ Ok objects
ends-ended mode fault count objects [] good none = rw good refl
ends-ended mode fault count objects (byte ∷ kept) good none = absurd (omega arith)

-- the end of a file whose last line has none
pub ends-unfinished : (mode : Mode) (fault : Option FileFault) (count : ℕ) (objects : List OplObject) (kept : List ℕ) → fault ≡ None → has_lf kept ≡ false → 0 < length kept
    → goes_on mode fault count objects (kept ++ []) ≡ taken mode (count + 1) objects kept
ends-unfinished mode fault count objects kept good plain some = rw (good, append-nil) (goes-last mode count objects kept plain some)
