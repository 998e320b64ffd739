-- The objects of a file: each is one that a line was read as, and each key stands once.
use Rattle.std.proofs.Common.{◌≡◌, ℕ, ◌+◌, Bool, true, false, cond, nat_lt, List, [], ◌∷◌, ◌++◌, length, Result, Ok, Err, refl, ◌∙◌, subst}
use Rattle.std.specs.List.{AllByRecursion}
use Rattle.std.proofs.lemmas.Bool.{or_parts, or_from}
use Rattle.osm_base.specs.Rank.{is_key}
use Rattle.osm_base.specs.declared.key.Key.{Key}
use Rattle.osm_base.proofs.RisingKeys.{key_turned}
use Rattle.opl_line.specs.declared.mode.Mode.{Mode}
use Rattle.opl_line.specs.declared.fault.LineFault.{LineFault}
use Rattle.opl_line.specs.declared.object.LineKind.{LineKind}
use Rattle.opl_line.specs.declared.object.LineKind.TheVariants.{Skipped, Object}
use Rattle.opl_line.specs.declared.object.OplObject.{OplObject}
use Rattle.opl_line.specs.Line.{line_of}
use Rattle.opl_line.specs.Writable.{IsReadObject}
use Rattle.opl_line.proofs.Readable.{read_kind}
use Rattle.opl_file.specs.declared.fault.FileFault.{FileFault}
use Rattle.opl_file.specs.declared.fault.FileFault.TheVariants.{FileTooLong, LineTooLong, Twice}
use Rattle.opl_file.specs.Cut.{lines_of}
use Rattle.opl_file.specs.Objects.{has_key}
use Rattle.opl_file.specs.Reading.{with_line, taken, and_then, objects_from, objects_of}

abbrev pub Once : List OplObject → Type 0
Once [] = Unit {0}
Once (o ∷ os) = (has_key os o.key ≡ false) × Once os

pub record AreRead (mode : Mode) (os : List OplObject) : Type 0 where
  pub each : AllByRecursion (λ o. IsReadObject mode (Object o)) os
  pub once : Once os

-- An object more.

each_more : (P : OplObject → Type 0) (os : List OplObject) (o : OplObject) → AllByRecursion P os → P o → AllByRecursion P (os ++ o ∷ [])
each_more P [] o all one = (one, tt)
each_more P (p ∷ ps) o all one = (all.0, each_more P ps o all.1 one)

key_more : (os : List OplObject) (o : OplObject) (k : Key) → has_key os k ≡ false → is_key k o.key ≡ false → has_key (os ++ o ∷ []) k ≡ false
key_more [] o k out apart = or_from (is_key k o.key) false apart refl
key_more (p ∷ ps) o k out apart =
    let q = or_parts (is_key k p.key) (has_key ps k) out in
    or_from (is_key k p.key) (has_key (ps ++ o ∷ []) k) q.0 (key_more ps o k q.1 apart)

once_more : (os : List OplObject) (o : OplObject) → Once os → has_key os o.key ≡ false → Once (os ++ o ∷ [])
once_more [] o once out = (refl, tt)
once_more (p ∷ ps) o once out =
    let q = or_parts (is_key o.key p.key) (has_key ps o.key) out in
    (key_more ps o p.key once.0 (key_turned p.key o.key ∙ q.0), once_more ps o once.1 q.1)

module _ (mode : Mode) where
  unless_twice : (n : ℕ) (os next : List OplObject) (o : OplObject) (twice : Bool) → has_key os o.key ≡ twice → AreRead mode os → IsReadObject mode (Object o) → cond twice (Err (Twice n)) (Ok (os ++ o ∷ [])) ≡ Ok next → AreRead mode next
  unless_twice n os next o true has are one e = absurd cc
  unless_twice n os next o false has are one e =
      subst (AreRead mode) (let h : os ++ o ∷ [] ≡ next = cc in h) (record { each = each_more (λ p. IsReadObject mode (Object p)) os o are.each one; once = once_more os o are.once has })

  -- A line more.

  with_line_read : (n : ℕ) (os next : List OplObject) (r : Result LineKind LineFault) → AreRead mode os → ((kind : LineKind) → r ≡ Ok kind → IsReadObject mode kind) → with_line n os r ≡ Ok next → AreRead mode next
  with_line_read n os next (Err fault) are reads e = absurd cc
  with_line_read n os next (Ok Skipped) are reads e = subst (AreRead mode) (let h : os ≡ next = cc in h) are
  with_line_read n os next (Ok (Object o)) are reads e = unless_twice n os next o (has_key os o.key) refl are (reads (Object o) refl) e

  line_read : (n : ℕ) (os next : List OplObject) (line : List ℕ) (long : Bool) → AreRead mode os → cond long (Err (LineTooLong n)) (with_line n os (line_of mode line)) ≡ Ok next → AreRead mode next
  line_read n os next line true are e = absurd cc
  line_read n os next line false are e = with_line_read n os next (line_of mode line) are (λ kind is. read_kind mode line kind is) e

  taken_read : (n : ℕ) (os next : List OplObject) (line : List ℕ) → AreRead mode os → taken mode n os line ≡ Ok next → AreRead mode next
  unfolding taken
  taken_read n os next line are e = line_read n os next line (nat_lt 16777216 (length line)) are e

  -- The lines of a file.

  after_line : (n : ℕ) (lines : List (List ℕ)) (next : List OplObject) (r : Result (List OplObject) FileFault)
      → ((more : List OplObject) → r ≡ Ok more → AreRead mode more)
      → ((more : List OplObject) → AreRead mode more → objects_from mode (n + 1) more lines ≡ Ok next → AreRead mode next)
      → and_then r (λ more. objects_from mode (n + 1) more lines) ≡ Ok next → AreRead mode next
  after_line n lines next (Err fault) here on e = absurd cc
  after_line n lines next (Ok more) here on e = on more (here more refl) e

  lines_read : (lines : List (List ℕ)) (n : ℕ) (os next : List OplObject) → AreRead mode os → objects_from mode n os lines ≡ Ok next → AreRead mode next
  lines_read [] n os next are e = subst (AreRead mode) (let h : os ≡ next = cc in h) are
  lines_read (line ∷ lines) n os next are e =
      after_line n lines next (taken mode n os line) (λ more is. taken_read n os more line are is) (λ more here is. lines_read lines (n + 1) more next here is) e

  file_read : (lines : List (List ℕ)) (next : List OplObject) (long : Bool) → cond long (Err FileTooLong) (objects_from mode 1 [] lines) ≡ Ok next → AreRead mode next
  file_read lines next true e = absurd cc
  file_read lines next false e = lines_read lines 1 [] next (record { each = tt; once = tt }) e

  -- The objects of a file.
  pub are_read : (limit : ℕ) (bytes : List ℕ) (objects : List OplObject) → objects_of mode limit bytes ≡ Ok objects → AreRead mode objects
  unfolding objects_of
  are_read limit bytes objects e = file_read (lines_of bytes) objects (nat_lt limit (length bytes)) e

  -- What holds of each object that a line was read as holds of each of a file.
  module _ (P : OplObject → Type 0) (of_one : (o : OplObject) → IsReadObject mode (Object o) → P o) where
    of_each : (os : List OplObject) → AllByRecursion (λ o. IsReadObject mode (Object o)) os → AllByRecursion P os
    of_each [] all = tt
    of_each (o ∷ os) all = (of_one o all.0, of_each os all.1)

    pub each_read : (limit : ℕ) (bytes : List ℕ) (objects : List OplObject) → objects_of mode limit bytes ≡ Ok objects → AllByRecursion P objects
    each_read limit bytes objects e = of_each objects (are_read limit bytes objects e).each
