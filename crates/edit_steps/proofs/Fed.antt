-- A reader that is fed a file by pieces.
use Rattle.std.proofs.Common.{◌≡◌, ℕ, ◌+◌, ◌-◌, ◌<◌, ◌≤◌, List, [], ◌++◌, Option, None, Some, Result, Ok, Err, IfOk, IfSome, true, nat_lt, sym, ap, ◌∙◌, refl, arith, length, length-append, append_assoc}
use Rattle.std.specs.Io.KnownBytes.{Consumes}
use Rattle.std.proofs.lemmas.Grind.{common_steps}
use Rattle.opl_line.specs.declared.mode.Mode.{Mode}
use Rattle.opl_line.specs.declared.object.OplObject.{OplObject}
use Rattle.opl_file.specs.declared.fault.FileFault.{FileFault}
use Rattle.opl_file.specs.declared.fault.FileFault.TheVariants.{FileTooLong}
use Rattle.opl_file.specs.declared.reader.Reader.{Reader}
use Rattle.opl_file.specs.Feeding.{reads_on}
use Rattle.opl_file.specs.Reading.{objects_of}
use Rattle.edit_steps.specs.declared.stop.Stop.{Stop}
use Rattle.edit_steps.specs.Given.{AreBytes}
use Rattle.edit_steps.specs.Load.{AreRead}

-- the reader fed with the rest of the file gives what the whole file is, and so many bytes may come
pub record FeedsOn (mode : Mode) (limit left : ℕ) (reader : Reader) (bytes rest : List ℕ) : Type 0 where
  pub reads : reads_on reader rest ≡ objects_of mode limit bytes
  pub count : length bytes + left ≡ limit + length rest

-- the same where the shelf tells the file
abbrev pub Feeds : Mode → ℕ → ℕ → Reader → Option (List ℕ) → Option (List ℕ) → Type 0
Feeds mode limit left reader None new = Unit {0}
Feeds mode limit left reader (Some bytes) None = ⊥
Feeds mode limit left reader (Some bytes) (Some rest) = FeedsOn mode limit left reader bytes rest

pub feeds-start : (mode : Mode) (limit : ℕ) (reader : Reader) (old : Option (List ℕ)) → ((bytes : List ℕ) → reads_on reader bytes ≡ objects_of mode limit bytes) → Feeds mode limit limit reader old old
feeds-start mode limit reader None new = tt
feeds-start mode limit reader (Some bytes) new = record { reads = new bytes; count = omega arith }

pub feeds-more : (mode : Mode) (limit left count : ℕ) (reader next : Reader) (old mid new : Option (List ℕ)) (piece : List ℕ) → Feeds mode limit left reader old mid → Consumes mid new piece
    → ((more : List ℕ) → reads_on next more ≡ reads_on reader (piece ++ more)) → count ≡ length piece → count ≤ left → Feeds mode limit (left - count) next old new
feeds-more mode limit left count reader next None mid new piece feeds more fed n below = tt
feeds-more mode limit left count reader next (Some bytes) None new piece feeds more fed n below = absurd feeds
feeds-more mode limit left count reader next (Some bytes) (Some middle) None piece feeds more fed n below = absurd more
feeds-more mode limit left count reader next (Some bytes) (Some middle) (Some rest) piece feeds more fed n below = record {
  reads = fed rest ∙ ap (reads_on reader) (sym more) ∙ feeds.reads;
  count = omega (arith, feeds.count, ap length more, length-append piece rest);
}

-- a file of too many bytes
over_limit : (mode : Mode) (limit : ℕ) (bytes : List ℕ) → limit < length bytes → Err FileTooLong ≡ objects_of mode limit bytes
unfolding objects_of
over_limit mode limit bytes over = let test : nat_lt limit (length bytes) ≡ true = grind (arith, common_steps) in rw test refl

pub feeds-over : (mode : Mode) (limit left count : ℕ) (reader : Reader) (old mid new : Option (List ℕ)) (piece : List ℕ) → Feeds mode limit left reader old mid → Consumes mid new piece
    → count ≡ length piece → left < count → IfSome old (λ bytes. Err FileTooLong ≡ objects_of mode limit bytes)
feeds-over mode limit left count reader None mid new piece feeds more n over = tt
feeds-over mode limit left count reader (Some bytes) None new piece feeds more n over = absurd feeds
feeds-over mode limit left count reader (Some bytes) (Some middle) None piece feeds more n over = absurd more
feeds-over mode limit left count reader (Some bytes) (Some middle) (Some rest) piece feeds more n over =
    over_limit mode limit bytes (omega (arith, feeds.count, ap length more, length-append piece rest))

-- Whatever was fed, what comes of it was read.

-- a reader that was fed some bytes, and so many may still come
abbrev pub WasFed : Mode → ℕ → ℕ → Reader → Type 0
WasFed mode limit left reader = (fed : List ℕ) × ((more : List ℕ) → reads_on reader more ≡ objects_of mode limit (fed ++ more)) × (length fed + left ≡ limit)

pub fed_first : (mode : Mode) (limit : ℕ) (reader : Reader) → ((more : List ℕ) → reads_on reader more ≡ objects_of mode limit more) → WasFed mode limit limit reader
fed_first mode limit reader reads = ([], reads, omega arith)

pub fed_more : (mode : Mode) (limit left count : ℕ) (reader next : Reader) → WasFed mode limit left reader → (piece : List ℕ) → ((more : List ℕ) → reads_on next more ≡ reads_on reader (piece ++ more))
    → count ≡ length piece → count ≤ left → WasFed mode limit (left - count) next
fed_more mode limit left count reader next fed piece reads n below =
    (fed.0 ++ piece, λ more. reads more ∙ fed.1 (piece ++ more) ∙ ap (objects_of mode limit) (sym (append_assoc fed.0 piece more)), omega (arith, fed.2, length-append fed.0 piece))

read_of : (mode : Mode) (limit : ℕ) (bytes : List ℕ) (read : Result (List OplObject) FileFault) → read ≡ objects_of mode limit bytes → AreRead mode limit read
read_of mode limit bytes (Err fault) is = tt
read_of mode limit bytes (Ok objects) is = (bytes, sym is)

-- what its end gives was read
pub finished_read : (mode : Mode) (limit : ℕ) (left : ℕ) (reader : Reader) (result : Result (Result (List OplObject) FileFault) Stop) → WasFed mode limit left reader → IfOk result (λ read. read ≡ reads_on reader []) → IfOk result (AreRead mode limit)
finished_read mode limit left reader (Err e) fed is = tt
finished_read mode limit left reader (Ok read) fed is = read_of mode limit (fed.0 ++ []) read (is ∙ fed.1 [])

-- and so is what it gives
pub finished_bytes : (mode : Mode) (limit left : ℕ) (reader : Reader) (result : Result (Result (List OplObject) FileFault) Stop) → WasFed mode limit left reader → IfOk result (λ read. read ≡ reads_on reader []) → IfOk result (λ read. AreBytes read (objects_of mode limit))
finished_bytes mode limit left reader (Err e) fed is = tt
finished_bytes mode limit left reader (Ok read) fed is = (fed.0 ++ [], is ∙ fed.1 [])

-- and a file of too many bytes, of which these were read
pub over_bytes : (mode : Mode) (limit left count : ℕ) (reader : Reader) (piece : List ℕ) → WasFed mode limit left reader → count ≡ length piece → left < count → AreBytes {X = Result (List OplObject) FileFault} (Err FileTooLong) (objects_of mode limit)
over_bytes mode limit left count reader piece fed n over = (fed.0 ++ piece, over_limit mode limit (fed.0 ++ piece) (omega (arith, fed.2, length-append fed.0 piece)))
