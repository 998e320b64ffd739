-- What an answer of the reader says of what was read.
use Rattle.std.specs.Prelude.{◌≡◌, Result, Ok, Err}
use Rattle.opl_file.specs.declared.fault.FileFault.{FileFault}
use Rattle.opl_file.specs.declared.fault.FileAnswer.{FileAnswer}
use Rattle.opl_file.specs.declared.fault.FileAnswer.TheVariants.{Bad, Memory}

-- a fault is the one that reading gives; want of memory says nothing
abbrev pub Refuses : {X : Type 0} → Result X FileFault → FileAnswer → Type 0
Refuses read (Bad fault) = read ≡ Err fault
Refuses read Memory = Unit {0}

-- what was answered is what reading gives, but for want of memory
abbrev pub Gives : {X Y : Type 0} → (X → Y) → Result X FileAnswer → Result Y FileFault → Type 0
Gives view (Ok x) read = read ≡ Ok (view x)
Gives view (Err answer) read = Refuses read answer
