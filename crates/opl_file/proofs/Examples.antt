-- Files cut and read, by example.
use Rattle.std.proofs.Common.{◌≡◌, [], ◌∷◌, Err, None, refl}
use Rattle.std.specs.Prelude.{codes}
use Rattle.opl_line.specs.declared.mode.Mode.TheVariants.{Download}
use Rattle.opl_file.specs.declared.fault.FileFault.TheVariants.{FileTooLong}
use Rattle.opl_file.specs.Cut.{cut, lines_of}
use Rattle.opl_file.specs.Reading.{objects_of, finished_of}

-- bytes behind the last LF are a line
last-line : lines_of (codes "n1\n\nw5") ≡ codes "n1" ∷ [] ∷ codes "w5" ∷ []
last-line = refl

-- and none is behind an LF at the end
no-last-line : lines_of (codes "n1\n\n") ≡ codes "n1" ∷ [] ∷ []
no-last-line = refl

-- a line is finished by its LF alone
finished-line : (cut (codes "n1\nw5")).ended ≡ codes "n1" ∷ []
finished-line = refl

-- a file of one byte more than the limit is too long, whatever its lines are
too-long : objects_of Download 2 (codes "n1\n") ≡ Err FileTooLong
unfolding objects_of
too-long = refl

not-lent : finished_of Download 2 (codes "n1\n") ≡ None
unfolding finished_of
not-lent = refl
