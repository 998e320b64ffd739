use Rattle.std.proofs.Common.{◌≡◌, ◌++◌, length, take}
use Rattle.std.specs.Str.{chars}
use Rattle.opl_text.proofs.WrittenLaw.{written_of}
use Rattle.opl_text.proofs.written.write_characters.Given as goal

abbrev pub invariant-loop-c : goal.invariant-loop-c
invariant-loop-c l = l.out.items ≡ l.fn.out.items ++ written_of (take (length l.yielded) (chars l.text))
