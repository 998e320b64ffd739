use Rattle.std.proofs.Common.{◌≡◌, drop}
use Rattle.std.specs.Map.{keys_of}
use Rattle.saved_session.specs.Reading.{table_of}
use Rattle.saved_session.specs.SoundTest.{first_unsound}
use Rattle.saved_session.proofs.soundness.first_unsound.Given as goal

abbrev pub invariant-loop-i : goal.invariant-loop-i
invariant-loop-i l = first_unsound (table_of (record { next = l.saved.next; entries = l.saved.entries })) (drop l.i (keys_of l.saved.entries)) ≡ first_unsound (table_of (record { next = l.saved.next; entries = l.saved.entries })) (keys_of l.saved.entries)
