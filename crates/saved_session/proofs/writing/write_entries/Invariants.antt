use Rattle.std.proofs.Common.{◌≡◌, ◌++◌, take}
use Rattle.std.specs.List.{flat_map}
use Rattle.saved_session.specs.Saved.{saved_entry}
use Rattle.saved_session.proofs.writing.write_entries.Given as goal

abbrev pub invariant-loop-key : goal.invariant-loop-key
invariant-loop-key l = l.out.items ≡ l.fn.out.items ++ flat_map (saved_entry l.ds) (take l.key-index l.keys)
