use Rattle.std.proofs.Common.{◌≡◌, ◌+◌, ◌-◌, true, vec_len}
use Rattle.std.specs.Io.KnownBytes.{Consumes}
use Rattle.edit_steps.proofs.files.read_rest.Given as goal

abbrev pub invariant-loop-shelf : goal.invariant-loop-shelf
invariant-loop-shelf g l = record {
  told : g.S.Shelf.told l.shelf ≡ g.S.Shelf.told l.fn.shelf;
  begun : g.S.Shelf.begun l.shelf ≡ true;
  noted : g.S.Shelf.noted l.shelf ≡ g.S.Shelf.noted l.fn.shelf;
  quiet : g.S.Shelf.faults l.shelf ≡ g.S.Shelf.faults l.fn.shelf;
  so_far : Consumes (g.S.Shelf.rest l.fn.shelf) (g.S.Shelf.rest l.shelf) l.bytes.items;
}

abbrev pub decreases-loop-shelf : goal.decreases-loop-shelf
decreases-loop-shelf g l = l.limit + 1 - vec_len l.bytes
