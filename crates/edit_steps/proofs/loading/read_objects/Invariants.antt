use Rattle.std.proofs.Common.{◌≡◌, true}
use Rattle.edit_steps.proofs.Fed.{Feeds, WasFed}
use Rattle.edit_steps.proofs.loading.read_objects.Given as goal

abbrev pub invariant-loop-count : goal.invariant-loop-count
invariant-loop-count g l = record {
  told : g.S.Shelf.told l.shelf ≡ g.S.Shelf.told l.fn.shelf;
  begun : g.S.Shelf.begun l.shelf ≡ true;
  noted : g.S.Shelf.noted l.shelf ≡ g.S.Shelf.noted l.fn.shelf;
  quiet : g.S.Shelf.faults l.shelf ≡ g.S.Shelf.faults l.fn.shelf;
  fed : WasFed l.fn.mode l.limit l.left l.reader;
  so_far : Feeds l.fn.mode l.limit l.left l.reader (g.S.Shelf.rest l.fn.shelf) (g.S.Shelf.rest l.shelf);
}

abbrev pub decreases-loop-count : goal.decreases-loop-count
decreases-loop-count g l = l.left
