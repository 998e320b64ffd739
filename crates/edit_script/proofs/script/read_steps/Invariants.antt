use Rattle.std.proofs.Common.{◌≡◌, ◌+◌, ◌≤◌, length}
use Rattle.opl_file.specs.Cut.{lines_of}
use Rattle.edit_script.specs.declared.place.Place.TheVariants.{Start}
use Rattle.edit_script.specs.Script.{steps_of, steps_from}
use Rattle.edit_script.proofs.Lists.{onto_front}
use Rattle.edit_script.proofs.Orderly.{IsPlaced, place_behind}
use Rattle.edit_script.proofs.script.read_steps.Given as goal

abbrev pub invariant-loop-rest : goal.invariant-loop-rest
invariant-loop-rest l = record {
  bound : l.count + length l.rest ≤ length l.bytes;
  so_far : steps_of l.bytes ≡ onto_front l.steps.items (steps_from l.place (l.count + 1) (lines_of l.rest));
  placed : IsPlaced Start l.steps.items;
  at : place_behind Start l.steps.items ≡ l.place;
}

abbrev pub decreases-loop-rest : goal.decreases-loop-rest
decreases-loop-rest l = length l.rest
