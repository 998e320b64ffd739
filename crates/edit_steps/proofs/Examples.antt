-- Worked examples of turns.
use Rattle.std.proofs.Common.{◌≡◌, true, false, [], ◌∷◌, None, Some, Ok, Err, length, pos, refl}
use Rattle.std.specs.Prelude.{codes}
use Rattle.std.specs.FinMap as fin
use Rattle.osm_base.specs.declared.key.Kind.TheVariants.{Node}
use Rattle.osm_table.specs.Table.{TableValue}
use Rattle.opl_file.specs.declared.fault.FileFault.TheVariants.{FileTooLong}
use Rattle.upload_order.specs.declared.change.Change.TheVariants.{Delete}
use Rattle.upload_order.specs.declared.refusal.PlanRefusal.TheVariants as plan
use Rattle.edit_script.specs.declared.step.Act.TheVariants.{History, Look, File}
use Rattle.edit_script.specs.declared.step.HistoryStep.TheVariants.{Begin, End, Undo}
use Rattle.edit_script.specs.declared.step.Look.TheVariants.{Print, Conflicts, Save}
use Rattle.edit_script.specs.declared.step.Purpose.TheVariants.{Download, Confirm, Resume}
use Rattle.edit_script.specs.declared.reply.StepReply.TheVariants.{Done, Refused, Skipped}
use Rattle.edit_script.specs.declared.reply.StepRefusal.TheVariants.{NoFile, BadFile, NothingToUndo, OpenConflicts}
use Rattle.edit_history.specs.declared.counts.Group.TheVariants as group
use Rattle.edit_history.specs.Machine.{State, first_state}
use Rattle.edit_steps.specs.declared.limits.Limits.{Limits}
use Rattle.edit_steps.specs.declared.loading.Found.TheVariants.{Nothing, Bad}
use Rattle.edit_steps.specs.declared.looks.Behind.TheVariants as behind
use Rattle.edit_steps.specs.Load.{found_in}
use Rattle.edit_steps.specs.Planned.{on_plan, planned}
use Rattle.edit_steps.specs.States.{states_before}
use Rattle.edit_steps.specs.Turn.{turn}

abbrev limits : Limits
limits = record { script = 16777216; file = 5; objects = 3 }

abbrev numbered : TableValue
numbered = record { entries = fin.empty; next = 7 }

-- a group that began at the first state, and in which a job was done since
abbrev running : State
running = record { past = []; now = numbered; undone = []; group = group.Running; start = first_state.now; accepted = true }

abbrev given_up : State
given_up = record { past = []; now = first_state.now; undone = []; group = group.Refused; start = first_state.now; accepted = false }

-- A download that isn't there is refused, and gives the group up: the table is again the one at `begin`.
no_file : turn limits Nothing (File (codes "f") (Download None None)) running ≡ record { answer = record { reply = Refused NoFile; behind = behind.Nothing }; state = given_up }
no_file = refl

-- Then each step is skipped, with nothing behind it, up to the group's end.
print_skipped : turn limits Nothing (Look Print) given_up ≡ record { answer = record { reply = Skipped; behind = behind.Nothing }; state = given_up }
print_skipped = refl

end_skipped : turn limits Nothing (History End) given_up ≡ record { answer = record { reply = Skipped; behind = behind.Nothing }; state = first_state }
end_skipped = refl

-- No file is read in it.
nothing_read : found_in limits (Some (codes "x")) group.Refused (File (codes "f") (Download None None)) ≡ Nothing
nothing_read = refl

-- Answers that are too long for the limit are refused.
answers_long : found_in limits (Some (codes "123456")) group.Outside (File (codes "f") Confirm) ≡ Bad FileTooLong
answers_long = refl

answers_refused : turn limits (Bad FileTooLong) (File (codes "f") Confirm) first_state ≡ record { answer = record { reply = Refused (BadFile FileTooLong); behind = behind.Nothing }; state = first_state }
answers_refused = refl

-- So is a saved session.
saved_refused : turn limits (Bad FileTooLong) (File (codes "f") Resume) first_state ≡ record { answer = record { reply = Refused (BadFile FileTooLong); behind = behind.Nothing }; state = first_state }
saved_refused = refl

-- Behind `save` stands the whole table.
save_done : turn limits Nothing (Look Save) first_state ≡ record { answer = record { reply = Done []; behind = behind.Saved }; state = first_state }
save_done = refl

-- There is nothing to undo at first.
undo_first : turn limits Nothing (History (Undo 1)) first_state ≡ record { answer = record { reply = Refused NothingToUndo; behind = behind.Nothing }; state = first_state }
undo_first = refl

-- Behind `print` stands the table.
print_done : turn limits Nothing (Look Print) first_state ≡ record { answer = record { reply = Done []; behind = behind.Table }; state = first_state }
print_done = refl

-- Behind `conflicts` stand the objects in conflict.
conflicts_done : turn limits Nothing (Look Conflicts) first_state ≡ record { answer = record { reply = Done []; behind = behind.Conflicts }; state = first_state }
conflicts_done = refl

-- Where the plan is refused, nothing stands behind the reply of an upload.
two_in_conflict : on_plan (λ changes. behind.Changes changes 100) (planned (Err (plan.Conflicts 2 (record { kind = Node; id = pos 4 }))))
    ≡ record { reply = Refused (OpenConflicts 2 (record { kind = Node; id = pos 4 })); behind = behind.Nothing }
two_in_conflict = refl

-- Where it is not, its changes do, and behind that of a rehearsal how many they are.
one_deleted : on_plan (λ changes. behind.Rehearsed (length changes)) (planned (Ok (Delete (record { kind = Node; id = pos 4 }) 1 ∷ []))) ≡ record { reply = Done []; behind = behind.Rehearsed 1 }
one_deleted = refl

-- Each step has what it is given, and the state before it.
two_steps : states_before limits [] (record { line = 1; act = History Begin } ∷ record { line = 2; act = History End } ∷ []) first_state
    ≡ (record { line = 1; act = History Begin }, None, first_state) ∷ (record { line = 2; act = History End }, None, record { past = []; now = first_state.now; undone = []; group = group.Running; start = first_state.now; accepted = false }) ∷ []
two_steps = refl
