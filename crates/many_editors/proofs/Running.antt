-- What is sent is a run of the changes.
use Rattle.std.proofs.Common.{◌≡◌, suc, ◌+◌, List, [], ◌∷◌, length, Option, Some, None, refl, subst, arith}
use Rattle.osm_table.specs.Table.{TableValue}
use Rattle.upload_order.specs.declared.change.Change.{Change}
use Rattle.upload_order.specs.World.{World, refusal, after}
use Rattle.upload_order.specs.declared.world.WorldRefusal.{WorldRefusal}
use Rattle.placeholder.specs.Confirm.{answer_of}
use Rattle.server_world.specs.Codes.{Objects}
use Rattle.server_world.specs.Picks.{RunsTo}
use Rattle.server_world.specs.Sent.{pick_for}
use Rattle.server_world.proofs.Picking.{none_runs, refused_runs, taken_runs}
use Rattle.many_editors.specs.Laws.{SendsRun}
use Rattle.many_editors.specs.Sending.{Sent, sent, sent_on}

-- what came of sending is the run of the changes
abbrev Runs : TableValue → World → List Change → Sent → Type 0
Runs t w cs s = RunsTo t w s.world cs (length s.answers) s.refused

one_on : (t : TableValue) (w : World) (ms : List Objects) (c : Change) (cs : List Change) (others : Sent) (o : Option WorldRefusal) → refusal w c (pick_for w t c) ≡ o → Runs t (after w c (pick_for w t c)) cs others
    → Runs t w (c ∷ cs) (sent_on o w ms (answer_of c (pick_for w t c)) others)
one_on t w ms c cs others None is runs =
    let more : length others.answers + 1 ≡ suc (length others.answers) = omega arith in
    subst (λ n. RunsTo t w others.world (c ∷ cs) n others.refused) more (taken_runs t w others.world c cs (length others.answers) others.refused is runs)
one_on t w ms c cs others (Some why) is runs = refused_runs t w c cs why is

pub sent_runs : (t : TableValue) (w : World) (ms : List Objects) (cs : List Change) → SendsRun t w ms cs
sent_runs t w ms [] = none_runs t w
sent_runs t w ms (c ∷ cs) =
    let v = after w c (pick_for w t c) in
    one_on t w ms c cs (sent t v (w.entries ∷ ms) cs) (refusal w c (pick_for w t c)) refl (sent_runs t v (w.entries ∷ ms) cs)
