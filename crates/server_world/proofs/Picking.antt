-- Changes that are sent with the least free ids are a run with these picks.
use Rattle.std.proofs.Common.{◌≡◌, ℕ, suc, ◌+◌, List, [], ◌∷◌, take, length, Option, Some, None, refl, ◌∙◌, sym, ap, arith}
use Rattle.osm_table.specs.Table.{TableValue}
use Rattle.upload_order.specs.declared.change.Change.{Change}
use Rattle.upload_order.specs.declared.change.Change.TheVariants.{Create, Modify, Delete}
use Rattle.upload_order.specs.Run.{Ran, Stopped, run_from}
use Rattle.upload_order.specs.Pieces.{on_refusal}
use Rattle.upload_order.specs.World.{World, refusal, after}
use Rattle.upload_order.specs.declared.world.WorldRefusal.{WorldRefusal}
use Rattle.server_world.specs.declared.rehearsal.Rehearsal.{Rehearsal}
use Rattle.server_world.specs.declared.rehearsal.Rehearsal.TheVariants.{Accepted}
use Rattle.server_world.specs.Sent.{pick_for}
use Rattle.server_world.specs.Picks.{free_picks, told_of, ended_by, RunsTo}
use Rattle.server_world.specs.Rehearsed.{unless_refused, rehearsed}

-- a change is sent with its pick, and then the others with theirs
next_run : (n : ℕ) (t : TableValue) (w : World) (c : Change) (front cs : List Change)
    → run_from n w (c ∷ front) (free_picks w t (c ∷ cs)) ≡ on_refusal (refusal w c (pick_for w t c)) n (run_from (n + 1) (after w c (pick_for w t c)) front (free_picks (after w c (pick_for w t c)) t cs))
next_run n t w (Create k c) front cs = refl
next_run n t w (Modify k v c) front cs = refl
next_run n t w (Delete k v) front cs = refl

told_step : (o : Option WorldRefusal) (n count : ℕ) (rest : Rehearsal) (run : Ran) → rest ≡ told_of count run → unless_refused o n rest ≡ told_of count (on_refusal o n run)
told_step None n count rest run e = e
told_step (Some why) n count rest run e = refl

-- what a rehearsal tells is told of that run
rehearsed_from : (t : TableValue) (n count : ℕ) (w : World) (cs : List Change) → count ≡ n + length cs → rehearsed t n w cs ≡ told_of count (run_from (n + 1) w cs (free_picks w t cs))
rehearsed_from t n count w [] e = let z : count ≡ n + 0 = e in ap Accepted (omega (arith, z))
rehearsed_from t n count w (c ∷ cs) e =
    let z : count ≡ n + suc (length cs) = e in
    let v = after w c (pick_for w t c) in
    told_step (refusal w c (pick_for w t c)) (n + 1) count (rehearsed t (n + 1) v cs) (run_from (n + 1 + 1) v cs (free_picks v t cs)) (rehearsed_from t (n + 1) count v cs (omega (arith, z)))
    ∙ ap (told_of count) (sym (next_run (n + 1) t w c cs cs))

pub rehearsed_run : (t : TableValue) (w : World) (cs : List Change) → rehearsed t 0 w cs ≡ told_of (length cs) (run_from 1 w cs (free_picks w t cs))
rehearsed_run t w cs = rehearsed_from t 0 (length cs) w cs (omega arith)

pub none_runs : (t : TableValue) (w : World) → RunsTo t w w [] 0 None
none_runs t w = record { front = λ n. refl; whole = λ n. refl }

pub refused_runs : (t : TableValue) (w : World) (c : Change) (cs : List Change) (why : WorldRefusal) → refusal w c (pick_for w t c) ≡ Some why → RunsTo t w w (c ∷ cs) 0 (Some why)
refused_runs t w c cs why is =
    let v = after w c (pick_for w t c) in
    record {
      front = λ n. refl;
      whole = λ n.
          let e : n ≡ n + 0 = omega arith in
          next_run n t w c cs cs ∙ ap (λ (o : Option WorldRefusal). on_refusal o n (run_from (n + 1) v cs (free_picks v t cs))) is ∙ ap (λ (m : ℕ). Stopped m why) e;
    }

pub taken_runs : (t : TableValue) (w v : World) (c : Change) (cs : List Change) (count : ℕ) (why : Option WorldRefusal) → refusal w c (pick_for w t c) ≡ None → RunsTo t (after w c (pick_for w t c)) v cs count why → RunsTo t w v (c ∷ cs) (count + 1) why
taken_runs t w v c cs count why none runs =
    let u = after w c (pick_for w t c) in
    record {
      front = λ n.
          let e : count + 1 ≡ suc count = omega arith in
          ap (λ (m : ℕ). run_from n w (take m (c ∷ cs)) (free_picks w t (c ∷ cs))) e
          ∙ next_run n t w c (take count cs) cs
          ∙ ap (λ (o : Option WorldRefusal). on_refusal o n (run_from (n + 1) u (take count cs) (free_picks u t cs))) none
          ∙ runs.front (n + 1);
      whole = λ n.
          let e : n + 1 + count ≡ n + (count + 1) = omega arith in
          next_run n t w c cs cs
          ∙ ap (λ (o : Option WorldRefusal). on_refusal o n (run_from (n + 1) u cs (free_picks u t cs))) none
          ∙ runs.whole (n + 1)
          ∙ ap (λ (m : ℕ). ended_by why m v) e;
    }
