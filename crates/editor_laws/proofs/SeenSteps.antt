-- The steps of an editor choose among its tables, and put to them what a job makes.
use Rattle.std.proofs.Common.{ℕ, zero, suc, ◌-◌, Bool, true, false, cond, nat_le, List, [], ◌∷◌, ◌++◌, length, take, get_or, reverse}
use mathlib.Core.Logic.{inl, inr}
use Rattle.std.specs.List.{AllByRecursion}
use Rattle.osm_base.proofs.Lists.{all_joined, all_taken, all_dropped}
use Rattle.osm_table.specs.Table.{TableValue}
use Rattle.dataset.specs.Patch.{after_of}
use Rattle.tool_api.specs.declared.job.Job.{Job}
use Rattle.tool_api.specs.declared.reply.Reply.{Reply}
use Rattle.tool_api.specs.declared.reply.Reply.TheVariants as reply
use Rattle.tool_api.specs.Plain.{plain}
use Rattle.edit_history.specs.declared.counts.Group.{Group}
use Rattle.edit_history.specs.declared.counts.Group.TheVariants.{Outside, Running, Refused}
use Rattle.edit_history.specs.Machine.{State, done_in, refused_in, ran, went_back, went_on}
use Rattle.edit_history.specs.declared.edit_step.EditAnswer.{EditAnswer}
use Rattle.edit_history.specs.declared.edit_step.EditStep.{EditStep}
use Rattle.edit_history.specs.declared.edit_step.EditStep.TheVariants.{Run, Begin, GiveUp, End, Undo, Redo, Settle}
use Rattle.edit_history.specs.Moved.{Move}
use Rattle.edit_history.specs.declared.sides.Direction.{Direction}
use Rattle.edit_history.specs.declared.sides.Direction.TheVariants.{Back, On}
use Rattle.edit_history.specs.Steps.{edited, job_move, steps_move}
use Rattle.editor_laws.specs.Bases.{KeepsBases}
use Rattle.editor_laws.specs.Editing.{IsEdit, EachTable, AnyByRecursion, in_past, at_now, in_undone, at_start, KeepsSome}
use Rattle.editor_laws.proofs.SeenLists.{all_reversed}
use Rattle.editor_laws.proofs.SeenJobs.{job_keeps}

module _ (P : TableValue → Type 0) where
  got : (n : ℕ) (ts : List TableValue) (t : TableValue) → AllByRecursion P ts → P t → P (get_or ts n t)
  got n [] t h p = p
  got zero (u ∷ ts) t h p = h.0
  got (suc n) (u ∷ ts) t h p = got n ts t h.1 p

  onto : (n : ℕ) (ts : List TableValue) (t : TableValue) (us : List TableValue) → AllByRecursion P ts → P t → AllByRecursion P us → AllByRecursion P (reverse (take n ts) ++ t ∷ us)
  onto n ts t us h p i = all_joined P (reverse (take n ts)) (t ∷ us) (all_reversed P (take n ts) (all_taken P n ts h)) (p, i)

  back_tables : (n : ℕ) (s : State) → EachTable P s → EachTable P (went_back n s)
  back_tables n s h = record {
    past = all_dropped P n s.past h.past;
    now = got (n - 1) s.past s.now h.past h.now;
    undone = onto (n - 1) s.past s.now s.undone h.past h.now h.undone;
    start = got (n - 1) s.past s.now h.past h.now;
  }

  on_tables : (n : ℕ) (s : State) → EachTable P s → EachTable P (went_on n s)
  on_tables n s h = record {
    past = onto (n - 1) s.undone s.now s.past h.undone h.now h.past;
    now = got (n - 1) s.undone s.now h.undone h.now;
    undone = all_dropped P n s.undone h.undone;
    start = got (n - 1) s.undone s.now h.undone h.now;
  }

  done_tables : (g : Group) (u : TableValue) (s : State) → P u → EachTable P s → EachTable P (done_in g u s)
  done_tables Outside u s p h = record { past = (h.now, h.past); now = p; undone = tt; start = p }
  done_tables Running u s p h = record { past = h.past; now = p; undone = tt; start = h.start }
  done_tables Refused u s p h = h

  -- of a job that was refused
  pub refused_tables : (g : Group) (s : State) → EachTable P s → EachTable P (refused_in g s)
  refused_tables Outside s h = h
  refused_tables Running s h = record { past = h.past; now = h.start; undone = h.undone; start = h.start }
  refused_tables Refused s h = h

  -- whatever a job answers, where its table meets the condition
  pub ran_tables : (r : Reply) (u : TableValue) (s : State) → P u → EachTable P s → EachTable P (ran r u s)
  ran_tables (reply.Done keys) u s p h = done_tables s.group u s p h
  ran_tables (reply.Refused r) u s p h = refused_tables s.group s h

  -- the same of the job with its answer
  pub job_tables : (limit : ℕ) (j : Job) (s : State) → P (plain j s.now limit).table → EachTable P s → EachTable P (job_move limit j s).state
  job_tables limit j s p h = let a = plain j s.now limit in ran_tables a.reply a.table s p h

  put_past : (b : Bool) (t : TableValue) (ts : List TableValue) → P t → AllByRecursion P ts → AllByRecursion P (cond b (t ∷ ts) ts)
  put_past true t ts p h = (p, h)
  put_past false t ts p h = h

  if_enough : (b : Bool) (x y : Move EditAnswer) → EachTable P x.state → EachTable P y.state → EachTable P (cond b y x).state
  if_enough true x y h i = i
  if_enough false x y h i = h

  -- so many steps back or on
  pub steps_tables : (way : Direction) (n : ℕ) (s : State) → EachTable P s → EachTable P (steps_move way n s).state
  steps_tables Back n s h = if_enough (nat_le n (length s.past)) _ _ h (back_tables n s h)
  steps_tables On n s h = if_enough (nat_le n (length s.undone)) _ _ h (on_tables n s h)

  -- The table that the step makes of the one now, by a job or a patch, meets the condition.
  abbrev pub Makes : ℕ → EditStep → State → Type 0
  Makes limit (Run job) s = P (plain job.now s.now limit).table
  Makes limit (Settle patch) s = P (after_of patch.now s.now)
  Makes limit step s = Unit {0}

  -- So does each table after any step.
  pub edited_tables : (limit : ℕ) (step : EditStep) (s : State) → Makes limit step s → EachTable P s → EachTable P (edited limit step s).state
  edited_tables limit (Run job) s p h = job_tables limit job.now s p h
  edited_tables limit Begin s p h = record { past = h.past; now = h.now; undone = h.undone; start = h.now }
  edited_tables limit GiveUp s p h = record { past = h.past; now = h.start; undone = h.undone; start = h.start }
  edited_tables limit End s p h = record { past = put_past s.accepted s.start s.past h.start h.past; now = h.now; undone = h.undone; start = h.now }
  edited_tables limit (Undo n) s p h = steps_tables Back n s h
  edited_tables limit (Redo n) s p h = steps_tables On n s h
  edited_tables limit (Settle patch) s p h = record { past = tt; now = p; undone = tt; start = p }

  -- what KeepsBases keeps of a table, an edit keeps of each
  pub kept_tables : ((t u : TableValue) → KeepsBases t u → P t → P u) → (limit : ℕ) (step : EditStep) (s : State) → IsEdit step → EachTable P s → EachTable P (edited limit step s).state
  kept_tables keeps limit step s is h = edited_tables limit step s (makes step is) h
    where
      makes : (step : EditStep) → IsEdit step → Makes limit step s
      makes (Run job) is = keeps s.now (plain job.now s.now limit).table (job_keeps job.now s.now limit is) h.now
      makes (Settle patch) is = absurd is
      makes step is = tt

-- Each table of an editor keeps its own bases, so each after a step keeps those of some table before it.

same_bases : (t : TableValue) → KeepsBases t t
same_bases t = record { sides = λ k b n h. h; keys = λ k p m. m }

bases_on : (t u v : TableValue) → KeepsBases t u → KeepsBases u v → KeepsBases t v
bases_on t u v f g = record { sides = λ k b n h. f.sides k b n (g.sides k b n h); keys = λ k p m. f.keys k p (g.keys k p m) }

any_more : (P Q : TableValue → Type 0) → ((t : TableValue) → P t → Q t) → (ts : List TableValue) → AnyByRecursion P ts → AnyByRecursion Q ts
any_more P Q f [] h = h
any_more P Q f (t ∷ ts) (inl h) = inl (f t h)
any_more P Q f (t ∷ ts) (inr h) = inr (any_more P Q f ts h)

all_any : (Q : TableValue → Type 0) (ts : List TableValue) → ((u : TableValue) → AnyByRecursion (λ t. KeepsBases t u) ts → Q u) → AllByRecursion Q ts
all_any Q [] h = tt
all_any Q (t ∷ ts) h = (h t (inl (same_bases t)), all_any Q ts (λ u a. h u (inr a)))

own_tables : (s : State) → EachTable (KeepsSome s) s
own_tables s = record {
  past = all_any (KeepsSome s) s.past (λ u a. in_past a);
  now = at_now (same_bases s.now);
  undone = all_any (KeepsSome s) s.undone (λ u a. in_undone a);
  start = at_start (same_bases s.start);
}

some_on : (s : State) (t u : TableValue) → KeepsBases t u → KeepsSome s t → KeepsSome s u
some_on s t u h (in_past a) = in_past (any_more (λ x. KeepsBases x t) (λ x. KeepsBases x u) (λ x k. bases_on x t u k h) s.past a)
some_on s t u h (at_now k) = at_now (bases_on s.now t u k h)
some_on s t u h (in_undone a) = in_undone (any_more (λ x. KeepsBases x t) (λ x. KeepsBases x u) (λ x k. bases_on x t u k h) s.undone a)
some_on s t u h (at_start k) = at_start (bases_on s.start t u k h)

pub steps_keep : (limit : ℕ) (step : EditStep) (s : State) → IsEdit step → EachTable (KeepsSome s) (edited limit step s).state
steps_keep limit step s is = kept_tables (KeepsSome s) (some_on s) limit step s is (own_tables s)
