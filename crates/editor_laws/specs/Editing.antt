-- What holds of the tables of an editor, whatever steps it takes.
use Rattle.std.specs.Prelude.{◌≡◌, ◌⊎◌, ℕ, Bool, true, false, List, [], ◌∷◌}
use Rattle.std.specs.List.{AllByRecursion}
use Rattle.osm_table.specs.Table.{TableValue}
use Rattle.tool_api.specs.declared.job.Job.{Job}
use Rattle.tool_api.specs.declared.job.Job.TheVariants as job
use Rattle.tool_api.specs.Plain.{plain}
use Rattle.edit_history.specs.declared.edit_step.EditStep.{EditStep}
use Rattle.edit_history.specs.declared.edit_step.EditStep.TheVariants.{Run, Settle}
use Rattle.edit_history.specs.Machine.{State}
use Rattle.editor_laws.specs.Bases.{KeepsBases}

-- whether the job takes in a download
abbrev pub is_merge : Job → Bool
is_merge (job.Merge told) = true
is_merge j = false

-- Whatever the table and the limit, the table after the job keeps the bases of the one before it.
abbrev pub KeepsAllBases : Job → Type 0
KeepsAllBases j = (t : TableValue) (limit : ℕ) → KeepsBases t (plain j t limit).table

-- the step neither takes in a download nor settles what a server answered
abbrev pub IsEdit : EditStep → Type 0
IsEdit (Run job) = is_merge job.now ≡ false
IsEdit (Settle patch) = ⊥
IsEdit step = Unit {0}

-- each table of an editor meets a condition
pub record EachTable (P : TableValue → Type 0) (s : State) : Type 0 where
  pub past : AllByRecursion P s.past
  pub now : P s.now
  pub undone : AllByRecursion P s.undone
  pub start : P s.start

-- an item of a list meets a condition
abbrev pub AnyByRecursion : {X : Type 0} → (X → Type 0) → List X → Type 0
AnyByRecursion P [] = ⊥
AnyByRecursion P (x ∷ xs) = P x ⊎ AnyByRecursion P xs

-- some table of an editor meets a condition
pub data SomeTable (P : TableValue → Type 0) (s : State) : Type 0 where
  in_past : AnyByRecursion P s.past → SomeTable P s
  at_now : P s.now → SomeTable P s
  in_undone : AnyByRecursion P s.undone → SomeTable P s
  at_start : P s.start → SomeTable P s

-- the table keeps the bases of some table of the editor
abbrev pub KeepsSome : State → TableValue → Type 0
KeepsSome s u = SomeTable (λ t. KeepsBases t u) s
