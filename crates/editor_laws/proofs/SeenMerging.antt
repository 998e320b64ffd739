-- What a job that takes in a download makes of a table: the merged one, or a refusal leaves it.
use Rattle.std.proofs.Common.{ℕ, Option, Some, None, Ok, inl}
use Rattle.osm_base.specs.declared.key.Key.{Key}
use Rattle.osm_table.specs.Table.{TableValue, entry_of}
use Rattle.osm_table.specs.Told.{ToldValue, told_at}
use Rattle.dataset.specs.Sound.{IsSound}
use Rattle.tool_api.specs.declared.job.Job.TheVariants as job
use Rattle.tool_api.specs.declared.refusal.Refusal.{Refusal}
use Rattle.tool_api.specs.Checks.{◌>>◌}
use Rattle.tool_api.specs.Changes.{done}
use Rattle.tool_api.specs.Closing.{room_test}
use Rattle.tool_api.specs.Merged.{merged, clash_test}
use Rattle.tool_api.specs.Plain.{answered, plain}
use Rattle.editor_laws.specs.Telling.{was_there, TakesSides, TakesBases}
use Rattle.editor_laws.proofs.SeenMergedSides.{merged_sides}
use Rattle.editor_laws.proofs.SeenMergedKeys.{merged_takes}

-- what holds of the old table and of the merged one holds of the table after the job
pub by_merge : (P : TableValue → Type 0) (t : TableValue) (told : ToldValue) (limit : ℕ) → P t → P (merged t told.told) → P (plain (job.Merge told) t limit).table
by_merge P t told limit old new = by (clash_test t told.told) (room_test limit (merged t told.told))
  where
    by : (clash room : Option Refusal) → P (answered t (clash >> (room >> Ok (done (merged t told.told))))).table
    by (Some r) room = old
    by None (Some r) = old
    by None None = new

pub merge_sides : (t : TableValue) (told : ToldValue) (limit : ℕ) (k : Key) → TakesSides (entry_of t k) (told_at told k) (entry_of (plain (job.Merge told) t limit).table k)
merge_sides t told limit k = by_merge (λ u. TakesSides (entry_of t k) (told_at told k) (entry_of u k)) t told limit (λ b n s. inl s) (merged_sides t told.told k)

pub merge_takes : (t : TableValue) (told : ToldValue) (limit : ℕ) → IsSound t → TakesBases t told (plain (job.Merge told) t limit).table
merge_takes t told limit sound = by_merge (TakesBases t told) t told limit (record { sides = λ k b n s. inl s; keys = λ k e positive stands. was_there e stands }) (merged_takes t told sound)
