-- What an act finds is what its file comes to.
use Rattle.std.proofs.Common.{◌≡◌, ℕ, List, Option, Result, IfOk, sym, subst}
use Rattle.std.specs.Option.{option_map}
use Rattle.osm_base.specs.Tags.{Pair}
use Rattle.osm_base.specs.declared.area.Area.{Area}
use Rattle.osm_outside.specs.Outside.{Shelved, held}
use Rattle.opl_line.specs.declared.mode.Mode.TheVariants as mode
use Rattle.opl_file.specs.Reading.{objects_of}
use Rattle.download.specs.Filter.{filtered}
use Rattle.tool_api.specs.declared.job.Job.TheVariants.{Merge}
use Rattle.edit_script.specs.declared.step.Purpose.TheVariants.{Download}
use Rattle.edit_script.specs.declared.step.Purpose.{Purpose}
use Rattle.edit_steps.specs.declared.stop.Stop.{Stop}
use Rattle.edit_steps.specs.declared.limits.Limits.{Limits}
use Rattle.edit_steps.specs.declared.loading.Found.{Found}
use Rattle.edit_steps.specs.Given.{Given, Finds}
use Rattle.edit_steps.specs.Load.{file_found, job_found}

-- what is wanted of a file
abbrev pub map_found : Limits → Option Area → Option (List Pair) → Given → Found
map_found limits area wanted given = job_found (λ objects. Merge (filtered objects area wanted)) (option_map (objects_of mode.Download limits.file) given)

pub map_is_found : (told : Option Shelved) (limits : Limits) (purpose : Purpose) (result : Result Found Stop) (name : List ℕ) (area : Option Area) (wanted wanted_read : Option (List Pair))
    → purpose ≡ Download area wanted → wanted_read ≡ wanted
    → IfOk result (λ found. Finds told (λ files. held files name) found (map_found limits area wanted_read))
    → IfOk result (λ found. Finds told (λ files. held files name) found (file_found limits purpose))
map_is_found told limits purpose result name area wanted wanted_read is same_wanted h =
    let asked = subst (λ (w : Option (List Pair)). IfOk result (λ found. Finds told (λ files. held files name) found (map_found limits area w))) same_wanted h in
    subst (λ (p : Purpose). IfOk result (λ found. Finds told (λ files. held files name) found (file_found limits p))) (sym is) asked
