-- The steps in which a tag is read.
use Rattle.std.specs.Prelude.{ℕ, ◌==◌, ◌||◌, List, length, if◌then◌else◌, Result, Ok, Err, Option, None, is_some}
use Rattle.opl_text.specs.Text.{unescaped}
use Rattle.osm_base.specs.Tags.{Pair, has_tag}
use Rattle.opl_line.specs.declared.fault.LineFault.{LineFault}
use Rattle.opl_line.specs.declared.fault.LineFault.TheVariants as faults
use Rattle.opl_line.specs.Cut.{before, after}
use Rattle.opl_line.specs.Field.{is}
use Rattle.opl_line.specs.Reads.{◌>>=◌, or_fault}

-- what is behind a key's `=`, where the key isn't empty and not there yet
unfoldable pub behind_new : List Pair → List ℕ → Option (List ℕ) → Option (List ℕ)
behind_new tags key rest = if length key == 0 || has_tag tags key then None else rest

-- a value, with no `=` in it
unfoldable pub tag_value : List ℕ → Result (List ℕ) LineFault
tag_value text = or_fault faults.BadText (unescaped (before (is 61) text)) >>= λ value. if is_some (after (is 61) text) then Err faults.BadTags else Ok value
