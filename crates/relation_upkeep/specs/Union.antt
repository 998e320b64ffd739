-- How far the tags of several objects are united.
use Rattle.std.specs.Prelude.{ℕ, Bool, false, not, if◌then◌else◌, List, [], ◌∷◌, Option, Some, None, Result, Ok, Err}
use Rattle.osm_base.specs.Same.{same_text}
use Rattle.osm_base.specs.Tags.{Pair, value_of, with_tag}
use Rattle.tool_api.specs.Combine.{united, clash_test}
use Rattle.tool_api.specs.Checks.{◌>>◌}
use Rattle.tool_api.specs.declared.refusal.Refusal.{Refusal}
use Rattle.tool_api.specs.declared.refusal.Refusal.TheVariants.{TagClash}

-- what was made, where nothing refuses it
abbrev pub unless : {A : Type 0} → Option Refusal → A → Result A Refusal
unless None made = Ok made
unless (Some refusal) made = Err refusal

-- whether there is another value
abbrev pub differs : Option (List ℕ) → List ℕ → Bool
differs None value = false
differs (Some other) value = not (same_text other value)

-- Tags set one after the other, up to the first whose key has another value by then.
abbrev pub put_on : List Pair → List Pair → Result (List Pair) Refusal
put_on so_far [] = Ok so_far
put_on so_far (t ∷ ts) = if differs (value_of so_far t.0) t.1 then Err (TagClash t.0) else put_on (with_tag so_far t.0 t.1) ts

-- the union of tags, or TagClash
abbrev pub union_of : List Pair → Result (List Pair) Refusal
union_of tags = do
  clash_test tags
  Ok (united tags)
