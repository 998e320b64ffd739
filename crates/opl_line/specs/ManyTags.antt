-- How a list of many tags is read: first each of them, whose keys aren't compared, and then all in the order of their keys.
use Rattle.std.specs.Prelude.{◌≡◌, ℕ, ◌==◌, ◌||◌, List, [], ◌∷◌, length, if◌then◌else◌, Result, Ok, Err}
use Rattle.osm_base.specs.Tags.{Pair, has_tag, with_tag}
use Rattle.opl_line.specs.declared.fault.LineFault.{LineFault}
use Rattle.opl_line.specs.declared.fault.LineFault.TheVariants as faults
use Rattle.opl_line.specs.declared.fault.LineAnswer.{LineAnswer}
use Rattle.opl_line.specs.declared.fault.LineAnswer.TheVariants as answers
use Rattle.opl_line.specs.Field.{tag_into}
use Rattle.opl_line.specs.Reads.{◌>>=◌}

-- one tag more, whose key is not empty and not there yet
abbrev pub tag_added : List Pair → Pair → Result (List Pair) LineFault
tag_added tags t = if length t.0 == 0 || has_tag tags t.0 then Err faults.BadTags else Ok (with_tag tags t.0 t.1)

-- one after the other
abbrev pub tags_added : List Pair → List Pair → Result (List Pair) LineFault
tags_added tags [] = Ok tags
tags_added tags (t ∷ ts) = tag_added tags t >>= λ next. tags_added next ts

-- an item read behind those that are listed
abbrev pub item_after : List Pair → List ℕ → Result (List Pair) LineFault
item_after listed item = tags_added [] listed >>= λ tags. tag_into tags item

-- What reading gives, by the tags that were listed before it was done or stopped at a fault: an earlier fault is one of
-- their keys. Nothing is said where memory ran out.
abbrev pub Listed : {X : Type 0} → Result X LineAnswer → List Pair → Result (List Pair) LineFault → Type 0
Listed (Ok x) listed read = read ≡ tags_added [] listed
Listed (Err answers.Memory) listed read = Unit {0}
Listed (Err (answers.Bad fault)) listed read = read ≡ (tags_added [] listed >>= λ _. Err fault)
