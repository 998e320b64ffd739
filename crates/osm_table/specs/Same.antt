-- Equality of entries and of their parts, as tests: one for each type, by its structure.
use Rattle.std.specs.Prelude.{◌==◌, ◌&&◌, Bool, true, false, Option, Some, None}
use Rattle.osm_base.specs.Same.{same_content, same_meta}
use Rattle.osm_base.specs.declared.content.Content.{Content}
use Rattle.osm_table.specs.declared.entry.Base.{Base}
use Rattle.osm_table.specs.declared.entry.Base.TheVariants.{New, Live, Gone}
use Rattle.osm_table.specs.declared.entry.Why.{Why}
use Rattle.osm_table.specs.declared.entry.Why.TheVariants.{Changed, Held, Withdrawn}
use Rattle.osm_table.specs.declared.entry.Conflict.{Conflict}
use Rattle.osm_table.specs.declared.entry.Entry.{Entry}
use Rattle.osm_table.specs.declared.entry.Entry.TheVariants.{Incomplete, Known}

-- the state, the version, the content and the metadata
abbrev pub same_base : Base → Base → Bool
same_base New New = true
same_base (Live version content meta) (Live other others theirs) = version == other && same_content content others && same_meta meta theirs
same_base (Gone version meta) (Gone other theirs) = version == other && same_meta meta theirs
same_base a b = false

abbrev pub same_why : Why → Why → Bool
same_why Changed Changed = true
same_why Held Held = true
same_why Withdrawn Withdrawn = true
same_why a b = false

-- the cause, and the state that the server told
abbrev pub same_conflict : Conflict → Conflict → Bool
same_conflict a b = same_why a.why b.why && same_base a.theirs b.theirs

-- both or neither in conflict, and the same conflict
abbrev pub same_conflicts : Option Conflict → Option Conflict → Bool
same_conflicts None None = true
same_conflicts (Some a) (Some b) = same_conflict a b
same_conflicts a b = false

-- both or neither living, and the same content
abbrev pub same_mine : Option Content → Option Content → Bool
same_mine None None = true
same_mine (Some a) (Some b) = same_content a b
same_mine a b = false

-- the base, mine and the conflict
abbrev pub same_entry : Entry → Entry → Bool
same_entry Incomplete Incomplete = true
same_entry (Known base mine conflict) (Known other others theirs) = same_base base other && same_mine mine others && same_conflicts conflict theirs
same_entry a b = false
