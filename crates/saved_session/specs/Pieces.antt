-- The text of a known entry in its parts, for the proof of the code.
use Rattle.std.specs.Prelude.{ℕ, List, ◌++◌, Option}
use Rattle.osm_base.specs.declared.key.Key.{Key}
use Rattle.osm_base.specs.declared.content.Content.{Content}
use Rattle.osm_table.specs.declared.entry.Base.{Base}
use Rattle.osm_table.specs.declared.entry.Conflict.{Conflict}
use Rattle.osm_table.specs.declared.entry.Entry.TheVariants.{Known}
use Rattle.saved_session.specs.Saved.{base_lines, ended, entry_lines, mine_lines, theirs_lines}
use Rattle.saved_session.specs.Words.{mine_word}

-- the text of what a known entry has behind its words
abbrev pub sides_written : Key → Base → Option Content → Option Conflict → List ℕ
sides_written key base mine conflict = ended (base_lines key base) ++ (ended (mine_lines key (mine_word base mine) mine) ++ ended (theirs_lines key conflict))

-- the text of a known entry
abbrev pub known_written : Key → Base → Option Content → Option Conflict → List ℕ
known_written key base mine conflict = ended (entry_lines key (Known base mine conflict))
