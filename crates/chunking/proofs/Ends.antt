-- Each line of an upload ends at a line's end.
use Rattle.std.proofs.Common.{inl, inr, ℕ, ◌+◌, List, [], ◌∷◌, ◌++◌, Some, refl, codes, decimal}
use Rattle.osm_base.specs.Number.{key_written}
use Rattle.osm_base.specs.Meta.{empty_meta}
use Rattle.opl_line.specs.Written.{written}
use Rattle.osm_outside.specs.Lines.{AreLines, EndsLine}
use Rattle.osm_outside.proofs.Lines.{at_end, behind, both_lines}
use Rattle.upload_order.specs.declared.change.Change.{Change}
use Rattle.upload_order.specs.declared.change.Change.TheVariants.{Create, Modify, Delete}
use Rattle.chunking.specs.Chunks.{change_text, changes_text, head_text, item_text, part, upload_line}

change_ends : (c : Change) → EndsLine (change_text c)
change_ends (Create k content) = behind (codes "create ") _ (at_end (written k 0 (Some content) empty_meta))
change_ends (Modify k version content) = behind (codes "modify ") _ (at_end (written k version (Some content) empty_meta))
change_ends (Delete k version) = behind (codes "delete ") _ (behind (key_written k) _ (behind (codes " v") _ (at_end (decimal version))))

pub item_lines : (size count at : ℕ) (c : Change) → AreLines (item_text size count at c)
item_lines size count at c = inr (behind (head_text size count at) (change_text c) (change_ends c))

pub changes_lines : (size count at : ℕ) (cs : List Change) → AreLines (changes_text size count at cs)
changes_lines size count at [] = inl refl
changes_lines size count at (c ∷ cs) = both_lines (item_text size count at c) (changes_text size count (at + 1) cs) (item_lines size count at c) (changes_lines size count (at + 1) cs)

pub upload_ends : (changes count : ℕ) → EndsLine (upload_line changes count)
upload_ends changes count = behind (part (codes "upload changes ") changes) _ (at_end (part (codes " chunks ") count))
