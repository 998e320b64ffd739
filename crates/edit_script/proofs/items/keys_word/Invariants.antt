use Rattle.std.proofs.Common.{◌≡◌, length}
use Rattle.osm_base.specs.Number.{key_text}
use Rattle.opl_line.specs.Cut.{split}
use Rattle.opl_line.specs.Field.{is}
use Rattle.edit_script.specs.Items.{all_of}
use Rattle.edit_script.proofs.Lists.{onto_items}
use Rattle.edit_script.proofs.items.keys_word.Given as goal

abbrev pub invariant-loop-keys : goal.invariant-loop-keys
invariant-loop-keys l = all_of key_text (split (is 44) l.word) ≡ onto_items l.keys (all_of key_text (split (is 44) l.rest))

abbrev pub decreases-loop-keys : goal.decreases-loop-keys
decreases-loop-keys l = length l.rest
