use Rattle.std.proofs.Common.{◌≡◌, length}
use Rattle.opl_text.specs.Text.{unescaped}
use Rattle.opl_line.specs.Cut.{split}
use Rattle.opl_line.specs.Field.{is}
use Rattle.edit_script.specs.Items.{all_of}
use Rattle.edit_script.proofs.Lists.{onto_items}
use Rattle.edit_script.proofs.items.all_tag_keys.Given as goal

abbrev pub invariant-loop-keys : goal.invariant-loop-keys
invariant-loop-keys l = all_of unescaped (split (is 44) l.text) ≡ onto_items l.keys (all_of unescaped (split (is 44) l.rest))

abbrev pub decreases-loop-keys : goal.decreases-loop-keys
decreases-loop-keys l = length l.rest
