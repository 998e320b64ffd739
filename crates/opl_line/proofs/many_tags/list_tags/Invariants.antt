use Rattle.std.proofs.Common.{◌≡◌, [], length}
use Rattle.opl_line.specs.Reads.{◌>>=◌, folded}
use Rattle.opl_line.specs.Cut.{is_one_of, split}
use Rattle.opl_line.specs.Field.{tag_into}
use Rattle.opl_line.specs.ManyTags.{tags_added}
use Rattle.opl_line.proofs.many_tags.list_tags.Given as goal

abbrev pub invariant-loop-next : goal.invariant-loop-next
invariant-loop-next l = (tags_added [] l.list.items >>= λ tags. folded tag_into tags (split (is_one_of 44 44) l.rest)) ≡ folded tag_into [] (split (is_one_of 44 44) l.text)

abbrev pub decreases-loop-next : goal.decreases-loop-next
decreases-loop-next l = length l.rest
