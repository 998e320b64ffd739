use Rattle.std.proofs.Common.{◌≡◌, drop}
use Rattle.opl_line.specs.ManyTags.{tags_added}
use Rattle.opl_line.proofs.many_tags.put_all.Given as goal

abbrev pub invariant-loop-tag : goal.invariant-loop-tag
invariant-loop-tag l = tags_added l.tags (drop l.tag-index l.list) ≡ tags_added l.fn.tags l.list
