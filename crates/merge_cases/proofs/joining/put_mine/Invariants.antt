use Rattle.std.proofs.Common.{◌≡◌, drop}
use Rattle.merge_cases.specs.declared.pick.Pick.TheVariants.{Mine}
use Rattle.merge_cases.specs.Join.{with_tags, standing_by}
use Rattle.merge_cases.proofs.joining.put_mine.Given as goal

abbrev pub invariant-loop-tag : goal.invariant-loop-tag
invariant-loop-tag g l = with_tags l.tags (standing_by (g.R.TagRule.whose l.rule) Mine (drop l.tag-index l.mine)) ≡ with_tags l.fn.tags (standing_by (g.R.TagRule.whose l.rule) Mine l.mine)
