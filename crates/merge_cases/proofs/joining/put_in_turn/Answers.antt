use Rattle.std.proofs.Common.{rules}
use Rattle.merge_cases.specs.Join.{standing_by}
use Rattle.merge_cases.specs.declared.pick.Pick.TheVariants.{Mine}
use Rattle.merge_cases.proofs.Turns.{sorted_put, put_between}
use Rattle.merge_cases.proofs.joining.put_in_turn.Goals as goal

pub returns-clause-sorted : goal.returns-clause-sorted
returns-clause-sorted g c =
    sorted_put c.args.tags.now c.put_mine.new.tags c.put.new.self (standing_by (g.R.TagRule.whose c.args.rule.now) Mine c.split_at.result.0.now) c.args.tag.now
    c.requires.sorted c.in_ok-put_mine.ensures (search rules)

pub returns-clause-tags : goal.returns-clause-tags
returns-clause-tags g c =
    put_between (g.R.TagRule.whose c.args.rule.now) c.args.tags.now c.put_mine.new.tags c.put.new.self c.args.rest.now c.split_at.result.0.now c.split_at.result.1.now c.args.tag.now
    c.requires.sorted (search rules) c.split_at.ensures.by_index.0 c.in_ok-put_mine.ensures (search rules)
