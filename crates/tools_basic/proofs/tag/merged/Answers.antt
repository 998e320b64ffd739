use Rattle.std.proofs.Common.{rules, ◌+◌, ◌∙◌, drop}
use Rattle.tool_api.specs.Basic.{retagged}
use Rattle.tools_basic.proofs.Merges.{begun, tag_step, left_step, put_step, rest_step}
use Rattle.tools_basic.proofs.tag.merged.Goals as goal
use Rattle.tools_basic.proofs.tag.merged.Goals.{then-not-is_empty+in_ok-put_last-2, else-not-is_empty}

pub loop-pair-init : goal.loop-pair-init
loop-pair-init c = begun c.in_ok-new.new c.as_slice-rest.result.now c.args.tags.now c.args.pairs.now c.in_ok-new.ensures c.as_slice-rest.ensures.value c.as_slice-rest.ensures.tags c.requires

pub loop-tag-preserved : goal.loop-tag-preserved
loop-tag-preserved c =
    tag_step c.loop-tag.new c.put_last.new.new c.loop-tag.rest.now c.in-Some.others.now (drop (c.loop-pair.pair-index + 1) c.args.pairs.now) (retagged c.args.tags.now c.args.pairs.now) c.in-Some.tag.now c.pair-item.result
    c.in_ok-put_last.ensures (search rules) c.loop-tag.invariant

pub loop-pair-preserved : goal.loop-pair-preserved
loop-pair-preserved c =
    let ps = drop (c.loop-pair.pair-index + 1) c.args.pairs.now in
    let all = retagged c.args.tags.now c.args.pairs.now in
    elim c.if-not-is_empty.branch [
      | then-not-is_empty+in_ok-put_last-2 w ↦ put_step c.loop-tag.new c.if-not-is_empty.new c.loop-tag.rest.now c.behind-rest.result.now ps all c.pair-item.result
          (w.new-is ∙ w.in_ok-put_last-2.ensures) (search rules) (search rules) (search rules) c.loop-tag.invariant
      | else-not-is_empty w ↦ left_step c.loop-tag.new c.if-not-is_empty.new c.loop-tag.rest.now c.behind-rest.result.now ps all c.pair-item.result
          w.new-is (search rules) (search rules) (search rules) c.loop-tag.invariant
    ]

pub loop-tag-2-preserved : goal.loop-tag-2-preserved
loop-tag-2-preserved c =
    rest_step c.loop-tag-2.new c.put_last-in-Some-split_first.new.new c.loop-tag-2.rest.now c.in-Some-split_first.others.now (retagged c.args.tags.now c.args.pairs.now) c.in-Some-split_first.tag.now
    c.in_ok-put_last-3.ensures (search rules) c.loop-tag-2.invariant
