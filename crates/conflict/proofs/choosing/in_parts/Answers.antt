use Rattle.std.proofs.Common.{◌∙◌, ap, Some}
use Rattle.merge_cases.specs.Join.{both_of, picked, picked_by}
use Rattle.merge_cases.specs.Resolve.{settled, settled_tag}
use Rattle.conflict.proofs.choosing.in_parts.Goals as goal

pub returns : goal.returns
returns c =
    let base = c.args.base.now in
    let mine = c.args.mine.now in
    let theirs = c.args.theirs.now in
    let tags = c.in_ok-tags.ensures ∙ (λ i. picked_by (settled_tag c.args.listed.now base mine theirs) (c.tags.ensures i) (c.tags-2.ensures i)) in
    let body = c.in-Some.ensures ∙ ap (λ p. picked p mine theirs) (c.settled-whose.ensures ∙ ap (settled c.args.body) c.body_pick.ensures) in
    ap Some c.in_ok-with_body.ensures ∙ (λ i. both_of (Some (tags i)) (body i))
