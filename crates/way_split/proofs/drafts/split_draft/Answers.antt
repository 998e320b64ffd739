use Rattle.std.proofs.Common.{◌≤◌, ◌^◌, sym, subst, ap, ◌∙◌}
use Rattle.relation_upkeep.specs.Replace.{piece_values}
use Rattle.way_split.proofs.Outlines.{number_stays, outlined}
use Rattle.way_split.proofs.drafts.split_draft.Goals as goal

pub add_others-requires-clause-low : goal.add_others-requires-clause-low
add_others-requires-clause-low c =
    subst (λ n. 1 ≤ n) (sym (number_stays c.args.ds.now c.args.way c.args.parts.now _ _ _ c.deref-2.result.now (piece_values c.deref.result.now) c.in_ok-refs.refs c.new-draft.ensures c.in_ok-edit_all.ensures c.in_ok-edit_all-2.ensures)) c.requires.number.0

pub add_others-requires-clause-high : goal.add_others-requires-clause-high
add_others-requires-clause-high c =
    subst (λ n. n ≤ 10 ^ 18) (sym (number_stays c.args.ds.now c.args.way c.args.parts.now _ _ _ c.deref-2.result.now (piece_values c.deref.result.now) c.in_ok-refs.refs c.new-draft.ensures c.in_ok-edit_all.ensures c.in_ok-edit_all-2.ensures)) c.requires.number.1

pub returns : goal.returns
returns c =
    outlined c.args.ds.now c.args.way c.args.parts.now _ _ _ c.deref-2.result.now (piece_values c.deref.result.now) c.in_ok-refs.refs c.new-draft.ensures c.in_ok-edit_all.ensures c.in_ok-edit_all-2.ensures _
    (c.deref-2.ensures.value ∙ c.in_ok-relations.ensures) (ap piece_values c.deref.ensures.value ∙ c.in_ok-pieces.ensures) c.in_ok-refs.ensures c.in_ok-add_others.ensures
