use Rattle.std.proofs.Common.{◌∙◌, subst, ap, map, IfOk, List, ℤ}
use Rattle.osm_base.specs.declared.key.Key.{Key}
use Rattle.tool_api.specs.Planned.{Plans}
use Rattle.tool_api.specs.Split.{others, split_table}
use Rattle.way_split.proofs.Endings.{split_keeps, split_ends}
use Rattle.way_split.proofs.split.pieces_plan.Goals as goal

pub closed-requires : goal.closed-requires
closed-requires c =
    let t = c.args.ds.now in
    let way = c.args.way in
    record {
      sound = λ closed. split_keeps t _ c.args.limit way c.args.nodes.now _ c.args.pieces.now _ _ _ c.requires.tests c.requires.pieces c.kept_number.ensures c.next.ensures c.in_ok-parts.ensures
          (c.deref-3.ensures.value ∙ c.in_ok-named.ensures) (c.in_ok-draft.ensures ∙ ap (split_table t way) c.deref-2.ensures.value) c.requires.sound closed;
    }

pub returns : goal.returns
returns c =
    let t = c.args.ds.now in
    let way = c.args.way in
    subst (λ o. IfOk c.closed.result (Plans t o))
    (split_ends t _ c.args.limit way c.args.nodes.now _ c.args.pieces.now _ _ _ c.requires.tests c.requires.pieces c.kept_number.ensures c.next.ensures c.in_ok-parts.ensures
    (c.deref-3.ensures.value ∙ c.in_ok-named.ensures) (c.in_ok-draft.ensures ∙ ap (split_table t way) c.deref-2.ensures.value) _ (c.in_ok-made.ensures ∙ ap (λ (ps : List (Key × List ℤ)). map (λ p. p.0) (others way ps)) c.deref.ensures.value)) c.closed.ensures
