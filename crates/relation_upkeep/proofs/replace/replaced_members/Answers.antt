use Rattle.std.proofs.Common.{◌≡◌, ◌+◌, ◌++◌, ◌∷◌, [], ap, Vec, Global, length, slice_get, Some, sym, ◌∙◌, refl}
use Rattle.std.specs.Option.{option_copied}
use Rattle.osm_base.specs.declared.members.Member.{Member}
use Rattle.tool_api.specs.Upkeep.{touches, is_backward, first_node, last_node}
use Rattle.std.proofs.lemmas.Option.{slice_get_read}
use Rattle.relation_upkeep.specs.Replace.{piece_values, via_of}
use Rattle.relation_upkeep.proofs.Replaces.{got, stood_step, kept_step, all_steps}
use Rattle.relation_upkeep.proofs.replace.replaced_members.Goals as goal
use Rattle.relation_upkeep.proofs.replace.replaced_members.Goals.{then-same_key+in_ok-push_stood, else-same_key+in_ok-copy+in_ok-push}

pub loop-i-preserved : goal.loop-i-preserved
loop-i-preserved c =
    let t = c.args.ds.now in
    let way = c.args.way in
    let ps = piece_values c.args.pieces.now in
    let v = via_of t way c.args.tags.now c.args.members.now in
    let ms = c.args.members.now in
    let at : slice_get ms c.loop-i.i ≡ Some c.index-members-i.result = slice_get_read ms (length ms) c.loop-i.i c.index-members-i.result refl c.loop-i-test.true c.index-members-i.is in
    elim c.if-same_key.branch [
      | then-same_key+in_ok-push_stood w ↦ stood_step t way ps v (option_copied c.loop-i.before) ms c.loop-i.i c.index-members-i.result _ _ _ _ _ at (sym c.same_key.ensures.test ∙ w.if-same_key.true) c.in_ok-turn.ensures
          (let after = got ms (c.loop-i.i + 1) w.get.result w.get.ensures.lookup in w.is_backward-backward.ensures ∙ (λ j. is_backward (touches t way (first_node ps) (option_copied c.loop-i.before)) (touches t way (last_node ps) (option_copied c.loop-i.before)) (touches t way (first_node ps) (after j)) (touches t way (last_node ps) (after j))))
          (ap (λ (x : Vec Member Global). x.items) w.out-is ∙ w.in_ok-push_stood.ensures) c.loop-i.invariant
      | else-same_key+in_ok-copy+in_ok-push w ↦ kept_step t way ps v (option_copied c.loop-i.before) ms c.loop-i.i c.index-members-i.result _ _ _ at (sym c.same_key.ensures.test ∙ w.if-same_key.false)
          (ap (λ (x : Vec Member Global). x.items) w.out-is ∙ w.in_ok-push.ensures.items ∙ ap (λ (m : Member). c.loop-i.out.items ++ m ∷ []) w.in_ok-copy.ensures) c.loop-i.invariant
    ]

pub returns : goal.returns
returns c =
    let t = c.args.ds.now in
    let ms = c.args.members.now in
    all_steps t c.args.way (piece_values c.args.pieces.now) (via_of t c.args.way c.args.tags.now ms) (option_copied c.loop-i.before) ms c.loop-i.i _ _ c.loop-i-test.false c.loop-i.invariant
