use Rattle.std.proofs.Common.{◌≡◌, ◌∙◌, ◌++◌, ◌∷◌, [], List, length, ap, arith}
use Rattle.std.proofs.lemmas.List.{length-replicate, replicate_more}
use Rattle.osm_base.specs.declared.key.Key.{Key}
use Rattle.dataset.proofs.Beside.{none_kept}
use Rattle.dataset.proofs.told_index.empty_lists.Goals as goal

pub loop-init : goal.loop-init
loop-init c = c.in_ok-users.ensures.items

pub loop-preserved : goal.loop-preserved
loop-preserved c = c.in_ok-push.ensures.items ∙ (λ i. c.loop.invariant i ++ c.new.ensures i ∷ []) ∙ replicate_more c.loop.counter []

pub returns-clause-places : goal.returns-clause-places
returns-clause-places c =
    let long : length c.loop.users.items ≡ c.loop.counter = ap (λ (us : List (List Key)). length us) c.loop.invariant ∙ length-replicate c.loop.counter [] in
    omega (arith, long, c.loop.auto.counter-end, c.loop-test.false, c.len-end.ensures.order)

pub returns-clause-none : goal.returns-clause-none
returns-clause-none c = none_kept c.args.told.now c.loop.users.items c.new-2.result c.loop.counter c.loop.invariant c.new-2.ensures
