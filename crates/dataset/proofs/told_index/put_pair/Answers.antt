use Rattle.std.proofs.Common.{◌<◌, ◌∙◌, length, ap, refl, arith}
use Rattle.std.proofs.lemmas.Option.{slice_get_within}
use Rattle.osm_base.specs.RisingKeys.{with_key}
use Rattle.dataset.proofs.Beside.{put_at_place, put_other, not_told}
use Rattle.dataset.proofs.told_index.put_pair.Goals as goal

pub returns-in_ok-put-in-Some-clause-kept : goal.returns-in_ok-put-in-Some-clause-kept
returns-in_ok-put-in-Some-clause-kept c =
    let within : c.in-Some.place < length c.args.lists.now.users.items = omega (arith, slice_get_within c.args.told.now.order c.in-Some.place c.args.pair.of c.in-Some.ensures.some, c.requires) in
    put_at_place c.args.told.now c.args.lists.now.users.items _ c.args.lists.now.others c.in-Some.place c.args.pair c.index_mut.result.now c.put.new.self c.sound.ensures.once c.in-Some.ensures.some within
    (c.in_ok-put-in-Some.ensures.ok ∙ ap (with_key c.args.pair.user) c.index_mut.ensures.value) refl

pub returns-in_ok-add-in-None-clause-kept : goal.returns-in_ok-add-in-None-clause-kept
returns-in_ok-add-in-None-clause-kept c =
    put_other c.args.told.now c.args.lists.now.users.items c.args.lists.now.others c.add.new.self c.args.pair
    (not_told c.args.told.now c.args.pair.of c.in-None.ensures.none (c.sound.ensures.each c.args.pair.of))
    c.in_ok-add-in-None.ensures.ok
