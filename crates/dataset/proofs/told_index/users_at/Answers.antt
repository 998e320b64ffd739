use Rattle.std.proofs.Common.{◌≡◌, List, get_or, sym, subst}
use Rattle.osm_base.specs.declared.key.Key.{Key}
use Rattle.dataset.proofs.Beside.{lent_at_place}
use Rattle.dataset.proofs.told_index.users_at.Goals as goal

pub returns-in-Some-clause-members : goal.returns-in-Some-clause-members
returns-in-Some-clause-members c = λ user.
    lent_at_place c.args.told.now c.args.lists.now.users.items c.args.lists.now.others c.in-Some.place c.args.of user c.as_slice.result.now c.sound.ensures.once c.requires c.in-Some.ensures.some
    (subst (λ (us : List Key). us ≡ get_or c.args.lists.now.users.items c.in-Some.place us) (sym c.as_slice.ensures.value) c.index.ensures)
