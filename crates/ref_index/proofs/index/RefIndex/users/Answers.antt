use Rattle.std.proofs.Common.{◌∙◌, ap}
use Rattle.osm_base.specs.RisingKeys.{is_in}
use Rattle.ref_index.proofs.BagView.{member}
use Rattle.ref_index.proofs.index.RefIndex.users.Goals as goal

pub returns-clause-members : goal.returns-clause-members
returns-clause-members c = λ user. rw (← c.self.view_is) (ap (is_in user) c.list_at.ensures.users ∙ member c.self.inside.repeats.entries c.self.inside.lists.entries c.args.of user c.self.invariant)
