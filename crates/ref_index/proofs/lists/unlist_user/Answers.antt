use Rattle.std.proofs.Common.{sym, ◌∙◌}
use Rattle.std.specs.Prelude.{None}
use Rattle.ref_index.proofs.ListViews.{same_users}
use Rattle.ref_index.proofs.lists.unlist_user.Goals as goal

pub returns-then-take_user : goal.returns-then-take_user
returns-then-take_user c = λ q.
    same_users c.take_user.new.lists.entries c.remove.new.self.entries c.args.of None (sym (c.take_user.ensures.empty c.if-take_user.true)) c.remove.ensures.updates.0 q
    ∙ c.take_user.ensures.taken q
