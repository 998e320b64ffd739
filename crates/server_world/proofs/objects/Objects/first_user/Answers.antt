use Rattle.std.proofs.Common.{ap, ◌∙◌}
use Rattle.std.specs.FinMap as fin
use Rattle.upload_order.specs.Pieces.{user_among}
use Rattle.server_world.specs.Codes.{Objects}
use Rattle.server_world.proofs.Indexing.{lent_first}
use Rattle.server_world.proofs.objects.Objects.first_user.Goals as goal

pub returns : goal.returns
returns c =
    c.copied.ensures ∙ c.first.ensures.value
    ∙ lent_first (fin.from_entries c.self.inside.entries.entries) c.self.inside.index c.args.key c.users.result.now c.self.invariant.index c.users.ensures.rises c.users.ensures.members
    ∙ ap (λ (m : Objects). user_among (fin.entries m) c.args.key) c.self.view_is
