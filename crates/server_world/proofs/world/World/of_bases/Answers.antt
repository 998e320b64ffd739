use Rattle.std.proofs.Common.{[], ap, ◌∙◌}
use Rattle.upload_order.specs.World.{World, stands}
use Rattle.server_world.specs.Asked.{of_those}
use Rattle.server_world.specs.Codes.{Objects}
use Rattle.server_world.proofs.Based.{put_bases, bases_stand}
use Rattle.server_world.proofs.world.World.of_bases.Goals as goal

pub returns-clause-value : goal.returns-clause-value
returns-clause-value c =
    let t = c.args.ds.now in
    c.in_ok-world.ensures ∙ ap (of_those t) (c.as_slice.ensures ∙ c.in_ok-keys.ensures) ∙ ap (λ (m : Objects). let w : World = record { entries = m; names = [] } in w) (put_bases t)

pub returns-clause-stands : goal.returns-clause-stands
returns-clause-stands c = λ key. ap (λ (w : World). stands w key) (returns-clause-value c) ∙ bases_stand c.args.ds.now key
