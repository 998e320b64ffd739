use Rattle.std.proofs.Common.{sym, ◌∙◌, subst}
use Rattle.std.specs.FinMap as fin
use Rattle.server_world.specs.Codes.{Objects}
use Rattle.server_world.specs.Starts.{IsStartOf}
use Rattle.server_world.proofs.Starting.{past_stands}
use Rattle.server_world.proofs.objects.Objects.start.Goals as goal

pub loop-id-init : goal.loop-id-init
loop-id-init c =
    subst (λ (m : Objects). IsStartOf m c.args.kind c.at-id.result) c.self.view_is
    (subst (IsStartOf (fin.from_entries c.self.inside.entries.entries) c.args.kind) (sym c.at-id.ensures) (c.self.invariant.starts c.args.kind))

pub loop-id-preserved : goal.loop-id-preserved
loop-id-preserved c = past_stands c.args.self.now c.args.kind c.loop-id.id c.loop-id.invariant c.loop-id-test.true (sym c.has.ensures ∙ c.if-has.true)
