use Rattle.std.proofs.Common.{cond, Some, ap, ◌∙◌}
use Rattle.map_checks.specs.Places.{eq, hashed, noted_at}
use Rattle.map_checks.specs.declared.places.Place.{Place}
use Rattle.map_checks.proofs.places.Places.note.Goals as goal

pub returns-clause-noted : goal.returns-clause-noted
returns-clause-noted c there =
    c.in_ok-insert.ensures.updates.0 (hashed there)
    ∙ ap (λ (p : Place). cond (eq p (hashed there)) (Some c.args.key) (noted_at c.args.self.now.first.entries there)) c.hashed.ensures
