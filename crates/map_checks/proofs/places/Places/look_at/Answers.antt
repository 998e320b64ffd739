use Rattle.std.proofs.Common.{sym, ◌∙◌}
use Rattle.map_checks.proofs.Firsts.{not_noted, noted_again, noted_now}
use Rattle.map_checks.proofs.places.Places.look_at.Goals as goal

pub returns-in_default-clause-noted : goal.returns-in_default-clause-noted
returns-in_default-clause-noted c keys h = not_noted c.args.ds.now keys c.args.key _ (sym c.place_near.ensures ∙ c.in_default.is) h

pub returns-in-None-clause-noted : goal.returns-in-None-clause-noted
returns-in-None-clause-noted c keys h =
    noted_now c.args.ds.now keys c.args.key c.in-Some.at _ _ (sym c.place_near.ensures ∙ c.in-Some.is) (sym c.in_ok-note.ensures.before ∙ c.in-None.is) c.in_ok-note.ensures.noted h

pub returns-in_ok-note-in-Some-2-clause-noted : goal.returns-in_ok-note-in-Some-2-clause-noted
returns-in_ok-note-in-Some-2-clause-noted c keys h =
    noted_again c.args.ds.now keys c.args.key c.in-Some-2.first c.in-Some.at _ _ _ (sym c.place_near.ensures ∙ c.in-Some.is) (sym c.in-Some-2.is ∙ c.in_ok-note.ensures.before) c.in_ok-note.ensures.noted c.in_ok-note-in-Some-2.ensures.noted h
