use Rattle.std.proofs.Common.{ap, sym, ◌∙◌}
use Rattle.std.specs.List.{find}
use Rattle.server_world.specs.Unsound.{is_unsound, is_unsound_at}
use Rattle.server_world.proofs.Walking.{first_entry}
use Rattle.server_world.proofs.Unsoundness.{none_sound, sound_none}
use Rattle.server_world.proofs.world.World.first_unsound.Goals as goal

pub returns-clause-value : goal.returns-clause-value
returns-clause-value c =
    c.first_unsound_of.ensures
    ∙ ap (find (is_unsound_at c.args.self.now)) (c.as_slice.ensures ∙ c.in_ok-keys.ensures)
    ∙ first_entry c.args.self.now (is_unsound c.args.self.now)

pub returns-clause-sound : goal.returns-clause-sound
returns-clause-sound c = λ none. none_sound c.args.self.now (sym (returns-clause-value c) ∙ none)

pub returns-clause-unsound : goal.returns-clause-unsound
returns-clause-unsound c = λ sound. returns-clause-value c ∙ sound_none c.args.self.now sound
