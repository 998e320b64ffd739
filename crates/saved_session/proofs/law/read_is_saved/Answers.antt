use Rattle.saved_session.proofs.Read.{given_lines, given_sound}
use Rattle.saved_session.proofs.law.read_is_saved.Goals as goal

pub returns-clause-sound : goal.returns-clause-sound
returns-clause-sound c = given_sound

pub returns-clause-lines : goal.returns-clause-lines
returns-clause-lines c = given_lines
