use Rattle.placeholder.proofs.Steadily.{confirmed_sound}
use Rattle.placeholder.proofs.laws.confirmed_is_sound.Goals as goal

pub returns : goal.returns
returns c = λ t a. confirmed_sound t a.changes a.rest a.ids a.sound a.clear a.planned a.new a.within
