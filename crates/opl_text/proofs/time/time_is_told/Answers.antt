use Rattle.std.proofs.Common.{◌≡◌, ap, ◌∙◌}
use Rattle.osm_base.proofs.Told.{finds}
use Rattle.opl_text.specs.Time.{IsTime, time_text, time_written}
use Rattle.opl_text.proofs.TimeBack.{time_back}
use Rattle.opl_text.proofs.TimeLaw.{time_again}
use Rattle.opl_text.proofs.time.time_is_told.Goals as goal

pub returns : goal.returns
returns c = λ text answer. finds (λ time. IsTime time × (text ≡ time_written time)) (time_text text) answer (time_back text) (λ time is. ap time_text is.1 ∙ time_again time is.0)
