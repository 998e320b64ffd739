use Rattle.std.proofs.lemmas.Result.{on_err_weaker}
use Rattle.osm_base.proofs.ExtendLaws.{extends_more}
use Rattle.edit_steps.specs.Counted.{part}
use Rattle.edit_script.proofs.Texts.{last_text}
use Rattle.edit_steps.proofs.counting.write_part.Goals as goal

pub returns : goal.returns
unfolding part
returns c =
    let name = c.in_ok-extend_from_slice.ensures.items in
    record {
      written = last_text c.write_digits.result _ _ _ _ _ name c.write_digits.ensures.written;
      kept = on_err_weaker c.write_digits.result (extends_more _ _ _ _ name) c.write_digits.ensures.kept;
    }
