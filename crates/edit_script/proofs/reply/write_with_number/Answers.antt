use Rattle.std.proofs.lemmas.Result.{on_err_weaker}
use Rattle.osm_base.proofs.ExtendLaws.{extends_more}
use Rattle.edit_script.proofs.Texts.{last_text}
use Rattle.edit_script.proofs.reply.write_with_number.Goals as goal

pub returns : goal.returns
returns c =
    let number = c.in_ok-extend_from_slice.ensures.items in
    record {
      written = last_text c.write_number_behind.result _ _ _ _ _ number c.write_number_behind.ensures.written;
      kept = on_err_weaker c.write_number_behind.result (extends_more _ _ _ _ number) c.write_number_behind.ensures.kept;
    }
