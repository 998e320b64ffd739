use Rattle.std.proofs.lemmas.Result.{on_err_weaker}
use Rattle.osm_base.proofs.ExtendLaws.{extends_more}
use Rattle.edit_script.proofs.Texts.{last_text}
use Rattle.edit_steps.proofs.sent.write_key_behind.Goals as goal

pub returns : goal.returns
returns c =
    let blank = c.in_ok-push.ensures.items in
    record {
      written = last_text c.write_key.result _ _ _ _ _ blank c.write_key.ensures.written;
      kept = on_err_weaker c.write_key.result (extends_more _ _ _ _ blank) c.write_key.ensures.kept;
    }
