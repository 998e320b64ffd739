use Rattle.osm_base.proofs.ExtendLaws.{extends_more, failed_after}
use Rattle.opl_line.proofs.Again.{written_is_a_line, written_spells}
use Rattle.opl_line.proofs.writing.write_line.Goals as goal

pub returns-clause-line : goal.returns-clause-line
returns-clause-line c = written_is_a_line _ _ _ _

pub returns-clause-spells : goal.returns-clause-spells
returns-clause-spells c mode good may = written_spells mode _ _ _ _ good may

pub returns-in_err-write_key-clause-line : goal.returns-in_err-write_key-clause-line
returns-in_err-write_key-clause-line c = written_is_a_line _ _ _ _

pub returns-in_err-write_key-clause-spells : goal.returns-in_err-write_key-clause-spells
returns-in_err-write_key-clause-spells c mode good may = written_spells mode _ _ _ _ good may

pub returns-in_err-write_front-clause-line : goal.returns-in_err-write_front-clause-line
returns-in_err-write_front-clause-line c = written_is_a_line _ _ _ _

pub returns-in_err-write_front-clause-spells : goal.returns-in_err-write_front-clause-spells
returns-in_err-write_front-clause-spells c mode good may = written_spells mode _ _ _ _ good may

pub returns-in_err-write_back-clause-line : goal.returns-in_err-write_back-clause-line
returns-in_err-write_back-clause-line c = written_is_a_line _ _ _ _

pub returns-in_err-write_back-clause-spells : goal.returns-in_err-write_back-clause-spells
returns-in_err-write_back-clause-spells c mode good may = written_spells mode _ _ _ _ good may

pub returns-in_err-write_side-clause-line : goal.returns-in_err-write_side-clause-line
returns-in_err-write_side-clause-line c = written_is_a_line _ _ _ _

pub returns-in_err-write_side-clause-spells : goal.returns-in_err-write_side-clause-spells
returns-in_err-write_side-clause-spells c mode good may = written_spells mode _ _ _ _ good may

pub returns-in_err-write_front-clause-kept : goal.returns-in_err-write_front-clause-kept
returns-in_err-write_front-clause-kept c =
    failed_after c.from_residual-in_err-write_front.result _ _ _ _ c.in_ok-write_key.ensures.written c.in_err-write_front.ensures.kept

pub returns-in_err-write_back-clause-kept : goal.returns-in_err-write_back-clause-kept
returns-in_err-write_back-clause-kept c =
    failed_after c.from_residual-in_err-write_back.result _ _ _ _ c.in_ok-write_key.ensures.written (extends_more _ _ _ _ c.in_ok-write_front.ensures.written c.in_err-write_back.ensures.kept)

pub returns-in_err-write_side-clause-kept : goal.returns-in_err-write_side-clause-kept
returns-in_err-write_side-clause-kept c =
    failed_after c.from_residual-in_err-write_side.result _ _ _ _ c.in_ok-write_key.ensures.written (extends_more _ _ _ _ c.in_ok-write_front.ensures.written (extends_more _ _ _ _ c.in_ok-write_back.ensures.written c.in_err-write_side.ensures.kept))
