use Rattle.many_editors.proofs.MeetingTexts.{first_texts, met_texts}
use Rattle.many_editors.proofs.texts.meetings_keep_texts.Goals as goal

pub returns-clause-first : goal.returns-clause-first
returns-clause-first c = first_texts

pub returns-clause-acts : goal.returns-clause-acts
returns-clause-acts c = met_texts
