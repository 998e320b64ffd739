use Rattle.dataset.proofs.Results.{and_ok}
use Rattle.dataset.proofs.difference.edits_of_entries.Goals as goal

pub returns : goal.returns
returns c = and_ok _ c.push_entries.result c.push_entries.new.edits c.and.result c.and.ensures (λ over. over) c.push_entries.ensures
