use Rattle.editor_laws.proofs.SeenMerging.{merge_sides, merge_takes}
use Rattle.editor_laws.proofs.bases.merges_take_bases.Goals as goal

pub returns-clause-sides : goal.returns-clause-sides
returns-clause-sides c = merge_sides

pub returns-clause-bases : goal.returns-clause-bases
returns-clause-bases c = merge_takes
