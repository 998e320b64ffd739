use Rattle.editor_laws.proofs.KeptOwns.{job_tags}
use Rattle.editor_laws.proofs.KeptShapes.{job_shapes}
use Rattle.editor_laws.proofs.edits.jobs_leave_parts.Goals as goal

pub returns : goal.returns
returns c = λ j t limit sound n. record {
  tags = λ k e is free. job_tags t k e is sound j limit n free;
  shape = λ k e is free. job_shapes t k e is sound j limit n free;
}
