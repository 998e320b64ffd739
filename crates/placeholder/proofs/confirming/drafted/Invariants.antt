use Rattle.std.proofs.Common.{◌≡◌, ◌+◌, drop}
use Rattle.dataset.specs.Draft.{drafted}
use Rattle.placeholder.specs.Drafting.{drafts_from}
use Rattle.placeholder.proofs.confirming.drafted.Given as goal

abbrev pub invariant-loop-answer : goal.invariant-loop-answer
invariant-loop-answer l = (l.at ≡ l.answer-index) × (drafts_from l.ds (l.answer-index + 1) (drafted l.draft l.ds) (drop l.answer-index l.changes) (drop l.answer-index l.answers) ≡ drafts_from l.ds 1 l.ds l.changes l.answers)
