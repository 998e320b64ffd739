use Rattle.download.specs.Filter.{tags_wanted}
use Rattle.download.proofs.FoundKept.{filtered_at_key}
use Rattle.download.proofs.law.filtered_by_key.Goals as goal

pub returns : goal.returns
returns c = λ objects area wanted key. filtered_at_key objects area (tags_wanted wanted) key
