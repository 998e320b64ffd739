use Rattle.std.proofs.Common.{◌∙◌, ap, Some}
use Rattle.dataset.specs.Draft.{DraftValue, drafted}
use Rattle.dataset.proofs.Changes.{drafted_put}
use Rattle.placeholder.proofs.drafting.with_entry.Goals as goal

pub returns : goal.returns
returns c = ap (λ (d : DraftValue). drafted d c.args.ds.now) c.in_ok-put.ensures.ok ∙ drafted_put c.args.draft c.args.ds.now c.args.key (Some c.args.entry)
