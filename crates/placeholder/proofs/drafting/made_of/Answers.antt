use Rattle.std.proofs.Common.{subst, w64, to_z, of_z}
use Rattle.std.proofs.lemmas.Int.{to_z-of_z}
use Rattle.dataset.specs.Draft.{drafted}
use Rattle.placeholder.specs.Drafting.{DraftsTable}
use Rattle.placeholder.proofs.Drafted.{made_goes}
use Rattle.placeholder.proofs.drafting.made_of.Goals as goal

pub returns : goal.returns
returns c =
    let t = c.args.ds.now in
    let id = c.args.id in
    let goes = made_goes t (drafted c.args.draft t) (drafted c.in_ok-draft.draft t) (drafted c.in_ok-draft-2.draft t) c.args.placeholder id (to_z w64 (of_z w64 id)) c.users.result.now c.args.content.now c.in_ok-renamed.field-0 c.in_ok-entry.entry in
    subst (DraftsTable t c.with_entry.result)
    (goes (to_z-of_z w64 id c.ranges.id) c.users.ensures c.requires c.in_ok-draft.ensures c.in_ok-draft-2.ensures c.in_ok-renamed.ensures c.in_ok-entry.ensures)
    c.with_entry.ensures
