use Rattle.std.proofs.Common.{◌∙◌, ap, refl}
use Rattle.dataset.specs.Draft.{DraftValue, drafted}
use Rattle.osm_table.specs.Table.{keys_by_rank}
use Rattle.saved_session.specs.Reading.{Session}
use Rattle.saved_session.proofs.Drafted.{drafted_saved}
use Rattle.saved_session.proofs.drafting.draft_of.Goals as goal

pub returns : goal.returns
returns c =
    let s : Session = record { next = c.args.saved.now.next; entries = c.args.saved.now.entries } in
    ap (λ (d : DraftValue). drafted d c.args.ds.now) c.set_next.ensures
    ∙ drafted_saved c.args.ds.now s c.in_ok-draft.draft c.empty_out.new.draft c.put_all_in.new.draft (keys_by_rank c.args.ds.now) c.requires c.in_ok-draft.ensures refl c.in_ok-empty_out.ensures c.in_ok-put_all_in.ensures
