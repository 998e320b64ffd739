use Rattle.std.proofs.Common.{◌∙◌, ◌+◌, drop, sym, ap}
use Rattle.dataset.specs.Draft.{drafted}
use Rattle.saved_session.specs.Drafting.{with_all}
use Rattle.saved_session.specs.Reading.{Entries}
use Rattle.osm_table.specs.Table.{TableValue}
use Rattle.saved_session.proofs.KeyedTable.{from_place}
use Rattle.saved_session.proofs.drafting.put_all_in.Goals as goal

pub loop-i-preserved : goal.loop-i-preserved
loop-i-preserved c =
    let es = c.args.entries.now in
    ap (λ (t : TableValue). with_all (drop (c.loop-i.i + 1) es) t) c.in_ok-put_in.ensures
    ∙ ap (λ (xs : Entries). with_all xs (drafted c.loop-i.draft c.args.ds.now)) (sym (from_place es c.loop-i.i (c.entry_at.result.0, c.entry_at.result.1.now) c.entry_at.ensures.pair))
    ∙ c.loop-i.invariant
