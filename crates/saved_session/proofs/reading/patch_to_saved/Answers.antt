use Rattle.std.proofs.Common.{◌≡◌, IfOk, arith, subst}
use Rattle.osm_table.specs.Table.{TableValue}
use Rattle.osm_base.proofs.ByRank.{rises_entries}
use Rattle.dataset.specs.Diff.{diff}
use Rattle.saved_session.proofs.reading.patch_to_saved.Goals as goal

pub patch_of_entries-requires-clause-empty : goal.patch_of_entries-requires-clause-empty
patch_of_entries-requires-clause-empty c = omega (arith, c.len.ensures, c.if-len-eq0.true)

pub patch_of_entries-requires-clause-order : goal.patch_of_entries-requires-clause-order
patch_of_entries-requires-clause-order c = rises_entries c.args.saved.now.entries c.requires

pub returns : goal.returns
returns c = subst (λ (t : TableValue). IfOk c.patch_of-patch.result (λ patch. patch ≡ diff c.args.ds.now t)) c.in_ok-draft.ensures c.patch_of-patch.ensures.value
