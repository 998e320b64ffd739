use Rattle.std.proofs.Common.{◌≡◌, drop}
use Rattle.osm_base.specs.declared.key.Key.{Key}
use Rattle.osm_table.specs.Table.{entry_of}
use Rattle.dataset.specs.Draft.{drafted}
use Rattle.tool_api.specs.Checks.{is_named}
use Rattle.conflict.specs.Settled.{entered}
use Rattle.conflict.proofs.settling.enter_all.Given as goal

abbrev pub invariant-loop-key : goal.invariant-loop-key
invariant-loop-key l =
    ((q : Key) → entered (is_named (drop l.key-index l.keys) q) (entry_of (drafted l.draft l.ds) q) ≡ entered (is_named l.keys q) (entry_of (drafted l.initial.draft l.ds) q))
    × (l.draft.next ≡ l.initial.draft.next)
