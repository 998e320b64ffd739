use Rattle.std.proofs.Common.{◌<◌, sym, subst, arith, List, [], length, take}
use Rattle.std.proofs.lemmas.List.{take_more}
use Rattle.osm_base.specs.declared.key.Key.{Key}
use Rattle.dataset.specs.Edit.{Edit}
use Rattle.dataset.specs.Arrivals.{arrivals}
use Rattle.dataset.specs.Draft.{DiffOver, drafted}
use Rattle.dataset.proofs.difference.edits_of_keys.Goals as goal

pub loop-key-init : goal.loop-key-init
loop-key-init c =
    subst (λ (es : List Edit). DiffOver c.args.table.now (drafted (arrivals c.args.told.now.told c.args.table.now.next) c.args.table.now) [] es)
    (sym c.in_ok-edits.ensures.items) DiffOver.done

pub loop-key-preserved : goal.loop-key-preserved
loop-key-preserved c =
    let within : c.loop-key.key-index < length c.args.keys.now = omega arith in
    subst (λ (keys : List Key). DiffOver c.args.table.now (drafted (arrivals c.args.told.now.told c.args.table.now.next) c.args.table.now) keys c.push_told.new.edits.items)
    (sym (take_more c.args.keys.now c.loop-key.key-index _ within)) (c.in_ok-push_told.ensures (take c.loop-key.key-index c.args.keys.now) c.loop-key.invariant)
