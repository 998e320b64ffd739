use Rattle.std.proofs.Common.{◌≡◌, ap, ◌∙◌, subst, IfOk, List}
use Rattle.osm_base.specs.declared.key.Key.{Key}
use Rattle.osm_base.specs.Order.{ranked}
use Rattle.tools_basic.proofs.Moved.{moved_is}
use Rattle.tools_basic.proofs.shift.moved_nodes.Goals as goal

pub returns : goal.returns
returns c =
    subst (λ (ks : List Key). IfOk c.ranked.result (λ nodes. nodes.items ≡ ks)) (ap ranked c.in_ok-collected.ensures ∙ moved_is c.args.ds.now c.args.keys.now c.requires.sound c.requires.passed) c.ranked.ensures
