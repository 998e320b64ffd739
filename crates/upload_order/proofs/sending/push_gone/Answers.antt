use Rattle.std.proofs.Common.{List, false, map, ◌++◌, sym, ◌∙◌, ap}
use Rattle.osm_base.specs.declared.key.Key.{Key}
use Rattle.upload_order.specs.declared.change.Change.{Change}
use Rattle.upload_order.specs.declared.down.Down.TheVariants.{Remove}
use Rattle.upload_order.specs.Part.{keys_in}
use Rattle.upload_order.specs.Plan.{down_of}
use Rattle.upload_order.proofs.Parts.{plain}
use Rattle.upload_order.proofs.sending.push_gone.Goals as goal

pub returns : goal.returns
returns c =
    let t = c.args.ds.now in
    c.in_ok-push_removes.ensures
    ∙ ap (λ (ks : List Key). c.args.changes.now ++ map (λ k. down_of t (Remove k false)) ks) (c.deref.ensures.value ∙ c.in_ok-keys.ensures)
    ∙ ap (λ (cs : List Change). c.args.changes.now ++ cs) (sym (plain t (keys_in t c.args.part)))
