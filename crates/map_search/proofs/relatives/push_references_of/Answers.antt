use Rattle.std.proofs.Common.{List, sym, ap, ◌++◌, ◌∙◌}
use Rattle.std.proofs.lemmas.List.{append-nil}
use Rattle.osm_base.specs.declared.key.Key.{Key}
use Rattle.map_search.proofs.OfKinds.{nodes_have_no_refs}
use Rattle.map_search.proofs.relatives.push_references_of.Goals as goal

pub returns-in-Node : goal.returns-in-Node
returns-in-Node c =
    let before = c.args.refs.now.items in
    sym (append-nil before) ∙ ap (λ (more : List Key). before ++ more) (sym (nodes_have_no_refs c.args.ds.now c.args.key c.sound.ensures (sym c.in-Node.is)))
