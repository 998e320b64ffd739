use Rattle.std.proofs.Common.{List, ap, ◌∙◌}
use Rattle.std.proofs.lemmas.Result.{IfOk-weaker}
use Rattle.osm_base.specs.Content.{node}
use Rattle.osm_base.specs.declared.key.Key.{Key}
use Rattle.tool_api.specs.Checks.{is_named}
use Rattle.way_split.proofs.Cuts.{named_nodes}
use Rattle.way_split.proofs.nodes.node_set.Goals as goal

pub returns : goal.returns
returns c = IfOk-weaker c.from_vec.result _ _ (λ set is id. ap (λ (ks : List Key). is_named ks (node id)) (is ∙ c.in_ok-keys.ensures) ∙ named_nodes c.args.ids.now id) c.from_vec.ensures
