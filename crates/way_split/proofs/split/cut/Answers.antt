use Rattle.std.proofs.Common.{◌≡◌, [], Option, List, IfOk, sym, ap, ◌∙◌, subst}
use Rattle.std.specs.Option.{IfNone}
use Rattle.osm_base.specs.declared.key.Key.{Key}
use Rattle.tool_api.specs.declared.refusal.Refusal.{Refusal}
use Rattle.tool_api.specs.Split.{node_tests}
use Rattle.way_split.specs.NodeChecks.{IsTested}
use Rattle.way_split.proofs.Endings.{nodes_refuse}
use Rattle.way_split.proofs.split.cut.Goals as goal

pub returns-in-Some : goal.returns-in-Some
returns-in-Some c = nodes_refuse c.args.ds.now c.args.way c.args.nodes.now c.args.refs.now c.requires.refs c.requires.target _ (sym c.in-Some.is ∙ c.in_ok-tested.ensures.test)

pub cut_at-requires : goal.cut_at-requires
cut_at-requires c =
    let same : c.node_tests.new.seen ≡ c.args.nodes.now = subst (λ (o : Option Refusal). IfNone o (c.node_tests.new.seen ≡ c.args.nodes.now)) c.in-None.is c.in_ok-tested.ensures.seen in
    record {
      refs = c.requires.refs;
      target = c.requires.target;
      cuts = ap (node_tests c.args.refs.now []) same ∙ sym c.in_ok-tested.ensures.test ∙ c.in-None.is;
    }

pub returns : goal.returns
returns c =
    let same : c.node_tests.new.seen ≡ c.args.nodes.now = subst (λ (o : Option Refusal). IfNone o (c.node_tests.new.seen ≡ c.args.nodes.now)) c.in-None.is c.in_ok-tested.ensures.seen in
    subst (λ (ks : List Key). IfOk c.cut_at.result (IsTested c.args.ds.now c.args.way ks)) same c.cut_at.ensures
