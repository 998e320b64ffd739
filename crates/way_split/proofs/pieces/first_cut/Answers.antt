use Rattle.std.proofs.Common.{arith}
use Rattle.osm_base.specs.Content.{node}
use Rattle.tool_api.specs.Checks.{is_named}
use Rattle.way_split.proofs.Cuts.{none_place, some_place, place_within}
use Rattle.way_split.proofs.pieces.first_cut.Goals as goal

pub returns-in-None : goal.returns-in-None
returns-in-None c = record {
  value = none_place (λ n. is_named c.args.cuts.now (node n)) c.args.circle.now c.in-None.ensures;
  within = omega arith;
}

pub returns-in-Some : goal.returns-in-Some
returns-in-Some c =
    let e = some_place (λ n. is_named c.args.cuts.now (node n)) c.args.circle.now c.in-Some.i c.in-Some.ensures in
    record {
      value = e;
      within = place_within (λ n. is_named c.args.cuts.now (node n)) c.args.circle.now c.in-Some.i e;
    }
