use Rattle.std.proofs.Common.{◌≡◌, ◌∙◌, ◌+◌, arith, ap, ap₂}
use Rattle.osm_base.specs.declared.key.Kind.TheVariants as kind
use Rattle.osm_table.specs.Told.{with_told}
use Rattle.sample_city.specs.City.{as_told, route, numbered}
use Rattle.sample_city.proofs.Allowed.{route_told}
use Rattle.sample_city.proofs.Rows.{told_more}
use Rattle.sample_city.proofs.city.tell_routes.Goals as goal

pub tell-requires : goal.tell-requires
tell-requires c = record {
  common = c.requires.common;
  allowed = rw (c.key.ensures, c.in_ok-route.ensures) (route_told c.loop-q.q c.loop-q.invariant.low (omega arith));
}

pub loop-q-preserved : goal.loop-q-preserved
loop-q-preserved c =
    let is : c.tell.new.told ≡ with_told c.loop-q.told (numbered kind.Relation c.loop-q.q) (as_told (route c.loop-q.q)) =
    c.in_ok-tell.ensures
    ∙ ap₂ (with_told c.loop-q.told) c.key.ensures (ap as_told c.in_ok-route.ensures) in
    record {
      low = omega arith;
      high = omega arith;
      left = told_more kind.Relation route c.loop-q.q (c.args.routes + 1) c.loop-q.told c.tell.new.told (omega arith) is ∙ c.loop-q.invariant.left;
    }
