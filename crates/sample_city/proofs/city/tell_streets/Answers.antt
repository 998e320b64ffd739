use Rattle.std.proofs.Common.{◌≡◌, ◌∙◌, ◌+◌, arith, ap, ap₂}
use Rattle.osm_base.specs.declared.key.Kind.TheVariants as kind
use Rattle.osm_table.specs.Told.{with_told}
use Rattle.sample_city.specs.City.{as_told, street, numbered}
use Rattle.sample_city.proofs.Allowed.{street_told}
use Rattle.sample_city.proofs.Rows.{told_more}
use Rattle.sample_city.proofs.city.tell_streets.Goals as goal

pub tell-requires : goal.tell-requires
tell-requires c = record {
  common = c.requires.common;
  allowed = rw (c.key.ensures, c.in_ok-street.ensures) (street_told c.loop-j.j c.loop-j.invariant.low (omega arith));
}

pub loop-j-preserved : goal.loop-j-preserved
loop-j-preserved c =
    let is : c.tell.new.told ≡ with_told c.loop-j.told (numbered kind.Way c.loop-j.j) (as_told (street c.loop-j.j)) =
    c.in_ok-tell.ensures
    ∙ ap₂ (with_told c.loop-j.told) c.key.ensures (ap as_told c.in_ok-street.ensures) in
    record {
      low = omega arith;
      high = omega arith;
      left = told_more kind.Way street c.loop-j.j (c.args.streets + 1) c.loop-j.told c.tell.new.told (omega arith) is ∙ c.loop-j.invariant.left;
    }
