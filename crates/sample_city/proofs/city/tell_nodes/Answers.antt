use Rattle.std.proofs.Common.{◌≡◌, ◌∙◌, ◌+◌, arith, ap, ap₂}
use Rattle.osm_base.specs.declared.key.Kind.TheVariants as kind
use Rattle.osm_table.specs.Told.{with_told}
use Rattle.sample_city.specs.City.{as_told, junction, numbered}
use Rattle.sample_city.proofs.Allowed.{junction_told}
use Rattle.sample_city.proofs.Rows.{told_more}
use Rattle.sample_city.proofs.city.tell_nodes.Goals as goal

pub tell-requires : goal.tell-requires
tell-requires c = record {
  common = c.requires.common;
  allowed = rw (c.key.ensures, c.junction.ensures) (junction_told c.loop-k.k c.loop-k.invariant.low (omega arith));
}

pub loop-k-preserved : goal.loop-k-preserved
loop-k-preserved c =
    let is : c.tell.new.told ≡ with_told c.loop-k.told (numbered kind.Node c.loop-k.k) (as_told (junction c.loop-k.k)) =
    c.in_ok-tell.ensures
    ∙ ap₂ (with_told c.loop-k.told) c.key.ensures (ap as_told c.junction.ensures) in
    record {
      low = omega arith;
      high = omega arith;
      left = told_more kind.Node junction c.loop-k.k (c.args.nodes + 1) c.loop-k.told c.tell.new.told (omega arith) is ∙ c.loop-k.invariant.left;
    }
