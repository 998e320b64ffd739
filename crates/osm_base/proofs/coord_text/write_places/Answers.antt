use Rattle.std.proofs.Common.{◌≡◌, ◌*◌, ◌%◌, ◌++◌, suc, length, sym, ap, ◌∙◌, arith, append_assoc}
use Rattle.osm_base.specs.Coord.{places_of}
use Rattle.osm_base.proofs.ExtendLaws.{extends_on}
use Rattle.osm_base.proofs.Places.{none_placed, places_next}
use Rattle.osm_base.proofs.coord_text.write_places.Goals as goal

pub loop-left-smaller : goal.loop-left-smaller
loop-left-smaller c =
    let more : length (places_of 7 c.loop-left.left) ≡ suc (length (places_of 7 (c.loop-left.left * 10 % 10000000))) = ap length (places_next c.loop-left.left (omega arith) c.loop-left.invariant.below) in
    omega (arith, more)

pub loop-left-preserved : goal.loop-left-preserved
loop-left-preserved c = record {
  below = omega arith;
  places =
      ap (λ xs. xs ++ places_of 7 (c.loop-left.left * 10 % 10000000)) c.in_ok-push.ensures.items
      ∙ append_assoc c.loop-left.out.items _ _
      ∙ ap (λ xs. c.loop-left.out.items ++ xs) (sym (places_next c.loop-left.left (omega arith) c.loop-left.invariant.below))
      ∙ c.loop-left.invariant.places;
  kept = extends_on c.args.out.now.items c.loop-left.out.items c.push.new.self.items _ c.loop-left.invariant.kept c.in_ok-push.ensures.items;
}

pub returns-clause-written : goal.returns-clause-written
returns-clause-written c = none_placed 7 c.loop-left.left c.loop-left.out.items c.loop-left-test.false ∙ c.loop-left.invariant.places
