use Rattle.std.proofs.Common.{◌<◌, ◌≤◌, List, [], length, refl, sym, arith, subst}
use Rattle.std.specs.HashMap.{get}
use Rattle.std.specs.Map.{lookup}
use Rattle.std.proofs.lemmas.List.{take_all}
use Rattle.osm_base.specs.KeyEq.{eq}
use Rattle.osm_base.specs.declared.key.Key.{Key}
use Rattle.osm_table.specs.InOrder.{IsPlace}
use Rattle.osm_table.proofs.OrderLaws.{rises_distinct}
use Rattle.osm_table.proofs.PlaceLaws.{place_more}
use Rattle.osm_table.proofs.places.hashed.Goals as goal

pub loop-i-init : goal.loop-i-init
loop-i-init c k = subst (λ (es : List (Key × _)). IsPlace [] k (lookup (eq k) es)) (sym c.in_ok-places.ensures.empty) refl

pub loop-i-preserved : goal.loop-i-preserved
loop-i-preserved c k =
    let within : c.loop-i.i < length c.args.keys.now = grind (arith, c.loop-i-test.true) in
    place_more c.args.keys.now c.loop-i.i _ k (get eq c.loop-i.places k) (get eq c.insert.new.self k) within (c.in_ok-insert.ensures.updates.0 k) (c.loop-i.invariant k)

pub returns : goal.returns
returns c =
    let all : length c.args.keys.now ≤ c.loop-i.i = grind (arith, c.loop-i-test.false) in (
      rises_distinct c.args.keys.now c.requires,
      λ k. subst (λ (ks : List Key). IsPlace ks k (get eq c.loop-i.places k)) (take_all c.loop-i.i c.args.keys.now all) (c.loop-i.invariant k),
    )
