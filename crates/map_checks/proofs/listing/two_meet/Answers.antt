use Rattle.std.proofs.Common.{◌≡◌, ◌&&◌, ◌||◌, ◌∙◌, not, arith, w64, to_z, of_z}
use Rattle.std.specs.Ordering.{int_eq}
use Rattle.std.proofs.lemmas.Int.{to_z-of_z}
use Rattle.osm_base.specs.Content.{node}
use Rattle.tool_api.specs.Checks.{is_named}
use Rattle.tool_api.specs.Findings.{are_together}
use Rattle.map_checks.proofs.Rings.{only_doubled}
use Rattle.map_checks.proofs.listing.two_meet.Goals as goal

pub returns : goal.returns
returns c =
    let t = c.args.ds.now in
    let ks = c.args.doubled.now in
    let a : to_z w64 (of_z w64 c.args.a) ≡ c.args.a = grind (arith, to_z-of_z) in
    let b : to_z w64 (of_z w64 c.args.b) ≡ c.args.b = grind (arith, to_z-of_z) in
    c.meet_doubled.ensures
    ∙ (λ i. not (int_eq (a i) (b i)) && ((is_named ks (node (a i)) || is_named ks (node (b i))) && are_together t (node (a i)) (node (b i))))
    ∙ only_doubled t ks c.requires.doubled c.args.a c.args.b
