use Rattle.std.proofs.Common.{◌≡◌, ◌∙◌, ◌++◌, ◌∷◌, [], Some, cond, ap, sym, w64, to_z, of_z}
use Rattle.std.specs.Prelude.{reverse}
use Rattle.std.proofs.lemmas.Int.{to_z-of_z}
use Rattle.std.specs.Map.{lookup}
use Rattle.osm_base.specs.KeyEq.{eq}
use Rattle.upload_order.specs.Rename.{Names, named}
use Rattle.server_world.proofs.Naming.{one_named}
use Rattle.server_world.proofs.names.put_named.Goals as goal

pub invariant_of-names-in_err-put : goal.invariant_of-names-in_err-put
invariant_of-names-in_err-put c = λ q. c.in_ok-reserve-2.ensures.entries.2 q ∙ c.names.invariant q ∙ ap (λ (given : Names). named (reverse given) q) (sym c.in_ok-reserve.ensures.items)

pub invariant_of-names-2 : goal.invariant_of-names-2
invariant_of-names-2 c =
    let same : to_z w64 (of_z w64 c.args.id) ≡ c.args.id = to_z-of_z w64 c.args.id c.ranges.id in
    one_named c.names.inside.given.items c.push_name.new.given.items c.names.inside.ids.entries c.push_name.new.ids.entries c.args.key c.args.id c.names.invariant
    (c.push_name.ensures.given ∙ (λ i. c.in_ok-reserve.ensures.items i ++ (c.args.key, same i) ∷ []))
    (λ q. c.push_name.ensures.ids.0 q ∙ (λ i. cond (eq c.args.key q) (Some (same i)) (c.in_ok-reserve-2.ensures.entries.2 q i)))
