use Rattle.std.proofs.Common.{◌+◌, ◌<◌, ◌∷◌, List, length, drop, sym, ap, ◌∙◌, arith}
use Rattle.std.specs.HashSet.{contains}
use Rattle.std.specs.List.{fold}
use Rattle.std.proofs.lemmas.List.{drop_more}
use Rattle.osm_base.specs.KeyEq.{eq}
use Rattle.opl_line.specs.declared.object.OplObject.{OplObject}
use Rattle.opl_file.specs.Known.{finds}
use Rattle.opl_file.specs.Objects.{keys_of}
use Rattle.opl_file.proofs.Finding.{one_more}
use Rattle.opl_file.proofs.known.hash_all.Goals as goal

pub loop-object-preserved : goal.loop-object-preserved
loop-object-preserved c k =
    let within : c.loop-object.object-index < length c.args.objects.now = omega arith in
    let rest = drop (c.loop-object.object-index + 1) c.args.objects.now in
    ap (λ b. fold (finds k) b (keys_of rest)) (c.in_ok-insert.ensures.updates.0 k ∙ one_more (contains eq c.loop-object.keys k) c.object-item.result.key k)
    ∙ sym (ap (λ (os : List OplObject). fold (finds k) (contains eq c.loop-object.keys k) (keys_of os)) (drop_more c.args.objects.now c.loop-object.object-index c.object-item.result within ∙ ap (λ (o : OplObject). o ∷ rest) (sym c.object-item.is)))
    ∙ c.loop-object.invariant k
