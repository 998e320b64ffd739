use Rattle.std.proofs.Common.{◌≡◌, ◌+◌, ◌<◌, ◌∙◌, ◌++◌, ◌∷◌, List, drop, length, sym, ap, arith}
use Rattle.std.proofs.lemmas.List.{append_assoc, drop_more}
use Rattle.osm_base.specs.declared.key.Key.{Key}
use Rattle.opl_line.specs.declared.object.OplObject.{OplObject}
use Rattle.opl_file.specs.Objects.{objects_in}
use Rattle.opl_file.proofs.Batches.{Batch}
use Rattle.download.specs.Tell.{references}
use Rattle.download.specs.TellCode.{keys_in}
use Rattle.download.proofs.Batches.{all_refs_join}
use Rattle.download.proofs.telling.references.Goals as goal

pub loop-batch-preserved : goal.loop-batch-preserved
loop-batch-preserved c =
    let within : c.loop-batch.batch-index < length c.args.batches.now = omega arith in
    let batch : Batch = c.batch-item.result in
    let rest : List Batch = drop (c.loop-batch.batch-index + 1) c.args.batches.now in
    let before : List Key = keys_in c.loop-batch.lists.items in
    let left : drop c.loop-batch.batch-index c.args.batches.now ≡ batch ∷ rest = drop_more c.args.batches.now c.loop-batch.batch-index batch within ∙ ap (λ (b : Batch). b ∷ rest) (sym c.batch-item.is) in
    ap (λ ks. ks ++ references (objects_in rest)) (c.in_ok-push_sides.ensures ∙ ap (λ (os : List OplObject). before ++ references os) c.deref.ensures.value)
    ∙ append_assoc before (references batch.items) (references (objects_in rest))
    ∙ ap (λ ks. before ++ ks) (sym (all_refs_join batch.items (objects_in rest)))
    ∙ ap (λ (bs : List Batch). before ++ references (objects_in bs)) (sym left)
    ∙ c.loop-batch.invariant
