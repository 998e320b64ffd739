use Rattle.std.proofs.Common.{◌<◌, false, List, length, ap, ◌∙◌, arith}
use Rattle.std.specs.HashSet.{contains}
use Rattle.std.specs.List.{fold, list_any}
use Rattle.std.proofs.lemmas.List.{map-append}
use Rattle.osm_base.specs.KeyEq.{eq}
use Rattle.osm_base.specs.declared.key.Key.{Key}
use Rattle.opl_line.specs.declared.object.OplObject.{OplObject}
use Rattle.opl_file.specs.Known.{finds}
use Rattle.opl_file.specs.Objects.{keys_of, objects_in}
use Rattle.opl_file.proofs.Batches.{next_batch}
use Rattle.opl_file.proofs.Finding.{with_all}
use Rattle.opl_file.proofs.known.hashed.Goals as goal

pub loop-batch-init : goal.loop-batch-init
loop-batch-init c k =
    ap (λ (ks : List Key). fold (finds k) (list_any (eq k) ks) (keys_of (objects_in c.batches-batch-items.result.now))) c.new-keys.ensures.empty
    ∙ with_all k false (keys_of (objects_in c.batches-batch-items.result.now))
    ∙ ap (λ (os : List OplObject). list_any (eq k) (keys_of os)) c.batches-batch-items.ensures

pub loop-batch-preserved : goal.loop-batch-preserved
loop-batch-preserved c k =
    let within : c.loop-batch.batch-index < length c.batches-batch-items.result.now = omega arith in
    next_batch (finds k) keys_of (map-append (λ (object : OplObject). object.key)) c.batches-batch-items.result.now c.loop-batch.batch-index c.batch-item.result (contains eq c.loop-batch.keys k) (contains eq c.hash_all.new.keys k) within c.batch-item.is
    (c.in_ok-hash_all.ensures k ∙ ap (λ (os : List OplObject). fold (finds k) (contains eq c.loop-batch.keys k) (keys_of os)) c.deref.ensures.value)
    ∙ c.loop-batch.invariant k
