use Rattle.std.proofs.Common.{◌≡◌, ◌∙◌, ◌+◌, ◌∷◌, [], ◌++◌, List, drop, length, refl, sym, ap, subst, arith}
use Rattle.std.proofs.lemmas.Iterator.Consumers.{YieldsList-turn}
use Rattle.std.proofs.lemmas.Iterator.Adapters.{YieldsList-from_vec}
use Rattle.std.proofs.lemmas.List.{drop_more, length_push}
use Rattle.opl_line.specs.declared.object.OplObject.{OplObject}
use Rattle.opl_file.specs.Objects.{objects_in}
use Rattle.opl_file.proofs.Batches.{Batch, next_batch}
use Rattle.osm_table.specs.Told.{ToldValue, with_told}
use Rattle.download.specs.Tell.{all_told, told_of_object, AreTellable}
use Rattle.download.proofs.Batches.{first_tellable, rest_tellable}
use Rattle.download.proofs.telling.tell_all.Goals as goal

pub tell_batch-requires : goal.tell_batch-requires
tell_batch-requires c =
    let gives = c.into_iter-batch-iterator.ensures.into_iter_gives in
    let t = YieldsList-turn (YieldsList-from_vec {s = c.into_iter-batch-iterator.result} c.args.batches.items gives.0 (omega (arith, gives.1))) c.loop-batch.yielded c.loop-batch.batch-iterator c.loop-batch.yielded_by c.next.result c.next.new.self c.in-Some.batch c.in-Some.is c.next.ensures.steps in
    let rest : List Batch = drop (length c.loop-batch.yielded + 1) c.args.batches.items in
    let left : drop (length c.loop-batch.yielded) c.args.batches.items ≡ c.in-Some.batch ∷ rest = drop_more c.args.batches.items (length c.loop-batch.yielded) c.in-Some.batch t.0 ∙ ap (λ (b : Batch). b ∷ rest) (sym t.1) in
    first_tellable c.in-Some.batch.items (objects_in rest) (subst (λ (bs : List Batch). AreTellable (objects_in bs)) left c.loop-batch.invariant.tellable)

pub loop-batch-preserved : goal.loop-batch-preserved
loop-batch-preserved c =
    let gives = c.into_iter-batch-iterator.ensures.into_iter_gives in
    let t = YieldsList-turn (YieldsList-from_vec {s = c.into_iter-batch-iterator.result} c.args.batches.items gives.0 (omega (arith, gives.1))) c.loop-batch.yielded c.loop-batch.batch-iterator c.loop-batch.yielded_by c.next.result c.next.new.self c.in-Some.batch c.in-Some.is c.next.ensures.steps in
    let rest : List Batch = drop (length c.loop-batch.yielded + 1) c.args.batches.items in
    let left : drop (length c.loop-batch.yielded) c.args.batches.items ≡ c.in-Some.batch ∷ rest = drop_more c.args.batches.items (length c.loop-batch.yielded) c.in-Some.batch t.0 ∙ ap (λ (b : Batch). b ∷ rest) (sym t.1) in
    let on : drop (length (c.loop-batch.yielded ++ c.in-Some.batch ∷ [])) c.args.batches.items ≡ rest = ap (λ n. drop n c.args.batches.items) (length_push c.loop-batch.yielded c.in-Some.batch) in
    record {
      tellable = subst (λ (bs : List Batch). AreTellable (objects_in bs)) (sym on) (rest_tellable c.in-Some.batch.items (objects_in rest) (subst (λ (bs : List Batch). AreTellable (objects_in bs)) left c.loop-batch.invariant.tellable));
      left = ap (λ (bs : List Batch). all_told c.tell_batch.new.told (objects_in bs)) on
          ∙ next_batch (λ (so_far : ToldValue) (o : OplObject). with_told so_far o.key (told_of_object o)) (λ os. os) (λ xs ys. refl) c.args.batches.items (length c.loop-batch.yielded) c.in-Some.batch c.loop-batch.told c.tell_batch.new.told t.0 t.1 c.in_ok-tell_batch.ensures
          ∙ c.loop-batch.invariant.left;
    }
