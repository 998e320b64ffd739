use Rattle.std.proofs.Common.{rules, sym, ap, ◌∙◌, [], ◌∷◌, ◌++◌, Result, Ok, Err, OnErr}
use Rattle.std.proofs.lemmas.List.{append-nil}
use Rattle.opl_file.proofs.Batches.{last_filled}
use Rattle.opl_file.proofs.objects.Objects.push.Goals as goal

on_err : {T E P : Type 0} (r : Result T E) → P → OnErr r P
on_err (Ok value) p = tt
on_err (Err e) p = p

pub returns-in_err-push-in-Some-clause-err : goal.returns-in_err-push-in-Some-clause-err
returns-in_err-push-in-Some-clause-err c =
    on_err c.from_residual.result
    (last_filled c.self.inside.batches.items _ c.in-Some.batch.now c.push.new.self [] c.self.inside.batches.ok.0 (search rules) c.in-Some.ensures.value (c.in_err-push-in-Some.ensures.items ∙ sym (append-nil c.in-Some.batch.now.items))
    ∙ append-nil _ ∙ c.self.view_is)

pub returns-in_ok-push-in-Some-clause-ok : goal.returns-in_ok-push-in-Some-clause-ok
returns-in_ok-push-in-Some-clause-ok c =
    last_filled c.self.inside.batches.items _ c.in-Some.batch.now c.push.new.self (c.args.object ∷ []) c.self.inside.batches.ok.0 (search rules) c.in-Some.ensures.value c.in_ok-push-in-Some.ensures.items
    ∙ ap (λ os. os ++ c.args.object ∷ []) c.self.view_is
