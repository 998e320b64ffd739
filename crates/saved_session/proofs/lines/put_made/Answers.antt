use Rattle.std.proofs.Common.{Result, Ok, Err, refl}
use Rattle.std.specs.Prelude.{OnOk, IfOk}
use Rattle.std.specs.Result.{result_and}
use Rattle.saved_session.proofs.lines.put_made.Goals as goal

and_ok : {T U E P : Type 0} (Q : U → Type 0) (r : Result T E) (u : U) → (P → Q u) → OnOk r P → IfOk (result_and r (Ok u)) Q
and_ok Q (Ok x) u more h = more h
and_ok Q (Err e) u more h = tt

pub returns : goal.returns
returns c = record {
  place = rw c.and.ensures (and_ok _ c.push_made.result c.args.made.place (λ _. refl) c.push_made.ensures);
  entries = rw c.and.ensures (and_ok _ c.push_made.result c.args.made.place (λ pushed. pushed) c.push_made.ensures);
}
