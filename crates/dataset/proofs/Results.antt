-- What is handed out where a call before it has found memory.
use Rattle.std.proofs.Common.{◌≡◌, Result, Ok, Err, sym, subst}
use Rattle.std.specs.Prelude.{OnOk, IfOk}
use Rattle.std.specs.Result.{result_and}

and_case : {T U E P : Type 0} (Q : U → Type 0) (r : Result T E) (u : U) → (P → Q u) → OnOk r P → IfOk (result_and r (Ok u)) Q
and_case Q (Ok x) u more h = more h
and_case Q (Err e) u more h = tt

pub and_ok : {T U E P : Type 0} (Q : U → Type 0) (r : Result T E) (u : U) (s : Result U E) → s ≡ result_and r (Ok u) → (P → Q u) → OnOk r P → IfOk s Q
and_ok {E = E} Q r u s is more h = subst (λ (t : Result _ E). IfOk t Q) (sym is) (and_case Q r u more h)
