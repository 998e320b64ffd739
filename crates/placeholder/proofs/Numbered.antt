-- The number of a wrong answer is one of the answers.
use Rattle.std.proofs.Common.{ℕ, suc, ◌+◌, ◌≤◌, ◌<◌, Bool, true, false, cond, List, [], ◌∷◌, length, Result, Ok, Err, subst, arith}
use Rattle.std.specs.Result.{IfErr}
use Rattle.osm_base.specs.declared.key.Key.{Key}
use Rattle.osm_table.specs.Table.{TableValue}
use Rattle.dataset.specs.Draft.{DraftValue}
use Rattle.upload_order.specs.declared.change.Change.{Change}
use Rattle.upload_order.specs.Rename.{Names, called}
use Rattle.placeholder.specs.declared.answer.Answer.{Answer}
use Rattle.placeholder.specs.declared.fault.ConfirmFault.{ConfirmFault}
use Rattle.placeholder.specs.declared.fault.ConfirmFault.TheVariants.{Plan, WrongAnswer, IdTaken, Memory}
use Rattle.placeholder.specs.Confirm.{Drafts, IsNumbered, and_then, confirms_from, id_told, is_answer, is_taken, key_given}
use Rattle.placeholder.specs.Confirmed.{confirmed, moved_change, named_by}

-- it is one of so many numbers from n on
abbrev pub IsFrom : ℕ → ℕ → ConfirmFault → Type 0
IsFrom n count (WrongAnswer number) = (n ≤ number) × (number < n + count)
IsFrom n count (Plan refusal) = Unit {0}
IsFrom n count (IdTaken key) = Unit {0}
IsFrom n count Memory = Unit {0}

from_next : (n count : ℕ) (f : ConfirmFault) → IsFrom (n + 1) count f → IsFrom n (suc count) f
from_next n count (WrongAnswer number) h = (omega arith, omega arith)
from_next n count (Plan refusal) h = tt
from_next n count (IdTaken key) h = tt
from_next n count Memory h = tt

later : (n count : ℕ) (r : Result TableValue ConfirmFault) → IfErr r (IsFrom (n + 1) count) → IfErr r (IsFrom n (suc count))
later n count (Ok v) h = tt
later n count (Err f) h = from_next n count f h

step : (b d : Bool) (k : Key) (n count : ℕ) (v : TableValue) (G : TableValue → Result TableValue ConfirmFault) → IfErr (G v) (IsFrom (n + 1) count)
    → IfErr (and_then (cond b (cond d (Err (IdTaken k)) (Ok v)) (Err (WrongAnswer n))) G) (IsFrom n (suc count))
step true true k n count v G h = tt
step true false k n count v G h = later n count (G v) h
step false d k n count v G h = (omega arith, omega arith)

pub confirms_numbered : (answers : List Answer) (cs : List Change) (n : ℕ) (ns : Names) (u : TableValue) → IfErr (confirms_from n ns u cs answers) (IsFrom n (length answers))
confirms_numbered [] cs n ns u = tt
confirms_numbered (a ∷ more) [] n ns u = (omega arith, omega arith)
confirms_numbered (a ∷ more) (c ∷ cs) n ns u =
    let w = confirmed u (moved_change (called ns) c) (id_told a) in
    step (is_answer c a) (is_taken u a) (key_given a) n (length more) w (λ v. confirms_from (n + 1) (named_by c (id_told a) ns) v cs more)
    (confirms_numbered more cs (n + 1) (named_by c (id_told a) ns) w)

-- so is it of what is drafted
pub drafts_numbered : (t : TableValue) (r : Result DraftValue ConfirmFault) (x : Result TableValue ConfirmFault) (count : ℕ) → Drafts t r x → IfErr x (IsFrom 1 count) → IfErr r (IsNumbered count)
drafts_numbered t (Ok d) x count h from = tt
drafts_numbered t (Err (WrongAnswer number)) x count h from = let y = subst (λ z. IfErr z (IsFrom 1 count)) h from in (y.0, omega arith)
drafts_numbered t (Err (Plan refusal)) x count h from = tt
drafts_numbered t (Err (IdTaken key)) x count h from = tt
drafts_numbered t (Err Memory) x count h from = tt
