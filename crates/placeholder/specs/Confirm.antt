-- What becomes of a table with answers, or why they are not taken.
use Rattle.std.specs.Prelude.{◌≡◌, ◌≤◌, ◌+◌, ◌==◌, ◌&&◌, ℕ, ℤ, pos, negsuc, Bool, false, is_some, if◌then◌else◌, nat_lt, nat_le, Option, Some, None, Result, Ok, Err, List, [], ◌∷◌}
use Rattle.osm_base.specs.Rank.{is_key}
use Rattle.osm_base.specs.declared.key.Key.{Key}
use Rattle.osm_table.specs.Table.{TableValue, entry_of}
use Rattle.upload_order.specs.declared.change.Change.{Change}
use Rattle.upload_order.specs.declared.change.Change.TheVariants.{Create, Modify, Delete}
use Rattle.upload_order.specs.Rename.{Names, called, with_id}
use Rattle.upload_order.specs.Run.{pick_for, picks_left}
use Rattle.placeholder.specs.declared.answer.Answer.{Answer}
use Rattle.placeholder.specs.declared.answer.Answer.TheVariants as answer
use Rattle.placeholder.specs.declared.fault.ConfirmFault.{ConfirmFault}
use Rattle.placeholder.specs.declared.fault.ConfirmFault.TheVariants.{Plan, WrongAnswer, IdTaken, Memory}
use Rattle.dataset.specs.Diff.{diff}
use Rattle.dataset.specs.Draft.{DraftValue, drafted}
use Rattle.dataset.specs.Patch.{PatchValue}
use Rattle.upload_order.specs.declared.refusal.PlanRefusal.{PlanRefusal}
use Rattle.upload_order.specs.Refused.{upload}
use Rattle.placeholder.specs.Confirmed.{confirmed, moved_change, named_by}

-- 1 to 10^18
abbrev pub is_given : ℤ → Bool
is_given (pos n) = nat_lt 0 n && nat_le n 1000000000000000000
is_given (negsuc n) = false

-- one more, and at most 2,000,000,000
abbrev pub is_next : ℕ → ℕ → Bool
is_next version after = nat_lt version 2000000000 && after == version + 1

-- an answer that a server may give to the change
abbrev pub is_answer : Change → Answer → Bool
is_answer (Create k c) (answer.Create placeholder id) = is_key k placeholder && is_given id
is_answer (Modify k version c) (answer.Modify key after) = is_key k key && is_next version after
is_answer (Delete k version) (answer.Delete key after) = is_key k key && is_next version after
is_answer c a = false

-- the id that it tells
abbrev pub id_told : Answer → ℤ
id_told (answer.Create placeholder id) = id
id_told a = pos 0

-- something stands under the id that an object got
abbrev pub is_taken : TableValue → Answer → Bool
is_taken u (answer.Create placeholder id) = is_some (entry_of u (with_id placeholder id))
is_taken u a = false

-- the key that it gives
abbrev pub key_given : Answer → Key
key_given (answer.Create placeholder id) = with_id placeholder id
key_given (answer.Modify key version) = key
key_given (answer.Delete key version) = key

-- The table u is v after the answer with the number, or the answer is not taken.
abbrev pub taken_by : ℕ → TableValue → Change → Answer → TableValue → Result TableValue ConfirmFault
taken_by n u c a v = if is_answer c a then (if is_taken u a then Err (IdTaken (key_given a)) else Ok v) else Err (WrongAnswer n)

-- there may be no such change
abbrev pub taken_at : ℕ → TableValue → Option Change → Answer → TableValue → Result TableValue ConfirmFault
taken_at n u None a v = Err (WrongAnswer n)
taken_at n u (Some c) a v = taken_by n u c a v

abbrev pub and_then : Result TableValue ConfirmFault → (TableValue → Result TableValue ConfirmFault) → Result TableValue ConfirmFault
and_then (Ok v) next = next v
and_then (Err e) next = Err e

abbrev pub first_change : List Change → Option Change
first_change [] = None
first_change (c ∷ cs) = Some c

abbrev pub other_changes : List Change → List Change
other_changes [] = []
other_changes (c ∷ cs) = cs

-- one answer after the other, each change with the ids of earlier ones in its references; they are numbered from n
abbrev pub confirms_from : ℕ → Names → TableValue → List Change → List Answer → Result TableValue ConfirmFault
confirms_from n names u cs [] = Ok u
confirms_from n names u [] (a ∷ more) = Err (WrongAnswer n)
confirms_from n names u (c ∷ cs) (a ∷ more) =
    and_then (taken_by n u c a (confirmed u (moved_change (called names) c) (id_told a))) (λ v. confirms_from (n + 1) (named_by c (id_told a) names) v cs more)

-- The confirmed table, or why the answers are not taken.
abbrev pub confirms : TableValue → List Change → List Answer → Result TableValue ConfirmFault
confirms t cs answers = confirms_from 1 [] t cs answers

-- a server's answer to a change
abbrev pub answer_of : Change → ℤ → Answer
answer_of (Create k c) id = answer.Create k id
answer_of (Modify k version c) id = answer.Modify k (version + 1)
answer_of (Delete k version) id = answer.Delete k (version + 1)

-- A server's answers to changes, with the ids that objects got that were made.
abbrev pub answers_of : List Change → List ℤ → List Answer
answers_of [] ids = []
answers_of (c ∷ cs) ids = answer_of c (pick_for c ids) ∷ answers_of cs (picks_left c ids)

-- what is drafted, where memory is found
abbrev pub Drafts : TableValue → Result DraftValue ConfirmFault → Result TableValue ConfirmFault → Type 0
Drafts t (Ok d) answer = answer ≡ Ok (drafted d t)
Drafts t (Err Memory) answer = Unit {0}
Drafts t (Err fault) answer = answer ≡ Err fault

abbrev pub patch_to : TableValue → Result TableValue ConfirmFault → Result PatchValue ConfirmFault
patch_to t (Ok u) = Ok (diff t u)
patch_to t (Err fault) = Err fault

abbrev pub on_upload : TableValue → List Answer → Result (List Change) PlanRefusal → Result PatchValue ConfirmFault
on_upload t answers (Ok changes) = patch_to t (confirms t changes answers)
on_upload t answers (Err refusal) = Err (Plan refusal)

-- The difference to the confirmed table, or why there is none.
abbrev pub confirm : TableValue → List Answer → Result PatchValue ConfirmFault
confirm t answers = on_upload t answers (upload t)

-- what is answered, where memory is found
abbrev pub Confirms : Result PatchValue ConfirmFault → Result PatchValue ConfirmFault → Type 0
Confirms (Ok patch) answer = answer ≡ Ok patch
Confirms (Err Memory) answer = Unit {0}
Confirms (Err fault) answer = answer ≡ Err fault

-- the number of a wrong answer is one of the answers
abbrev pub IsNumbered : ℕ → ConfirmFault → Type 0
IsNumbered answers (WrongAnswer number) = (1 ≤ number) × (number ≤ answers)
IsNumbered answers (Plan refusal) = Unit {0}
IsNumbered answers (IdTaken key) = Unit {0}
IsNumbered answers Memory = Unit {0}
