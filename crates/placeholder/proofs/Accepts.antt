-- A server's answers are taken, and make the confirmed table.
use Rattle.std.proofs.Common.{◌≡◌, ℕ, ◌+◌, ◌==◌, ◌≤◌, ℤ, pos, negsuc, nat_lt, nat_le, Bool, true, false, cond, is_some, List, [], ◌∷◌, ◌++◌, Option, Result, Ok, Err, refl, ◌∙◌, ap, arith}
use Rattle.std.proofs.lemmas.Bool.{lt-ltb, le-leb, and_from}
use Rattle.osm_base.specs.Rank.{is_key}
use Rattle.osm_base.proofs.RisingKeys.{key_itself}
use Rattle.osm_table.specs.declared.entry.Entry.{Entry}
use Rattle.osm_table.specs.Table.{TableValue, IsPositive}
use Rattle.upload_order.specs.declared.change.Change.{Change}
use Rattle.upload_order.specs.declared.change.Change.TheVariants.{Create, Modify, Delete}
use Rattle.upload_order.specs.Rename.{Names, called}
use Rattle.upload_order.specs.Run.{pick_for, picks_left}
use Rattle.upload_order.proofs.Ups.{nat_self}
use Rattle.placeholder.specs.declared.fault.ConfirmFault.{ConfirmFault}
use Rattle.placeholder.specs.declared.fault.ConfirmFault.TheVariants.{WrongAnswer, IdTaken}
use Rattle.placeholder.specs.Answers.{IsWithin, AreWithin, IsNewTo, AreNew, AreNewFrom}
use Rattle.placeholder.specs.Confirm.{is_given, is_next, is_answer, is_taken, id_told, key_given, and_then, confirms, confirms_from, answer_of, answers_of}
use Rattle.placeholder.specs.Confirmed.{moved_change, named_by, confirmed, confirmed_from, confirmed_all}

given_back : (id : ℤ) → IsPositive id → is_given id ≡ true
given_back (pos n) h = and_from (nat_lt 0 n) (nat_le n 1000000000000000000) (lt-ltb 0 n (omega (arith, h.0))) (le-leb n 1000000000000000000 h.1)
given_back (negsuc n) h = absurd h

next_back : (v : ℕ) → v + 1 ≤ 2000000000 → is_next v (v + 1) ≡ true
next_back v h = and_from (nat_lt v 2000000000) (v + 1 == v + 1) (lt-ltb v 2000000000 (omega (arith, h))) (nat_self (v + 1))

is_one : (c : Change) (ps : List ℤ) → IsWithin c (pick_for c ps) → is_answer c (answer_of c (pick_for c ps)) ≡ true
is_one (Create k c) ps h = and_from (is_key k k) (is_given (pick_for (Create k c) ps)) (key_itself k) (given_back (pick_for (Create k c) ps) h)
is_one (Modify k v c) ps h = and_from (is_key k k) (is_next v (v + 1)) (key_itself k) (next_back v h)
is_one (Delete k v) ps h = and_from (is_key k k) (is_next v (v + 1)) (key_itself k) (next_back v h)

not_taken : (u : TableValue) (c : Change) (ps : List ℤ) → IsNewTo u c (pick_for c ps) → is_taken u (answer_of c (pick_for c ps)) ≡ false
not_taken u (Create k c) ps h = ap (λ (o : Option Entry). is_some o) h
not_taken u (Modify k v c) ps h = refl
not_taken u (Delete k v) ps h = refl

told_is : (c : Change) (ps : List ℤ) → id_told (answer_of c (pick_for c ps)) ≡ pick_for c ps
told_is (Create k c) ps = refl
told_is (Modify k v c) ps = refl
told_is (Delete k v) ps = refl

step_is : (b d : Bool) (x y : ConfirmFault) (v : TableValue) (G : TableValue → Result TableValue ConfirmFault) → b ≡ true → d ≡ false → and_then (cond b (cond d (Err x) (Ok v)) (Err y)) G ≡ G v
step_is true true x y v G e f = cc
step_is true false x y v G e f = refl
step_is false d x y v G e f = cc

accepts_from : (cs ds : List Change) (n : ℕ) (ns : Names) (u : TableValue) (ps : List ℤ) → AreNewFrom ns u cs ps → AreWithin cs ps → confirms_from n ns u (cs ++ ds) (answers_of cs ps) ≡ Ok (confirmed_from ns u cs ps)
accepts_from [] ds n ns u ps new within = refl
accepts_from (c ∷ cs) ds n ns u ps new within =
    let a = answer_of c (pick_for c ps) in
    let go : ℤ → Result TableValue ConfirmFault = λ p. confirms_from (n + 1) (named_by c p ns) (confirmed u (moved_change (called ns) c) p) (cs ++ ds) (answers_of cs (picks_left c ps)) in
    step_is (is_answer c a) (is_taken u a) (IdTaken (key_given a)) (WrongAnswer n) (confirmed u (moved_change (called ns) c) (id_told a))
    (λ v. confirms_from (n + 1) (named_by c (id_told a) ns) v (cs ++ ds) (answers_of cs (picks_left c ps))) (is_one c ps within.0) (not_taken u c ps new.0)
    ∙ ap go (told_is c ps)
    ∙ accepts_from cs ds (n + 1) (named_by c (pick_for c ps) ns) (confirmed u (moved_change (called ns) c) (pick_for c ps)) (picks_left c ps) new.1 within.1

pub accepts_answers : (t : TableValue) (cs ds : List Change) (ps : List ℤ) → AreNew t cs ps → AreWithin cs ps → confirms t (cs ++ ds) (answers_of cs ps) ≡ Ok (confirmed_all t cs ps)
accepts_answers t cs ds ps new within = accepts_from cs ds 1 [] t ps new within
