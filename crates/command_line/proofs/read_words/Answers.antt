use Rattle.std.proofs.Common.{◌≡◌, ◌∙◌, ap, sym, subst, false, arith, if◌then◌else◌, List, [], ◌∷◌, Option, None, Some, map, string_bytes, inl, inr, ◌⊎◌}
use Rattle.std.proofs.lemmas.Bool.Decides.{nat_tests}
use Rattle.clap.specs.Walk.{is_empty}
use Rattle.clap.specs.Words.{App, IsAmong, Kinds, Row, Text, fault_of, is_simple, is_simple_and_free, kind_of, matches_of}
use Rattle.clap.specs.declared.error.kind.ErrorKind.{ErrorKind}
use Rattle.command_line.specs.Words.{CommandLineValue, command_of, editor, line_of}
use Rattle.command_line.proofs.read_words.Goals as goal

-- Words without a fault ask for what was found,
found_asks : (words : List Text) (rows : List Row) → fault_of editor words ≡ [] → rows ≡ matches_of editor words → Some (line_of rows) ≡ command_of words
unfolding command_of
found_asks words rows none is = ap (λ r. Some (line_of r)) is ∙ ap (λ (kinds : Kinds). if is_empty kinds then Some (line_of (matches_of editor words)) else None) (sym none)

-- and those with one ask for nothing.
none_by : (kinds : Kinds) (kind : ErrorKind) (o : Option CommandLineValue) → IsAmong kind kinds → None ≡ (if is_empty kinds then o else None)
none_by [] kind o among = absurd among
none_by (k ∷ kinds) kind o among = let some : is_empty (k ∷ kinds) ≡ false = grind (arith, nat_tests) in sym (ap (λ b. if b then o else None) some)

fault_asks : (words : List Text) (kind : ErrorKind) → IsAmong kind (fault_of editor words) → None ≡ command_of words
unfolding command_of
fault_asks words kind among = none_by (fault_of editor words) kind (Some (line_of (matches_of editor words))) among

other_kind : {A B : Type 0} → A ⊎ B → (A → ⊥) → B
other_kind (inl a) not = absurd (not a)
other_kind (inr b) not = b

pub returns-in-Ok : goal.returns-in-Ok
returns-in-Ok c =
    let words = map string_bytes c.args.words.now in
    let is = c.in_ok-command.ensures in
    let none = subst (λ (a : App). fault_of a words ≡ []) is (c.in-Ok.ensures.kinds (ap is_simple_and_free is)) in
    let rows = (c.in-Ok.ensures.matches (ap is_simple is)).0 ∙ ap (λ (a : App). matches_of a words) is in
    ap Some c.line_of.ensures ∙ found_asks words _ none rows

pub returns-in-OutOfMemory : goal.returns-in-OutOfMemory
returns-in-OutOfMemory c = tt

pub returns : goal.returns
returns c =
    let words = map string_bytes c.args.words.now in
    let is = c.in_ok-command.ensures in
    let among = other_kind (c.in-Err.ensures.kinds (ap is_simple_and_free is)) (λ memory. c.in_default.not-OutOfMemory (c.kind.ensures ∙ memory)) in
    fault_asks words (kind_of c.in-Err.error) (subst (λ (a : App). IsAmong (kind_of c.in-Err.error) (fault_of a words)) is among)
