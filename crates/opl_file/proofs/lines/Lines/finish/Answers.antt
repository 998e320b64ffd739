use Rattle.std.proofs.Common.{◌≡◌, ◌<◌, ◌+◌, ℕ, List, [], length, Ok, None, refl, sym, ap, ◌∙◌, subst, arith}
use Rattle.std.proofs.lemmas.Bool.Decides.{nat_tests}
use Rattle.opl_file.specs.Answers.{Refuses}
use Rattle.opl_file.specs.Reading.{taken}
use Rattle.opl_file.specs.declared.lines.Lines.{Lines}
use Rattle.opl_file.specs.Feeding.{lines_read_on}
use Rattle.opl_file.proofs.Steps.{ends-ended, ends-unfinished}
use Rattle.opl_file.proofs.lines.Lines.finish.Goals as goal

pub returns-in-Some : goal.returns-in-Some
unfolding lines_read_on
returns-in-Some c = rw c.in-Some.is refl

pub returns-then-is_empty : goal.returns-then-is_empty
unfolding lines_read_on
returns-then-is_empty c =
    let self = c.args.self in
    let none : length self.unfinished.items ≡ 0 = grind (arith, nat_tests, c.if-is_empty.ensures, self.unfinished.ok.0) in
    ends-ended self.mode self.fault self.count self.objects self.unfinished.items c.in_default.is none ∙ ap Ok (sym c.into_objects.ensures)

-- the unfinished line is the last one
last : (self : Lines) (line : List ℕ) → line ≡ self.unfinished.items → self.fault ≡ None → 0 < length self.unfinished.items → lines_read_on self [] ≡ taken self.mode (self.count + 1) self.objects line
unfolding lines_read_on
last self line same good some = ends-unfinished self.mode self.fault self.count self.objects self.unfinished.items good self.unbroken some ∙ ap (taken self.mode (self.count + 1) self.objects) (sym same)

pub returns-in-Ok : goal.returns-in-Ok
returns-in-Ok c =
    let self = c.args.self in
    let some : 0 < length self.unfinished.items = grind (arith, nat_tests, c.if-is_empty.ensures, self.unfinished.ok.0) in
    last self _ c.deref.ensures.value c.in_default.is some ∙ c.in-Ok.ensures.taken ∙ ap Ok (sym c.into_objects-in-Ok.ensures)

pub returns : goal.returns
returns c =
    let self = c.args.self in
    let some : 0 < length self.unfinished.items = grind (arith, nat_tests, c.if-is_empty.ensures, self.unfinished.ok.0) in
    subst (λ read. Refuses read c.in-Err.answer) (sym (last self _ c.deref.ensures.value c.in_default.is some)) c.in-Err.ensures.taken
