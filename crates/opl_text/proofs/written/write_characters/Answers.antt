use Rattle.std.proofs.Common.{◌∙◌, ◌++◌, ap, arith, length, take, List, ℕ}
use Rattle.std.specs.Str.{chars}
use Rattle.std.proofs.lemmas.Iterator.{YieldsList-from_chars}
use Rattle.std.proofs.lemmas.Iterator.Consumers.{YieldsList-turn, YieldsList-end}
use Rattle.std.proofs.lemmas.List.{length_push, take_all}
use Rattle.opl_text.specs.Text.{escaped}
use Rattle.opl_text.proofs.WrittenLaw.{written_of, writes_more, failed_after}
use Rattle.opl_text.proofs.written.write_characters.Goals as goal

pub loop-c-preserved : goal.loop-c-preserved
loop-c-preserved c =
    let t = YieldsList-turn (YieldsList-from_chars c.args.text.now c.utf8.text cc) c.loop-c.yielded _ c.loop-c.yielded_by _ _ c.in-Some.c c.in-Some.is c.next.ensures.steps in
    writes_more _ _ _ _ _ _ _ c.in_ok-write_character.ensures.written (length_push c.loop-c.yielded c.in-Some.c) t c.loop-c.invariant

pub returns-clause-written : goal.returns-clause-written
unfolding escaped
returns-clause-written c =
    let t = YieldsList-end (YieldsList-from_chars c.args.text.now c.utf8.text cc) c.loop-c.yielded _ c.loop-c.yielded_by _ _ c.in-None.is c.next.ensures.steps in
    c.loop-c.invariant ∙ ap (λ (cs : List ℕ). c.args.out.now.items ++ written_of cs) (take_all (length c.loop-c.yielded) (chars c.args.text.now) (omega (arith, t.1)))

pub returns-in_err-write_character-clause-kept : goal.returns-in_err-write_character-clause-kept
returns-in_err-write_character-clause-kept c =
    failed_after c.from_residual.result c.args.out.now.items _ (written_of (take (length c.loop-c.yielded) (chars c.args.text.now))) (c.in_err-write_character.ensures.kept ∙ c.loop-c.invariant)
