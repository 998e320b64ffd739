use Rattle.std.proofs.Common.{length, None, ap, ◌∙◌, arith, string_bytes}
use Rattle.std.specs.Option.{option_map}
use Rattle.std.specs.Str.{chars}
use Rattle.std.proofs.lemmas.Iterator.{YieldsList-from_chars}
use Rattle.std.proofs.lemmas.List.{length_push}
use Rattle.std.proofs.lemmas.Iterator.Consumers.{YieldsList-turn, YieldsList-end}
use Rattle.opl_text.proofs.Grammar.{reads_bad, reads_inside, reads_gives, reads_end, done_some, done_none}
use lib.Utf8.{encodes}
use Rattle.opl_text.specs.Escape.{characters_of}
use Rattle.opl_text.proofs.escape.unescape.Goals as goal
use Rattle.opl_text.proofs.escape.unescape.Goals.{then-is_none, else-is_none}

pub returns-in-Bad : goal.returns-in-Bad
returns-in-Bad c =
    let t = YieldsList-turn (YieldsList-from_chars c.args.field.now c.utf8.field cc) c.loop-c.yielded _ c.loop-c.yielded_by _ _ c.in-Some.c c.in-Some.is c.next.ensures.steps in
    reads_bad _ _ c.loop-c.escape _ _ _ t c.in-Bad.ensures.value c.loop-c.invariant.reads

pub loop-c-preserved-in-Inside : goal.loop-c-preserved-in-Inside
loop-c-preserved-in-Inside c =
    let t = YieldsList-turn (YieldsList-from_chars c.args.field.now c.utf8.field cc) c.loop-c.yielded _ c.loop-c.yielded_by _ _ c.in-Some.c c.in-Some.is c.next.ensures.steps in
    record {
      reads = reads_inside _ _ c.loop-c.escape c.in-Inside.so_far _ _ _ _ (length_push c.loop-c.yielded c.in-Some.c) t c.in-Inside.ensures.value c.loop-c.invariant.reads;
      within = c.in-Inside.ensures.within;
    }

pub loop-c-preserved : goal.loop-c-preserved
loop-c-preserved c =
    let t = YieldsList-turn (YieldsList-from_chars c.args.field.now c.utf8.field cc) c.loop-c.yielded _ c.loop-c.yielded_by _ _ c.in-Some.c c.in-Some.is c.next.ensures.steps in
    record {
      reads = reads_gives _ _ _ c.loop-c.escape c.in-Gives.given _ _ _ _ c.in_ok-push-in-Gives.ensures.bytes (length_push c.loop-c.yielded c.in-Some.c) t c.in-Gives.ensures.value c.loop-c.invariant.reads;
      within = tt;
    }

pub returns : goal.returns
returns c =
    let t = YieldsList-end (YieldsList-from_chars c.args.field.now c.utf8.field cc) c.loop-c.yielded _ c.loop-c.yielded_by _ _ c.in-None.is c.next.ensures.steps in
    let text = string_bytes c.loop-c.text in
    let all = option_map encodes (characters_of None (chars c.args.field.now)) in
    let reads = reads_end text (chars c.args.field.now) c.loop-c.escape (length c.loop-c.yielded) all (omega (arith, t.1)) c.loop-c.invariant.reads in
    elim c.if-is_none.branch [
      | then-is_none w ↦ ap (option_map string_bytes) w.result-is ∙ done_some text c.loop-c.escape all w.if-is_none.ensures reads
      | else-is_none w ↦ ap (option_map string_bytes) w.result-is ∙ done_none text c.loop-c.escape all w.if-is_none.ensures reads
    ]
