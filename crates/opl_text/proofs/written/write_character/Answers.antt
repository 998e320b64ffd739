use Rattle.std.proofs.Common.{◌∙◌, sym, ap, ◌++◌, List, ℕ}
use Rattle.opl_text.proofs.WrittenLaw.{escape_written, raw_written}
use Rattle.opl_text.proofs.written.write_character.Goals as goal

pub returns-in_ok-write_escape-clause-written : goal.returns-in_ok-write_escape-clause-written
returns-in_ok-write_escape-clause-written c =
    c.in_ok-write_escape.ensures.written ∙ ap (λ (bytes : List ℕ). c.args.out.now.items ++ bytes) (sym (escape_written c.args.c (sym c.is_escaped.ensures ∙ c.if-is_escaped.true)))

pub returns-in_ok-extend_from_slice-clause-written : goal.returns-in_ok-extend_from_slice-clause-written
returns-in_ok-extend_from_slice-clause-written c =
    c.in_ok-extend_from_slice.ensures.items
    ∙ ap (λ (bytes : List ℕ). c.args.out.now.items ++ bytes) (c.as_bytes.ensures.value ∙ c.encode_utf8.ensures.value ∙ sym (raw_written c.args.c (sym c.is_escaped.ensures ∙ c.if-is_escaped.false)))
