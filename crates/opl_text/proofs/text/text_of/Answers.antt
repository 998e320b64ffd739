use Rattle.std.proofs.Common.{◌∙◌, sym, ap, subst, string_bytes, Some}
use Rattle.std.specs.Option.{option_map}
use Rattle.std.specs.Str.{IsUtf8}
use Rattle.std.proofs.lemmas.Str.{IsUtf8-string_bytes}
use Rattle.opl_text.proofs.Read.{no_text, raw_text, given_text, given_read}
use Rattle.opl_text.specs.Text.{unescaped}
use Rattle.opl_text.proofs.text.text_of.Goals as goal

pub returns-then-all_raw : goal.returns-then-all_raw
returns-then-all_raw c =
    let field = c.args.field.now in
    given_text _ field (unescaped field) (raw_text field (sym c.all_raw.ensures ∙ c.if-all_raw.true)) (no_text field) c.from_bytes.ensures.value c.from_bytes.ensures.utf8 c.from_bytes.ensures.fault

pub returns-in_default : goal.returns-in_default
returns-in_default c = no_text c.args.field.now c.in_default.ensures.cases.0

pub returns-in-Some : goal.returns-in-Some
returns-in-Some c =
    let field = c.args.field.now in
    let bytes = c.as_bytes.result.now in
    let text = c.as_bytes.ensures.value in
    let read = given_read field _ _ c.in-Ok.ensures.cases.1 c.in-Ok.ensures.cases.0 c.in_ok-text.ensures ∙ ap (option_map string_bytes) c.in-Some.is ∙ ap Some (sym text) in
    given_text _ bytes (unescaped field) (λ _. read) (λ no. absurd (no (subst IsUtf8 (sym text) (IsUtf8-string_bytes c.in-Some.text)))) c.from_bytes-in-Some.ensures.value c.from_bytes-in-Some.ensures.utf8 c.from_bytes-in-Some.ensures.fault

pub returns-in-None : goal.returns-in-None
returns-in-None c =
    given_read c.args.field.now _ _ c.in-Ok.ensures.cases.1 c.in-Ok.ensures.cases.0 c.in_ok-text.ensures ∙ ap (option_map string_bytes) c.in-None.is
