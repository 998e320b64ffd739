use Rattle.std.proofs.Common.{rules, ap, refl, codes, unwrap_or, ◌≡◌, ◌∙◌, ℕ}
use Rattle.clap.specs.Words.{Text, found_of, rows_of}
use Rattle.clap.proofs.WalkLemmas.{first_value-rows, one_text-rows}
use Rattle.command_line.specs.Words.{CommandLineValue, limit_of, line_of, objects_rule, file_rule}
use Rattle.command_line.proofs.Found.{number_found, text_found}
use Rattle.command_line.proofs.line_of.Goals as goal

abbrev value_with : Text → ℕ → ℕ → CommandLineValue
value_with script objects bytes = record { script = script; max_objects = objects; max_file = bytes }

value_is : {a b : Text} {m n x y : ℕ} → a ≡ b → m ≡ n → x ≡ y → value_with a m x ≡ value_with b n y
value_is script objects files = rw (script, objects, files) refl

pub returns : goal.returns
returns c =
    let found = found_of c.args.matches.now in
    let script : c.unwrap_or.result.now ≡ (line_of (rows_of found)).script =
    ap (λ s. s.now) c.unwrap_or.ensures
    ∙ text_found c.get_str.result _ _ (c.get_str.ensures ∙ first_value-rows found (codes "script")) (search rules) in
    let objects : c.unwrap_or-2.result ≡ limit_of objects_rule 2000000 (rows_of found) =
    let text = one_text-rows found objects_rule.id in
    c.unwrap_or-2.ensures
    ∙ ap (λ n. unwrap_or n 2000000)
    (number_found _ c.get_one.result (λ none. c.get_one.ensures.none (text ∙ none)) (λ t some. c.get_one.ensures.value t (text ∙ some))) in
    let files : c.unwrap_or-3.result ≡ limit_of file_rule 268435456 (rows_of found) =
    let text = one_text-rows found file_rule.id in
    c.unwrap_or-3.ensures
    ∙ ap (λ n. unwrap_or n 268435456)
    (number_found _ c.get_one-2.result (λ none. c.get_one-2.ensures.none (text ∙ none)) (λ t some. c.get_one-2.ensures.value t (text ∙ some))) in
    value_is script objects files
