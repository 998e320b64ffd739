use Rattle.std.proofs.Common.{rules, true, ap, ap₂, codes, ◌≡◌, ◌∙◌}
use Rattle.std.proofs.lemmas.Result.{IfOk-weaker}
use Rattle.clap.specs.Simple.{app_of_fields, on_top}
use Rattle.clap.specs.Words.{App, app_of, rule_of, with_rule}
use Rattle.command_line.specs.Words.{bare_app, file_rule, objects_rule, script_rule}
use Rattle.command_line.proofs.command.Goals as goal

abbrev without_version : App → App
without_version = on_top (λ s. record s { disable_version_flag = true })

abbrev without_help : App → App
without_help = on_top (λ s. record s { disable_help_flag = true })

pub returns : goal.returns
returns c =
    let script_is : rule_of c.required.result ≡ script_rule = search rules in
    let bare_is : app_of c.disable_version_flag.result ≡ bare_app (codes "editor") =
    ap app_of_fields c.disable_version_flag.ensures
    ∙ ap (λ f. without_version (app_of_fields f)) c.disable_help_flag.ensures
    ∙ ap (λ a. without_version (without_help a)) c.new.ensures.app in
    let objects_is : app_of c.in_ok-arg.field-0 ≡ with_rule (bare_app (codes "editor")) objects_rule =
    c.in_ok-arg.ensures.shape c.limit.ensures.local ∙ ap₂ with_rule bare_is c.limit.ensures.rule in
    let files_is : app_of c.in_ok-arg-2.field-0 ≡ with_rule (with_rule (bare_app (codes "editor")) objects_rule) file_rule =
    c.in_ok-arg-2.ensures.shape c.limit-2.ensures.local ∙ ap₂ with_rule objects_is c.limit-2.ensures.rule in
    IfOk-weaker c.arg-3.result _ _ (λ r h. h.shape (search rules) ∙ ap₂ with_rule files_is script_is) c.arg-3.ensures
