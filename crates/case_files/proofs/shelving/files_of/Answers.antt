use Rattle.std.proofs.Common.{◌≡◌, false, sym, ◌∙◌, subst, arith}
use Rattle.std.proofs.lemmas.List.Folds.{list_any_more}
use Rattle.std.proofs.lemmas.Bool.{or_parts}
use Rattle.std.specs.Str.{bytes_eq}
use Rattle.case_files.specs.declared.case.CaseFile.{CaseFile}
use Rattle.case_files.proofs.shelving.files_of.Goals as goal

pub loop-i-preserved : goal.loop-i-preserved
loop-i-preserved c name none =
    let file = c.index-named-i.result in
    let p = or_parts _ _ (sym (list_any_more (λ (f : CaseFile). bytes_eq f.name.items name) c.args.named.now c.loop-i.i file (omega arith)) ∙ none) in
    c.in_ok-add_unnamed.ensures name p.0 (subst (λ (f : CaseFile). bytes_eq f.name.items name ≡ false) (sym c.index-named-i.is) p.1)
