-- Worked examples: texts that may stand in a table, and one that may not.
use Rattle.std.proofs.Common.{[], ◌∷◌, refl, sym}
use Rattle.std.proofs.lemmas.Bool.{true≢false}
use Rattle.std.specs.Prelude.{codes}
use Rattle.tool_api.specs.declared.job.Job.TheVariants.{SetTags}
use Rattle.opl_line.specs.Writable.{IsText}
use Rattle.editor_laws.specs.Texts.{BringsTexts}
use Rattle.editor_laws.proofs.TextCity.{plain_text}

name : IsText (codes "name")
name = plain_text (codes "name") refl

elm_street : IsText (codes "Elm St")
elm_street = plain_text (codes "Elm St") refl

-- `set n1 name=Elm%20%St` brings texts that may be written
sets_name : BringsTexts (SetTags [] ((codes "name", codes "Elm St") ∷ []))
sets_name = (tt, ((name, elm_street), tt))

-- no text of a table has U+0000
no_zero : IsText (0 ∷ []) → ⊥
no_zero text = true≢false (sym text.1)
