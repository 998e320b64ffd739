-- The new objects of a file that was read have texts that may be written.
use Rattle.std.proofs.Common.{ℕ, Bool, true, false, cond, List, [], ◌∷◌, Option, Some, None}
use Rattle.std.specs.List.{AllByRecursion, cons_option}
use Rattle.std.specs.Option.{option_map}
use Rattle.osm_base.specs.declared.key.Key.{Key}
use Rattle.osm_base.specs.declared.meta.Meta.{Meta}
use Rattle.osm_base.specs.declared.content.Content.{Content}
use Rattle.opl_line.specs.declared.object.OplObject.{OplObject}
use Rattle.download.specs.Tell.{told_side}
use Rattle.import_tool.specs.Counted.{new_object, new_objects_of}
use Rattle.tool_api.specs.Import.{is_negative}
use Rattle.tool_api.specs.declared.new_objects.NewObject.{NewObject}
use Rattle.editor_laws.specs.Texts.{HasTexts, IsTextSide}
use Rattle.editor_laws.proofs.SeenLists.{IfSome}
use Rattle.editor_laws.proofs.TextFiles.{IsTextObject}

abbrev IsTextNew : NewObject → Type 0
IsTextNew o = HasTexts o.content

new_side : (key : Key) (version : ℕ) (side : Option Content) (meta : Meta) → IsTextSide (told_side version side meta) → IfSome IsTextNew (option_map (λ c. record { key = key; content = c }) side)
new_side key version None meta h = tt
new_side key version (Some c) meta h = h.0

new_case : (b : Bool) (o : Option NewObject) → IfSome IsTextNew o → IfSome IsTextNew (cond b o None)
new_case true o h = h
new_case false o h = tt

cons_new : (o : Option NewObject) (rest : List NewObject) → IfSome IsTextNew o → AllByRecursion IsTextNew rest → AllByRecursion IsTextNew (cons_option o rest)
cons_new None rest h i = i
cons_new (Some n) rest h i = (h, i)

pub new_texts : (os : List OplObject) → AllByRecursion IsTextObject os → AllByRecursion IsTextNew (new_objects_of os)
new_texts [] i = tt
new_texts (o ∷ os) i =
    cons_new (new_object o) (new_objects_of os) (new_case (is_negative o.key.id) (option_map (λ c. record { key = o.key; content = c }) o.side) (new_side o.key o.version o.side o.meta i.0)) (new_texts os i.1)
