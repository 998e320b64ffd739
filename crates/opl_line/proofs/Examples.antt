-- Worked examples of the format.
use Rattle.std.proofs.Common.{◌≡◌, pos, negsuc, true, [], ◌∷◌, Some, None, Ok, Err, refl}
use Rattle.std.specs.Prelude.{codes}
use Rattle.std.specs.Fmt.{digits}
use Rattle.std.specs.Str.{chars}
use Rattle.osm_base.specs.Number.{number_text, id_text, kind_letter}
use Rattle.osm_base.specs.declared.key.Kind.TheVariants.{Node, Way}
use Rattle.osm_base.specs.declared.meta.Meta.{Meta}
use Rattle.osm_base.specs.declared.content.Content.TheVariants as content
use Rattle.opl_text.specs.Text.{escaped}
use Rattle.opl_text.specs.Time.{time_written}
use Rattle.opl_line.specs.declared.mode.Mode.TheVariants.{Download}
use Rattle.opl_line.specs.declared.fault.LineFault.TheVariants as faults
use Rattle.opl_line.specs.declared.object.LineKind.TheVariants.{Object}
use Rattle.opl_line.specs.Cut.{split}
use Rattle.opl_line.specs.Field.{letter_of, number_to, ref_text, field_into, named_into, version_into, refs_into, refs_text, ref_into}
use Rattle.opl_line.specs.Line.{is_blank, freed, is_skipped, key_at, id_at, version_of, side_of, content_of, completed, object_of, kind_of_line, line_of}
use Rattle.opl_line.specs.Written.{written, object_with}

-- Two blanks have an empty piece between them, which is no field.
pieces_cut : split is_blank (codes "w7  v2") ≡ codes "w7" ∷ [] ∷ codes "v2" ∷ []
pieces_cut = refl

-- One CR is taken off, and not two.
one_cr : freed (110 ∷ 13 ∷ 13 ∷ []) ≡ 110 ∷ 13 ∷ []
one_cr = refl

changeset_skipped : is_skipped (codes "c5 k1") ≡ true
changeset_skipped = refl

abbrev unknown : Meta
unknown = record { changeset = 0; time = None; uid = 0; user = [] }

-- `w7 v2 Nn1,n2` is a way of two nodes.
way_read : line_of Download (codes "w7 v2 Nn1,n2") ≡ Ok (Object (object_with (record { kind = Way; id = pos 7 }) 2 (Some (content.Way [] (pos 1 ∷ pos 2 ∷ []))) unknown))
unfolding line_of kind_of_line object_of key_at id_at kind_letter id_text number_text field_into letter_of named_into version_into number_to refs_into refs_text ref_into ref_text completed version_of side_of content_of
way_read = refl

-- The missing version is told before the missing location.
no_version : line_of Download (codes "n1") ≡ Err faults.NoVersion
unfolding line_of kind_of_line object_of key_at id_at kind_letter id_text number_text completed version_of
no_version = refl

-- A field that is there twice is told before the negative id in it.
twice : line_of Download (codes "w1 v1 N Nn-1") ≡ Err faults.FieldTwice
unfolding line_of kind_of_line object_of key_at id_at kind_letter id_text number_text field_into letter_of named_into version_into number_to refs_into refs_text
twice = refl

-- A deleted object has empty fields.
deleted_written : written (record { kind = Node; id = negsuc 3 }) 0 None unknown ≡ codes "n-4 v0 dD c0 t i0 u T x y"
unfolding written digits escaped time_written chars
deleted_written = refl
