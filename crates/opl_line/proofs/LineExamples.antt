-- Lines with their faults, lines of both modes, and a written line: worked examples.
use Rattle.std.proofs.Common.{◌≡◌, ℕ, pos, negsuc, List, [], ◌∷◌, map, Some, None, Ok, Err, refl}
use Rattle.std.specs.Prelude.{codes}
use Rattle.std.specs.Fmt.{digits}
use Rattle.std.specs.Str.{is_utf8, chars}
use lib.Utf8.{encode}
use Rattle.osm_base.specs.Coord.{part_text, whole_text, pointed_text, size_text, coord_text}
use Rattle.osm_base.specs.Number.{number_text, id_text, kind_letter}
use Rattle.osm_base.specs.Place.{place_at}
use Rattle.osm_base.specs.declared.content.Content.TheVariants as content
use Rattle.osm_base.specs.declared.key.Key.{Key}
use Rattle.osm_base.specs.declared.key.Kind.TheVariants.{Node, Way, Relation}
use Rattle.osm_base.specs.declared.meta.Meta.{Meta}
use Rattle.opl_text.specs.Text.{unescaped, escaped}
use Rattle.opl_text.specs.Time.{is_date, has_marks, parts_of, stamp_text, time_text, time_written}
use Rattle.opl_text.specs.Written.{hex_written, spelling}
use Rattle.opl_line.specs.declared.mode.Mode.TheVariants.{Download, Import}
use Rattle.opl_line.specs.declared.fault.LineFault.{LineFault}
use Rattle.opl_line.specs.declared.fault.LineFault.TheVariants as faults
use Rattle.opl_line.specs.declared.object.LineKind.TheVariants.{Object}
use Rattle.opl_line.specs.Field.{letter_of, number_to, version_into, visible_text, visible_into, changeset_into, uid_into, time_into, user_into, place_text, x_into, y_into, is_place, ref_text, ref_into, refs_text, refs_into, tag_into, tags_text, tags_into, member_at, member_into, members_text, members_into, named_into, field_into}
use Rattle.opl_line.specs.Line.{id_at, key_at, version_of, location_of, content_of, side_of, completed, object_of, kind_of_line, line_of}
use Rattle.opl_line.specs.Written.{written, object_with}

-- a line, and its fault
abbrev Row : Type 0
Row = List ℕ × LineFault

-- the fifteen faults
abbrev by_number : List Row
by_number =
    (codes "q1", faults.BadStart)
    ∷ (codes "n0 v1", faults.BadId)
    ∷ (codes "n1 v1 v2", faults.FieldTwice)
    ∷ (codes "n1 v1 zz", faults.UnknownField)
    ∷ (codes "n1 vx", faults.BadNumber)
    ∷ (codes "n1 v1 Ta=%2 x0 y0", faults.BadText)
    ∷ (codes "n1 v1 t2023-02-29T00:00:00Z x0 y0", faults.BadTime)
    ∷ (codes "n1 v1 x181 y0", faults.BadCoordinate)
    ∷ (codes "n1 v1 x0", faults.NoLocation)
    ∷ (codes "n1 x0 y0", faults.NoVersion)
    ∷ (codes "n1 v1 Ta=1,a=2 x0 y0", faults.BadTags)
    ∷ (codes "w1 v1 Nn2,", faults.BadRefs)
    ∷ (codes "r1 v1 Mn2", faults.BadMembers)
    ∷ (codes "n1 v1 Nn2", faults.WrongField)
    ∷ (codes "n-1 x0 y0", faults.NegativeId)
    ∷ []

each_fault : map (λ (row : Row). line_of Download row.0) by_number ≡ map (λ (row : Row). Err row.1) by_number
unfolding line_of kind_of_line object_of key_at id_at kind_letter id_text number_text field_into letter_of named_into version_into number_to visible_into visible_text changeset_into uid_into time_into time_text stamp_text has_marks parts_of is_date user_into unescaped is_utf8 chars encode tags_into tags_text tag_into x_into y_into place_text coord_text size_text pointed_text whole_text part_text refs_into refs_text ref_into ref_text is_place members_into members_text member_into member_at completed version_of location_of side_of content_of
each_fault = refl

-- in tags and members the first broken thing counts
abbrev first_broken : List Row
first_broken =
    (codes "n1 v1 Ta=1,a=%", faults.BadTags)
    ∷ (codes "n1 v1 Ta=1,a%", faults.BadText)
    ∷ (codes "n1 v1 T%", faults.BadText)
    ∷ (codes "n1 v1 T=%", faults.BadTags)
    ∷ (codes "n1 v1 Ta=%=c", faults.BadText)
    ∷ (codes "n1 v1 Ta=b=c", faults.BadTags)
    ∷ (codes "r1 v1 Mn1@%,x", faults.BadText)
    ∷ (codes "r1 v1 Mx,n1@%", faults.BadMembers)
    ∷ []

each_first : map (λ (row : Row). line_of Download row.0) first_broken ≡ map (λ (row : Row). Err row.1) first_broken
unfolding line_of kind_of_line object_of key_at id_at kind_letter id_text number_text field_into letter_of named_into version_into number_to unescaped is_utf8 chars encode tags_into tags_text tag_into members_into members_text member_into member_at
each_first = refl

-- of a line the first fault from the left: a field's letter, whether such objects have it, whether it came before, its
-- value, the signs in it; the id before all of these, and the version and the location behind them
abbrev from_the_left : List Row
from_the_left =
    (codes "n-1 zz", faults.NegativeId)
    ∷ (codes "n1 vx zz", faults.BadNumber)
    ∷ (codes "n1 Nx Nx", faults.WrongField)
    ∷ (codes "w1 N Nx", faults.FieldTwice)
    ∷ (codes "w1 Nn-1,x", faults.BadRefs)
    ∷ (codes "w1 Nn-1 zz", faults.NegativeId)
    ∷ (codes "r1 Mn-1@,w@", faults.BadMembers)
    ∷ (codes "n1 zz", faults.UnknownField)
    ∷ (codes "n1 dX x0 y0", faults.UnknownField)
    ∷ (codes "n1 v0 x y", faults.NoVersion)
    ∷ (codes "n1 v1 x y0", faults.NoLocation)
    ∷ (codes "w1 v1 Nn3x1", faults.BadRefs)
    ∷ (codes "w1 v1 Nn3x181y0", faults.BadRefs)
    ∷ []

each_left : map (λ (row : Row). line_of Download row.0) from_the_left ≡ map (λ (row : Row). Err row.1) from_the_left
unfolding line_of kind_of_line object_of key_at id_at kind_letter id_text number_text field_into letter_of named_into version_into number_to visible_into visible_text x_into y_into place_text coord_text size_text pointed_text whole_text part_text refs_into refs_text ref_into ref_text is_place members_into members_text member_into member_at unescaped is_utf8 chars encode completed version_of location_of side_of content_of
each_left = refl

-- An import takes negative ids, and drops their version. The others keep their rules.
abbrev unknown : Meta
unknown = record { changeset = 0; time = None; uid = 0; user = [] }

abbrev negative : ℕ → Key
negative i = record { kind = Node; id = negsuc i }

node_brought : line_of Import (codes "n-1 v7 x1.5 y-0.5") ≡ Ok (Object (object_with (negative 0) 0 (Some (content.Node [] (record { lon = pos 15000000; lat = negsuc 4999999; on_map = refl }))) unknown))
unfolding line_of kind_of_line object_of key_at id_at kind_letter id_text number_text field_into letter_of named_into version_into number_to x_into y_into place_text coord_text size_text pointed_text whole_text part_text completed version_of location_of place_at side_of content_of
node_brought = refl

way_brought : line_of Import (codes "w-1 Nn-2,n3x1y2") ≡ Ok (Object (object_with (record { kind = Way; id = negsuc 0 }) 0 (Some (content.Way [] (negsuc 1 ∷ pos 3 ∷ []))) unknown))
unfolding line_of kind_of_line object_of key_at id_at kind_letter id_text number_text field_into letter_of named_into refs_into refs_text ref_into ref_text is_place place_text coord_text size_text pointed_text whole_text part_text completed version_of side_of content_of
way_brought = refl

relation_brought : line_of Import (codes "r-1 Mw-2@outer,n3@") ≡ Ok (Object (object_with (record { kind = Relation; id = negsuc 0 }) 0 (Some (content.Relation [] (record { key = record { kind = Way; id = negsuc 1 }; role = codes "outer" } ∷ record { key = record { kind = Node; id = pos 3 }; role = [] } ∷ []))) unknown))
unfolding line_of kind_of_line object_of key_at id_at kind_letter id_text number_text field_into letter_of named_into members_into members_text member_into member_at unescaped is_utf8 chars encode completed version_of side_of content_of
relation_brought = refl

abbrev of_imports : List Row
of_imports =
    (codes "n1 x0 y0", faults.NoVersion)
    ∷ (codes "n-1", faults.NoLocation)
    ∷ (codes "n-0 x0 y0", faults.BadId)
    ∷ (codes "n-1 vx x0 y0", faults.BadNumber)
    ∷ []

each_of_imports : map (λ (row : Row). line_of Import row.0) of_imports ≡ map (λ (row : Row). Err row.1) of_imports
unfolding line_of kind_of_line object_of key_at id_at kind_letter id_text number_text field_into letter_of named_into version_into number_to x_into y_into place_text coord_text size_text pointed_text whole_text part_text completed version_of location_of side_of content_of
each_of_imports = refl

-- of a deleted object the fields of what is known of its last change are kept, the others are read and dropped
deleted_read : line_of Download (codes "w7 v3 dD c4 i5 uAnna Ta=1 Nn1") ≡ Ok (Object (object_with (record { kind = Way; id = pos 7 }) 3 None (record { changeset = 4; time = None; uid = 5; user = codes "Anna" })))
unfolding line_of kind_of_line object_of key_at id_at kind_letter id_text number_text field_into letter_of named_into version_into number_to visible_into visible_text changeset_into uid_into user_into unescaped is_utf8 chars encode tags_into tags_text tag_into refs_into refs_text ref_into ref_text is_place completed version_of side_of
deleted_read = refl

-- A written line with metadata, tags and members; what ends a text stands as an escape.
abbrev edited : Meta
edited = record { changeset = 7; time = Some (record { year = 2024; month = 2; day = 29; hour = 12; minute = 0; second = 5 }); uid = 5; user = codes "Anna B" }

relation_written : written (record { kind = Relation; id = pos 9 }) 2
    (Some (content.Relation ((codes "name", codes "1,2") ∷ (codes "type", codes "route") ∷ []) (record { key = record { kind = Node; id = pos 1 }; role = codes "stop" } ∷ record { key = record { kind = Way; id = negsuc 6 }; role = [] } ∷ []))) edited
    ≡ codes "r9 v2 dV c7 t2024-02-29T12:00:05Z i5 uAnna%20%B Tname=1%2c%2,type=route Mn1@stop,w-7@"
unfolding written digits escaped spelling hex_written encode chars time_written
relation_written = refl

way_written : written (record { kind = Way; id = pos 7 }) 1 (Some (content.Way ((codes "a", []) ∷ []) (pos 3 ∷ negsuc 1 ∷ []))) unknown ≡ codes "w7 v1 dV c0 t i0 u Ta= Nn3,n-2"
unfolding written digits escaped spelling hex_written encode chars time_written
way_written = refl
