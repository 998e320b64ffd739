-- A session saved and read, by example.
use Rattle.std.proofs.Common.{◌≡◌, ◌++◌, ℕ, ℤ, pos, negsuc, true, false, take, List, [], ◌∷◌, Some, None, Ok, Err, refl, ap, ◌∙◌}
use Rattle.std.specs.Prelude.{codes}
use Rattle.std.specs.Fmt.{digits}
use Rattle.std.specs.Str.{chars, is_utf8}
use Rattle.std.specs.FinMap as fin
use Rattle.std.specs.FinMap.Entries.{find}
use lib.Utf8.{encode}
use Rattle.osm_base.specs.Meta.{empty_meta}
use Rattle.osm_base.specs.Coord.{coord_text, part_text, places_of, pointed_text, size_text, size_written, whole_text}
use Rattle.osm_base.specs.Number.{id_text, key_text, kind_letter, number_text}
use Rattle.osm_base.specs.Place.{place_at}
use Rattle.osm_base.specs.Rank.{rank_cmp}
use Rattle.osm_base.specs.RankLaws.{rank_total}
use Rattle.osm_base.specs.declared.key.Key.{Key}
use Rattle.osm_base.specs.declared.meta.Meta.{Meta}
use Rattle.osm_base.specs.declared.key.Kind.TheVariants as kind
use Rattle.osm_base.specs.declared.content.Content.TheVariants as content
use Rattle.osm_table.specs.Table.{TableValue}
use Rattle.osm_table.specs.declared.entry.Base.TheVariants.{New, Live, Gone}
use Rattle.osm_table.specs.declared.entry.Why.TheVariants.{Held}
use Rattle.osm_table.specs.declared.entry.Entry.TheVariants.{Incomplete, Known}
use Rattle.opl_text.specs.Written.{hex_written, spelling}
use Rattle.opl_text.specs.Text.{escaped, unescaped}
use Rattle.opl_text.specs.Time.{time_text, time_written}
use Rattle.opl_line.specs.Field.{changeset_into, field_into, is_place, letter_of, named_into, number_to, place_text, ref_into, ref_text, refs_into, refs_text, tag_into, tags_into, tags_text, time_into, uid_into, user_into, version_into, visible_into, visible_text, x_into, y_into}
use Rattle.opl_line.specs.Line.{completed, content_of, id_at, key_at, kind_of_line, line_of, location_of, object_of, side_of, version_of}
use Rattle.opl_line.specs.Written.{written}
use Rattle.opl_file.specs.Cut.{lines_of}
use Rattle.saved_session.specs.Words.{base_text, head_of, head_text, header_of, header_text, header_written, incomplete_text, known_text, mine_text, why_text, words_text}
use Rattle.saved_session.specs.Saved.{ended, entries_lines, entry_lines, saved}
use Rattle.saved_session.specs.Reading.{Entries, Session, base_at, mine_at, object_behind, object_text, session_from, step, table_of, theirs_at}
use Rattle.saved_session.specs.SoundTest.{breaks, first_unsound, is_unsound, least_unsound}
use Rattle.saved_session.specs.Resumed.{if_sound, saved_table, tested}
use Rattle.saved_session.specs.declared.fault.SavedFault.TheVariants.{BadSaved, Unsound}
use Rattle.saved_session.proofs.ByKey.{entries_of, keys_of_table}
use Rattle.saved_session.proofs.Pieces.{saved_is}

abbrev node : ℤ → Key
node id = record { kind = kind.Node; id = id }

abbrev way : ℤ → Key
way id = record { kind = kind.Way; id = id }

abbrev seventh : Meta
seventh = record { changeset = 7; time = None; uid = 0; user = [] }

-- ---- a whole session

-- a node that the server has, with a tag here; one that is only mentioned; one that was made here; a way that was deleted here
abbrev entries : Entries
entries =
    (node (pos 1), Known (Live 3 (content.Node [] (record { lon = pos 0; lat = pos 0; on_map = refl })) seventh) (Some (content.Node ((codes "a", codes "1") ∷ []) (record { lon = pos 0; lat = pos 0; on_map = refl }))) None)
    ∷ (node (pos 2), Incomplete)
    ∷ (node (negsuc 0), Known New (Some (content.Node [] (record { lon = pos 10000000; lat = pos 10000000; on_map = refl }))) None)
    ∷ (way (pos 5), Known (Live 1 (content.Way [] (pos 1 ∷ pos 2 ∷ [])) empty_meta) None None)
    ∷ []

abbrev session : ℕ → Session
session next = record { next = next; entries = entries }

abbrev lines : List ℕ → List (List ℕ)
lines header =
    header
    ∷ codes "known n1 live own none"
    ∷ codes "base n1 v3 dV c7 t i0 u T x0 y0"
    ∷ codes "mine n1 v1 dV c0 t i0 u Ta=1 x0 y0"
    ∷ codes "incomplete n2"
    ∷ codes "known n-1 new own none"
    ∷ codes "mine n-1 v0 dV c0 t i0 u T x1 y1"
    ∷ codes "known w5 live none none"
    ∷ codes "base w5 v1 dV c0 t i0 u T Nn1,n2"
    ∷ codes "session end"
    ∷ []

lines_written : header_written 2 ∷ entries_lines entries ≡ lines (codes "session 1 2")
unfolding written digits escaped time_written chars size_written places_of spelling encode
lines_written = refl

-- its text
whole_saved : saved (table_of (session 2)) ≡ ended (lines (codes "session 1 2"))
whole_saved = saved_is (table_of (session 2)) ∙ ap (λ (es : Entries). ended (header_written 2 ∷ entries_lines es)) (entries_of entries tt) ∙ ap ended lines_written

-- what the editor wrote before it
abbrev replies : List (List ℕ)
replies = codes "1 ok" ∷ codes "2 ok" ∷ codes "3 ok" ∷ codes "4 ok n-1" ∷ codes "5 ok" ∷ []

-- the whole output, read
whole_read : session_from 1 (lines_of (ended (replies ++ lines (codes "session 1 2")))) ≡ Ok (session 2)
unfolding step header_of header_text head_of head_text known_text words_text base_text mine_text why_text incomplete_text object_text object_behind base_at mine_at theirs_at written digits escaped time_written chars size_written places_of spelling hex_written encode key_text id_text kind_letter number_text line_of kind_of_line object_of key_at id_at field_into letter_of named_into version_into number_to visible_into visible_text changeset_into uid_into time_into time_text user_into unescaped is_utf8 tags_into tags_text tag_into x_into y_into place_text coord_text size_text pointed_text whole_text part_text refs_into refs_text ref_into ref_text is_place completed version_of location_of side_of content_of place_at
whole_read = refl

-- cut after its tenth line, it ends too early
cut_short : saved_table 9 (ended (take 10 (replies ++ lines (codes "session 1 2")))) ≡ Err (BadSaved 11)
unfolding saved_table step header_of header_text head_of head_text known_text words_text base_text mine_text why_text incomplete_text object_text object_behind base_at mine_at theirs_at written digits escaped time_written chars size_written places_of spelling hex_written encode key_text id_text kind_letter number_text line_of kind_of_line object_of key_at id_at field_into letter_of named_into version_into number_to visible_into visible_text changeset_into uid_into time_into time_text user_into unescaped is_utf8 tags_into tags_text tag_into x_into y_into place_text coord_text size_text pointed_text whole_text part_text refs_into refs_text ref_into ref_text is_place completed version_of location_of side_of content_of place_at
cut_short = refl

-- ---- the next number is that of an object that is there

number_read : session_from 1 (lines_of (ended (replies ++ lines (codes "session 1 1")))) ≡ Ok (session 1)
unfolding step header_of header_text head_of head_text known_text words_text base_text mine_text why_text incomplete_text object_text object_behind base_at mine_at theirs_at written digits escaped time_written chars size_written places_of spelling hex_written encode key_text id_text kind_letter number_text line_of kind_of_line object_of key_at id_at field_into letter_of named_into version_into number_to visible_into visible_text changeset_into uid_into time_into time_text user_into unescaped is_utf8 tags_into tags_text tag_into x_into y_into place_text coord_text size_text pointed_text whole_text part_text refs_into refs_text ref_into ref_text is_place completed version_of location_of side_of content_of place_at
number_read = refl

abbrev table : TableValue
table = table_of (session 1)

at : (k : Key) → is_unsound table k ≡ breaks table k (find rank_cmp k entries)
at k = ap (breaks table k) (fin.get-from_entries rank_total entries k)

first_fits : breaks table (node (pos 1)) (find rank_cmp (node (pos 1)) entries) ≡ false
unfolding chars encode
first_fits = refl

second_fits : breaks table (node (pos 2)) (find rank_cmp (node (pos 2)) entries) ≡ false
second_fits = refl

third_breaks : breaks table (node (negsuc 0)) (find rank_cmp (node (negsuc 0)) entries) ≡ true
third_breaks = refl

least : least_unsound table ≡ Some (node (negsuc 0))
least =
    ap (first_unsound table) (keys_of_table (session 1) tt)
    ∙ rw (at (node (pos 1)) ∙ first_fits, at (node (pos 2)) ∙ second_fits, at (node (negsuc 0)) ∙ third_breaks) refl

number_refused : saved_table 9 (ended (replies ++ lines (codes "session 1 1"))) ≡ Err (Unsound (node (negsuc 0)))
unfolding saved_table
number_refused = ap (tested 9) number_read ∙ ap (if_sound 9 table) least

-- ---- entries in conflict

-- a way that is held, since something here refers to it
held_saved : entry_lines (way (pos 5)) (Known (Live 1 (content.Way [] []) empty_meta) (Some (content.Way [] [])) (Some (record { why = Held; theirs = Gone 2 empty_meta }))) ≡
    codes "known w5 live same held" ∷ codes "base w5 v1 dV c0 t i0 u T N" ∷ codes "theirs w5 v2 dD c0 t i0 u T N" ∷ []
unfolding written digits escaped time_written chars
held_saved = refl

-- ---- lines that can't stand in their place

-- what stands before the first header is skipped, and a text without one ends too early
no_header : session_from 1 (codes "1 ok" ∷ codes "2 ok" ∷ []) ≡ Err 3
no_header = refl

-- the end of a session before its header
end_first : session_from 1 (codes "session end" ∷ []) ≡ Err 1
unfolding header_of header_text number_text
end_first = refl

-- the header has no leading zero, and an entry comes once and by rank
no_zero : session_from 1 (codes "session 1 02" ∷ codes "session end" ∷ []) ≡ Err 1
unfolding header_of header_text number_text digits
no_zero = refl

twice : session_from 1 (codes "session 1 1" ∷ codes "incomplete n2" ∷ codes "incomplete n2" ∷ codes "session end" ∷ []) ≡ Err 3
unfolding step header_of header_text head_of head_text incomplete_text key_text id_text kind_letter number_text digits
twice = refl

-- a deleted object that no server knows is none
none_of_none : session_from 1 (codes "session 1 1" ∷ codes "known n1 new none none" ∷ codes "session end" ∷ []) ≡ Err 2
unfolding step header_of header_text head_of head_text known_text words_text base_text mine_text why_text incomplete_text key_text id_text kind_letter number_text digits
none_of_none = refl

-- mine has a line of its own only where it isn't what the base holds
own_as_held : session_from 1 (codes "session 1 1" ∷ codes "known w5 live own none" ∷ codes "base w5 v1 dV c0 t i0 u T N" ∷ codes "mine w5 v1 dV c0 t i0 u T N" ∷ codes "session end" ∷ []) ≡ Err 4
unfolding step header_of header_text head_of head_text known_text words_text base_text mine_text why_text incomplete_text object_text object_behind base_at mine_at written digits escaped time_written chars key_text id_text kind_letter number_text line_of kind_of_line object_of key_at id_at field_into letter_of named_into version_into number_to visible_into visible_text changeset_into uid_into time_into time_text user_into unescaped is_utf8 encode tags_into tags_text refs_into refs_text completed version_of side_of content_of
own_as_held = refl

-- a line with another spelling of its object
other_spelling : session_from 1 (codes "session 1 1" ∷ codes "known w5 live same none" ∷ codes "base w5 v1 T N" ∷ codes "session end" ∷ []) ≡ Err 3
unfolding step header_of header_text head_of head_text known_text words_text base_text mine_text why_text incomplete_text object_text object_behind base_at written digits escaped time_written chars key_text id_text kind_letter number_text line_of kind_of_line object_of key_at id_at field_into letter_of named_into version_into number_to unescaped is_utf8 encode tags_into tags_text refs_into refs_text completed version_of side_of content_of
other_spelling = refl
