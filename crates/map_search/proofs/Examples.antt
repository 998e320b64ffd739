-- Worked examples, on which the definitions compute.
use Rattle.std.proofs.Common.{◌≡◌, ℕ, pos, true, is_some, List, [], ◌∷◌, ◌++◌, replicate, length, Option, Some, None, refl, sym, ◌∙◌, arith}
use Rattle.std.specs.Prelude.{codes}
use Rattle.std.specs.Str.{is_utf8, chars}
use Rattle.std.specs.FinMap as fin
use lib.Utf8.{encode}
use Rattle.osm_base.specs.Meta.{empty_meta}
use Rattle.osm_base.specs.Rank.{rank_cmp}
use Rattle.osm_base.specs.declared.content.Content.{Content}
use Rattle.osm_base.specs.declared.content.Content.TheVariants as content
use Rattle.osm_base.specs.declared.key.Key.{Key}
use Rattle.osm_base.specs.declared.key.Kind.TheVariants.{Node, Way, Relation}
use Rattle.osm_table.specs.Table.{TableValue}
use Rattle.osm_table.specs.declared.entry.Base.TheVariants.{Live}
use Rattle.osm_table.specs.declared.entry.Entry.{Entry}
use Rattle.osm_table.specs.declared.entry.Entry.TheVariants.{Incomplete, Known}
use Rattle.opl_text.specs.Text.{unescaped}
use Rattle.opl_line.specs.Field.{tags_text, tag_into}
use Rattle.map_search.specs.Meets.{found}
use Rattle.map_search.specs.Query.{QueryValue, OfKind, Tag, IsNew, IsChanged, IsDeleted, IsIncomplete, HasConflict, Child, Parent, Not, And, Or}
use Rattle.map_search.specs.Reading.{query_of_words}
use Rattle.map_search.specs.Words.{words_of, word_of, joining_word, kind_word, state_word, tag_word}

-- the query that a line is
abbrev query_of : List ℕ → Option QueryValue
query_of line = query_of_words (words_of line)

-- `not` and `child` take a factor, and `and` joins factors.
children_read : query_of (codes "child way and not Tk=*") ≡ Some (And (Child (OfKind Way)) (Not (Tag (codes "k") None)))
unfolding word_of joining_word kind_word state_word tag_word tags_text tag_into unescaped is_utf8 chars encode
children_read = refl

-- `and` binds before `or`.
and_first : query_of (codes "node or way and new") ≡ Some (Or (OfKind Node) (And (OfKind Way) IsNew))
unfolding word_of joining_word kind_word state_word
and_first = refl

and_first_left : query_of (codes "node and way or new") ≡ Some (Or (And (OfKind Node) (OfKind Way)) IsNew)
unfolding word_of joining_word kind_word state_word
and_first_left = refl

-- Both are taken from the left.
from_left : query_of (codes "new or changed or deleted") ≡ Some (Or (Or IsNew IsChanged) IsDeleted)
unfolding word_of joining_word kind_word state_word
from_left = refl

from_left_and : query_of (codes "new and changed and conflict") ≡ Some (And (And IsNew IsChanged) HasConflict)
unfolding word_of joining_word kind_word state_word
from_left_and = refl

-- Brackets hold a query together, and blanks may be more than one.
bracket_read : query_of (codes "parent  ( node or incomplete )\tand relation") ≡ Some (And (Parent (Or (OfKind Node) IsIncomplete)) (OfKind Relation))
unfolding word_of joining_word kind_word state_word
bracket_read = refl

-- The value `*` is compared after its escapes are read; beside another byte it is a text.
any_escaped : query_of (codes "Tk=%2a%") ≡ Some (Tag (codes "k") None)
unfolding word_of joining_word kind_word state_word tag_word tags_text tag_into unescaped is_utf8 chars encode
any_escaped = refl

star_in_text : query_of (codes "Tk=**") ≡ Some (Tag (codes "k") (Some (codes "**")))
unfolding word_of joining_word kind_word state_word tag_word tags_text tag_into unescaped is_utf8 chars encode
star_in_text = refl

empty_value : query_of (codes "Tk=") ≡ Some (Tag (codes "k") (Some []))
unfolding word_of joining_word kind_word state_word tag_word tags_text tag_into unescaped is_utf8 chars encode
empty_value = refl

-- A `T` has one tag, and no less and no more.
two_tags : query_of (codes "Ta=1,b=2") ≡ None
unfolding word_of joining_word kind_word state_word tag_word tags_text tag_into unescaped is_utf8 chars encode
two_tags = refl

no_tag : query_of (codes "T") ≡ None
unfolding word_of joining_word kind_word state_word tag_word tags_text
no_tag = refl

-- What is no query.
open_bracket : query_of (codes "( way") ≡ None
unfolding word_of joining_word kind_word state_word
open_bracket = refl

closed_twice : query_of (codes "( way ) )") ≡ None
unfolding word_of joining_word kind_word state_word
closed_twice = refl

empty_bracket : query_of (codes "( )") ≡ None
unfolding word_of joining_word
empty_bracket = refl

no_join : query_of (codes "node way") ≡ None
unfolding word_of joining_word kind_word
no_join = refl

no_right_side : query_of (codes "node and") ≡ None
unfolding word_of joining_word kind_word
no_right_side = refl

other_word : query_of (codes "area") ≡ None
unfolding word_of joining_word kind_word state_word tag_word
other_word = refl

no_word : query_of [] ≡ None
no_word = refl

-- 64 openings may stand round a word, and 65 may not.
deep : is_some (query_of_words (replicate 64 (codes "not") ++ codes "way" ∷ [])) ≡ true
unfolding word_of joining_word kind_word
deep = refl

too_deep : query_of_words (replicate 65 (codes "not") ++ codes "way" ∷ []) ≡ None
unfolding word_of joining_word kind_word
too_deep = refl

-- Openings that are done stand round nothing more.
side_by_side : is_some (query_of_words (replicate 64 (codes "not") ++ codes "way" ∷ codes "or" ∷ codes "not" ∷ codes "way" ∷ [])) ≡ true
unfolding word_of joining_word kind_word
side_by_side = refl

-- 1,001 words are too many.
too_many_words : query_of_words (replicate 1001 (codes "way")) ≡ None
too_many_words = refl

abbrev node : ℕ → Key
node n = record { kind = Node; id = pos n }

abbrev way : ℕ → Key
way n = record { kind = Way; id = pos n }

abbrev known : Content → Entry
known c = Known (Live 1 c empty_meta) (Some c) None

abbrev point : List (List ℕ × List ℕ) → Content
point tags = content.Node tags (record { lon = pos 0; lat = pos 0; on_map = refl })

abbrev path : Content
path = content.Way ((codes "highway", codes "path") ∷ []) (pos 1 ∷ pos 2 ∷ pos 4 ∷ [])

-- a path over a plain node, one with a tag and one that isn't known, and a way over two nodes that was deleted
abbrev objects : List (Key × Entry)
objects =
    (node 1, known (point []))
    ∷ (node 2, known (point ((codes "k", codes "1") ∷ [])))
    ∷ (node 3, known (point []))
    ∷ (node 4, Incomplete)
    ∷ (way 5, known path)
    ∷ (way 6, Known (Live 1 (content.Way [] (pos 3 ∷ pos 1 ∷ [])) empty_meta) None None)
    ∷ []

abbrev table : TableValue
table = record { entries = fin.from_sorted objects; next = 1 }

in_table : fin.entries (fin.from_sorted {R = rank_cmp} objects) ≡ objects
in_table = fin.entries-from_sorted rank_cmp objects tt

-- What the way that is left refers to, but for what has the tag. A deleted way refers to nothing.
found_children : found table (And (Child (OfKind Way)) (Not (Tag (codes "k") None))) ≡ node 1 ∷ node 4 ∷ []
found_children = simp (fin.get-entries, in_table) refl

-- A deleted way is none of the parents.
found_parents : found table (Parent (OfKind Node)) ≡ way 5 ∷ []
found_parents = simp (fin.get-entries, in_table) refl

found_parents_of_one : found table (Parent (Tag (codes "k") (Some (codes "1")))) ≡ way 5 ∷ []
found_parents_of_one = simp (fin.get-entries, in_table) refl

-- A deleted way has no tags, and it is changed.
found_tagged : found table (Tag (codes "highway") (Some (codes "path"))) ≡ way 5 ∷ []
found_tagged = simp (fin.get-entries, in_table) refl

found_other_value : found table (Tag (codes "k") (Some (codes "2"))) ≡ []
found_other_value = simp (fin.get-entries, in_table) refl

found_deleted : found table IsDeleted ≡ way 6 ∷ []
found_deleted = simp (fin.get-entries, in_table) refl

found_changed : found table IsChanged ≡ way 6 ∷ []
found_changed = simp (fin.get-entries, in_table) refl

found_incomplete : found table (Or IsNew IsIncomplete) ≡ node 4 ∷ []
found_incomplete = simp (fin.get-entries, in_table) refl

empty_of_none : (es : List (Key × Entry)) → length es ≡ 0 → es ≡ []
empty_of_none [] h = refl
empty_of_none (e ∷ es) h = absurd (omega (arith, h))

no_entries : fin.entries (fin.empty {X = Entry} {R = rank_cmp}) ≡ []
no_entries = empty_of_none _ (sym (fin.len-entries fin.empty) ∙ fin.len-empty rank_cmp Entry)

-- An empty table has no key that meets a query.
found_none : found (record { entries = fin.empty; next = 1 }) (Or IsNew IsIncomplete) ≡ []
found_none = simp no_entries refl
