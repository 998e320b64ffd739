-- The words of a query.
--
-- For example the line `child way and not Tk=*` has the words `child`, `way`, `and`, `not` and `Tk=*`.
use Rattle.std.specs.Prelude.{ℕ, Bool, ◌==◌, nat_lt, if◌then◌else◌, codes, List, [], ◌∷◌, length, Option, Some, None}
use Rattle.std.specs.List.{filter}
use Rattle.std.specs.Option.{option_and_then, option_map}
use Rattle.std.specs.Str.{bytes_eq}
use Rattle.osm_base.specs.Tags.{Pair}
use Rattle.osm_base.specs.declared.key.Kind.TheVariants.{Node, Way, Relation}
use Rattle.opl_line.specs.Cut.{split}
use Rattle.opl_line.specs.Field.{tags_text}
use Rattle.opl_line.specs.Line.{is_blank}
use Rattle.opl_line.specs.Spelling.{ok_of}
use Rattle.map_search.specs.declared.pending.Opening.TheVariants as opening
use Rattle.map_search.specs.declared.pending.Word.{Word}
use Rattle.map_search.specs.declared.pending.Word.TheVariants.{Opens, Closes, And, Or, Asks}
use Rattle.map_search.specs.Query.{QueryValue, OfKind, Tag, IsNew, IsChanged, IsDeleted, IsIncomplete, HasConflict}

abbrev pub has_byte : List ℕ → Bool
has_byte piece = nat_lt 0 (length piece)

-- the words of a line: what stands between its blanks
abbrev pub words_of : List ℕ → List (List ℕ)
words_of line = filter has_byte (split is_blank line)

-- what stands behind the blanks at the front
abbrev pub without_blanks : List ℕ → List ℕ
without_blanks [] = []
without_blanks (byte ∷ bytes) = if is_blank byte then without_blanks bytes else byte ∷ bytes

-- the wanted value, or any where it is `*`
abbrev pub wanted_of : List ℕ → Option (List ℕ)
wanted_of value = if bytes_eq value (codes "*") then None else Some value

-- the tag, where there is one and no more
abbrev pub one_tag : List Pair → Option QueryValue
one_tag (tag ∷ []) = Some (Tag tag.0 (wanted_of tag.1))
one_tag tags = None

-- what stands behind a `T`
abbrev pub behind_t : List ℕ → Option (List ℕ)
behind_t [] = None
behind_t (byte ∷ text) = if byte == 84 then Some text else None

-- `T` and one tag
unfoldable pub tag_word : List ℕ → Option QueryValue
tag_word word = option_and_then (λ text. option_and_then one_tag (ok_of (tags_text text))) (behind_t word)

-- what is asked of the state of an object
unfoldable pub state_word : List ℕ → Option QueryValue
state_word word =
    if bytes_eq word (codes "new") then Some IsNew
    else (if bytes_eq word (codes "changed") then Some IsChanged
    else (if bytes_eq word (codes "deleted") then Some IsDeleted
    else (if bytes_eq word (codes "incomplete") then Some IsIncomplete
    else (if bytes_eq word (codes "conflict") then Some HasConflict
    else tag_word word))))

-- what is asked of its kind
unfoldable pub kind_word : List ℕ → Option QueryValue
kind_word word =
    if bytes_eq word (codes "node") then Some (OfKind Node)
    else (if bytes_eq word (codes "way") then Some (OfKind Way)
    else (if bytes_eq word (codes "relation") then Some (OfKind Relation)
    else state_word word))

-- what joins factors and terms, and ends a bracket
unfoldable pub joining_word : List ℕ → Option Word
joining_word word =
    if bytes_eq word (codes "and") then Some And
    else (if bytes_eq word (codes "or") then Some Or
    else (if bytes_eq word (codes ")") then Some Closes
    else option_map Asks (kind_word word)))

-- What a word says; none where no query has it.
unfoldable pub word_of : List ℕ → Option Word
word_of word =
    if bytes_eq word (codes "not") then Some (Opens opening.Not)
    else (if bytes_eq word (codes "child") then Some (Opens opening.Child)
    else (if bytes_eq word (codes "parent") then Some (Opens opening.Parent)
    else (if bytes_eq word (codes "(") then Some (Opens opening.Bracket)
    else joining_word word)))
