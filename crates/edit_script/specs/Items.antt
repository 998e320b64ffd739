-- The words of a line, and what each of them spells.
--
-- For example `place n-1 x2.5 y0` has the words `place`, `n-1`, `x2.5` and `y0`. The word `Kname,old%20%name` has the keys
-- `name` and `old name`, `K` has none, and `Kname,name` spells nothing. The word `B13.3,52.5,13.4,52.6` is a box with its
-- west, south, east and north, and `B13.4,52.5,13.3,52.6` is none, since its west lies beyond its east.
use Rattle.std.specs.Prelude.{ℕ, ℤ, Bool, ◌==◌, ◌&&◌, nat_le, nat_lt, int_le, if◌then◌else◌, codes, List, [], ◌∷◌, length, Option, Some, None}
use Rattle.std.specs.List.{list_any}
use Rattle.std.specs.Option.{option_map_or}
use Rattle.std.specs.Str.{bytes_eq}
use Rattle.osm_base.specs.Coord.{coord_text}
use Rattle.osm_base.specs.Number.{key_text, number_text}
use Rattle.osm_base.specs.Place.{place_at}
use Rattle.osm_base.specs.Tags.{Pair}
use Rattle.osm_base.specs.declared.area.Area.{Area}
use Rattle.osm_base.specs.declared.coord.Coord.{Coord}
use Rattle.osm_base.specs.declared.key.Key.{Key}
use Rattle.osm_base.specs.declared.members.Member.{Member}
use Rattle.opl_text.specs.Text.{unescaped}
use Rattle.opl_text.specs.Time.{◌>>=◌}
use Rattle.opl_line.specs.Cut.{split}
use Rattle.opl_line.specs.Field.{is, tags_text, refs_text, members_text}
use Rattle.opl_line.specs.Spelling.{ok_of}
-- a line is cut into its words as a query is
pub use Rattle.map_search.specs.Words.{has_byte, words_of}
use Rattle.merge_cases.specs.Keys.{are_tag_keys}
use Rattle.merge_cases.specs.declared.choice.Side.{Side}
use Rattle.merge_cases.specs.declared.choice.Side.TheVariants as side

-- a thing, where no word is left
abbrev pub alone : {A : Type 0} → A → List (List ℕ) → Option A
alone thing [] = Some thing
alone thing (word ∷ words) = None

-- the texts, where they are four
abbrev pub four_texts : List (List ℕ) → Option (List ℕ × List ℕ × List ℕ × List ℕ)
four_texts (first ∷ second ∷ third ∷ fourth ∷ []) = Some (first, second, third, fourth)
four_texts texts = None

-- what each text spells; none where one of them spells nothing
abbrev pub all_of : {A : Type 0} → (List ℕ → Option A) → List (List ℕ) → Option (List A)
all_of read [] = Some []
all_of read (text ∷ texts) = do
  x ← read text
  xs ← all_of read texts
  Some (x ∷ xs)

-- one or more keys with `,` between them
unfoldable pub keys_word : List ℕ → Option (List Key)
keys_word word = all_of key_text (split (is 44) word)

-- what stands behind the letter of a field
abbrev pub behind : ℕ → List ℕ → Option (List ℕ)
behind letter [] = None
behind letter (byte ∷ text) = if byte == letter then Some text else None

-- What the first word spells, where it begins with the letter, and the words that are left; none where it begins so and
-- spells nothing.
abbrev pub optional : {A : Type 0} → (letter : ℕ) → (List ℕ → Option A) → List (List ℕ) → Option (Option A × List (List ℕ))
optional letter read [] = Some (None, [])
optional letter read (word ∷ words) = option_map_or (λ text. read text >>= λ x. Some (Some x, words)) (behind letter word) (Some (None, word ∷ words))

-- `T` and tags
unfoldable pub tags_word : List ℕ → Option (List Pair)
tags_word word = do
  text ← behind 84 word
  ok_of (tags_text text)

-- a reference with a location has an `x` before it, and one without has none
abbrev pub has_location : List ℕ → Bool
has_location text = list_any (λ byte. byte == 120) text

-- `N` and references without locations
unfoldable pub refs_word : List ℕ → Option (List ℤ)
refs_word word = do
  text ← behind 78 word
  if has_location text then None else ok_of (refs_text text)

-- `M` and members
unfoldable pub members_word : List ℕ → Option (List Member)
members_word word = do
  text ← behind 77 word
  ok_of (members_text text)

-- a longitude and a latitude
unfoldable pub place_texts : List ℕ → List ℕ → Option Coord
place_texts lon_text lat_text = do
  lon ← coord_text lon_text
  lat ← coord_text lat_text
  place_at lon lat

-- `x` and a longitude, `y` and a latitude
unfoldable pub place_words : List ℕ → List ℕ → Option Coord
place_words x y = do
  lon_text ← behind 120 x
  lat_text ← behind 121 y
  place_texts lon_text lat_text

-- the box between its corners in the south-west and the north-east; none where it is upside down
abbrev pub box_between : Coord → Coord → Option Area
box_between low high =
    if int_le low.lon high.lon && int_le low.lat high.lat
    then Some (record { west = low.lon; south = low.lat; east = high.lon; north = high.lat }) else None

-- a box by its west, south, east and north
unfoldable pub area_text : List ℕ → Option Area
area_text text = do
  (west, south, east, north) ← four_texts (split (is 44) text)
  low ← place_texts west south
  high ← place_texts east north
  box_between low high

-- tags, at least one
unfoldable pub wanted_text : List ℕ → Option (List Pair)
wanted_text text = do
  tags ← ok_of (tags_text text)
  if nat_lt 0 (length tags) then Some tags else None

-- 1 to 7 digits of a number from 1 to the most
unfoldable pub number_word : (most : ℕ) → List ℕ → Option ℕ
number_word most word = do
  n ← number_text 7 word
  if nat_le 1 n && nat_le n most then Some n else None

-- `mine` or `theirs`
unfoldable pub side_word : List ℕ → Option Side
side_word word =
    if bytes_eq word (codes "mine") then Some side.Mine
    else (if bytes_eq word (codes "theirs") then Some side.Theirs
    else None)

-- nothing, or texts with `,` between them
abbrev pub texts_of : List ℕ → List (List ℕ)
texts_of [] = []
texts_of (byte ∷ bytes) = split (is 44) (byte ∷ bytes)

-- keys of tags, of which none is empty and none stands twice
unfoldable pub tag_keys_of : List (List ℕ) → Option (List (List ℕ))
tag_keys_of texts = do
  keys ← all_of unescaped texts
  if are_tag_keys keys then Some keys else None

-- `K` and keys of tags
unfoldable pub tag_keys_word : List ℕ → Option (List (List ℕ))
tag_keys_word word = do
  text ← behind 75 word
  tag_keys_of (texts_of text)
