use Rattle.std.specs.Prelude.{◌≡◌, ℕ, true, nat_lt, if◌then◌else◌, Option, Some, None, List, Result, Ok, Err}
use Rattle.std.specs.Option.{option_map}
use Rattle.std.specs.List.{flat_map, list_all}
use Rattle.std.specs.Str.{IsUtf8, is_utf8, chars, encode_utf8_all}
use Rattle.osm_base.specs.declared.text.TextFault.{TextFault}
use Rattle.osm_base.specs.declared.text.TextFault.TheVariants as texts
use Rattle.opl_text.specs.Escape.{characters_of, Spells}
use Rattle.opl_text.specs.Written.{spelling}

-- The text that the bytes of a field spell: they are UTF-8, and their characters spell the text's.
unfoldable pub unescaped : List ℕ → Option (List ℕ)
unescaped field = if is_utf8 field then option_map encode_utf8_all (characters_of None (chars field)) else None

-- What was returned is what the field spells, unless memory ran out.
abbrev pub GivesText : Result (List ℕ) TextFault → Option (List ℕ) → Type 0
GivesText (Ok text) read = read ≡ Some text
GivesText (Err texts.BadText) read = read ≡ None
GivesText (Err texts.Memory) read = Unit {0}

-- The field spells the text by the grammar: both are UTF-8, and the characters of one spell those of the other.
abbrev pub SpellsText : List ℕ → List ℕ → Type 0
SpellsText field text = IsUtf8 field × IsUtf8 text × Spells (chars field) (chars text)

-- The written form of a text.
unfoldable pub escaped : List ℕ → List ℕ
escaped text = encode_utf8_all (flat_map spelling (chars text))

-- The text has no U+0000.
abbrev pub HasNoZero : List ℕ → Type 0
HasNoZero text = list_all (λ b. nat_lt 0 b) text ≡ true
