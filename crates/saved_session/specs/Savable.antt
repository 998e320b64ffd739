-- What a table has whose text gives it again, and what may stand before that text.
use Rattle.std.specs.Prelude.{◌&&◌, not, ℕ, Bool, List}
use Rattle.osm_table.specs.Table.{TableValue, IfContent, Each}
use Rattle.osm_table.specs.declared.entry.Base.{Base}
use Rattle.osm_table.specs.declared.entry.Base.TheVariants.{New, Live, Gone}
use Rattle.osm_table.specs.declared.entry.Entry.{Entry}
use Rattle.opl_line.specs.Line.{freed}
use Rattle.opl_line.specs.Writable.{IsContent, IsMeta}
use Rattle.opl_file.specs.Cut.{has_lf}
use Rattle.dataset.specs.Sound.{IfTheirs, IfKnown}
use Rattle.saved_session.specs.Words.{is_header}

-- a content and metadata that a reader of lines can give: texts of UTF-8 without U+0000, and times of time texts
abbrev pub IsReadableBase : Base → Type 0
IsReadableBase New = Unit {0}
IsReadableBase (Live version content meta) = IsContent content × IsMeta meta
IsReadableBase (Gone version meta) = IsMeta meta

abbrev pub IsReadableEntry : Entry → Type 0
IsReadableEntry e = IfKnown e (λ base mine conflict. IsReadableBase base × IfContent mine IsContent × IfTheirs conflict IsReadableBase)

-- A reader of lines can give each object of the table.
abbrev pub AreReadable : TableValue → Type 0
AreReadable t = Each t (λ k e. IsReadableEntry e)

-- Whether a line may stand before a saved text: it is one line, and doesn't begin with `session `.
abbrev pub is_before : List ℕ → Bool
is_before line = not (has_lf line) && not (is_header (freed line))
