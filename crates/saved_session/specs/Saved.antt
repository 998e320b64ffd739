-- A saved session: the whole table as text.
--
-- For example a node that got a tag here, a node that is only mentioned, and a node that was made here are saved as
--   session 1 2
--   known n1 live own none
--   base n1 v3 dV c7 t i0 u T x0 y0
--   mine n1 v1 dV c0 t i0 u Ta=1 x0 y0
--   incomplete n2
--   known n-1 new own none
--   mine n-1 v0 dV c0 t i0 u T x1 y1
--   session end
use Rattle.std.specs.Prelude.{ℕ, ℤ, pos, negsuc, codes, List, [], ◌∷◌, ◌++◌, Option, Some, None}
use Rattle.std.specs.List.{flat_map}
use Rattle.std.specs.FinMap as fin
use Rattle.osm_base.specs.Meta.{empty_meta}
use Rattle.osm_base.specs.declared.key.Key.{Key}
use Rattle.osm_base.specs.declared.content.Content.{Content}
use Rattle.osm_table.specs.Table.{TableValue, entry_of, held_by, keys_by_rank, meta_of, version_of}
use Rattle.osm_table.specs.declared.entry.Base.{Base}
use Rattle.osm_table.specs.declared.entry.Base.TheVariants.{New, Live, Gone}
use Rattle.osm_table.specs.declared.entry.Conflict.{Conflict}
use Rattle.osm_table.specs.declared.entry.Entry.{Entry}
use Rattle.osm_table.specs.declared.entry.Entry.TheVariants as entries
use Rattle.opl_line.specs.Written.{written}
use Rattle.saved_session.specs.declared.words.MineWord.{MineWord}
use Rattle.saved_session.specs.declared.words.MineWord.TheVariants.{Same, Absent, Own}
use Rattle.saved_session.specs.declared.words.Head.TheVariants.{Incomplete, Known}
use Rattle.saved_session.specs.Words.{words_of, mine_word, end_written, head_written, header_written}

-- the written form of what a server has
abbrev pub server_written : Key → Base → List ℕ
server_written key base = written key (version_of base) (held_by base) (meta_of base)

-- the version that stands for mine: 1, and 0 for a negative id
abbrev pub mine_version : ℤ → ℕ
mine_version (pos n) = 1
mine_version (negsuc n) = 0

-- the written form of mine
abbrev pub own_written : Key → Option Content → List ℕ
own_written key mine = written key (mine_version key.id) mine empty_meta

-- the line of a base, unless it is new
abbrev pub base_lines : Key → Base → List (List ℕ)
base_lines key New = []
base_lines key (Live version content meta) = (codes "base " ++ server_written key (Live version content meta)) ∷ []
base_lines key (Gone version meta) = (codes "base " ++ server_written key (Gone version meta)) ∷ []

-- the line of mine, if its word is `own`
abbrev pub mine_lines : Key → MineWord → Option Content → List (List ℕ)
mine_lines key Same mine = []
mine_lines key Absent mine = []
mine_lines key Own mine = (codes "mine " ++ own_written key mine) ∷ []

-- the line of theirs, where there is a conflict
abbrev pub theirs_lines : Key → Option Conflict → List (List ℕ)
theirs_lines key None = []
theirs_lines key (Some conflict) = (codes "theirs " ++ server_written key conflict.theirs) ∷ []

-- the lines of an entry
abbrev pub entry_lines : Key → Entry → List (List ℕ)
entry_lines key entries.Incomplete = head_written (Incomplete key) ∷ []
entry_lines key (entries.Known base mine conflict) = head_written (Known key (words_of base mine conflict)) ∷ (base_lines key base ++ (mine_lines key (mine_word base mine) mine ++ theirs_lines key conflict))

-- the lines of entries, and the last line
abbrev pub entries_lines : List (Key × Entry) → List (List ℕ)
entries_lines [] = end_written ∷ []
entries_lines (e ∷ es) = entry_lines e.0 e.1 ++ entries_lines es

-- The lines of a table: a header, the lines of each entry by rank, and the end.
abbrev pub saved_lines : TableValue → List (List ℕ)
saved_lines t = header_written t.next ∷ entries_lines (fin.entries t.entries)

-- each line ended by LF
abbrev pub ended : List (List ℕ) → List ℕ
ended lines = flat_map (λ line. line ++ 10 ∷ []) lines

-- the text of an entry, and of what stands under a key
abbrev pub entry_written : Key → Entry → List ℕ
entry_written key e = ended (entry_lines key e)

abbrev pub shown : Key → Option Entry → List ℕ
shown key None = []
shown key (Some e) = entry_written key e

-- The text of a table in its pieces: the first line, the lines of the entry of a key, and the last line.
unfoldable pub saved_head : ℕ → List ℕ
saved_head next = header_written next ++ 10 ∷ []

unfoldable pub saved_entry : TableValue → Key → List ℕ
saved_entry t key = shown key (entry_of t key)

unfoldable pub saved_end : List ℕ
saved_end = end_written ++ 10 ∷ []

-- The text of a table: the first line with the number of the next new object, the entries by rank, and the last line.
unfoldable pub saved : TableValue → List ℕ
saved t = saved_head t.next ++ (flat_map (saved_entry t) (keys_by_rank t) ++ saved_end)
