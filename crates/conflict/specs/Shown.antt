-- The text of conflicts.
--
-- An object in conflict is shown in four lines: why it is in conflict, and its base, mine and theirs. For example
--   conflict n2 changed
--   base n2 v1 dV c0 t i0 u T x1 y0
--   mine n2 v1 dV c0 t i0 u Tk=mine x1 y0
--   theirs n2 v2 dV c0 t i0 u Tk=theirs x1 y0
use Rattle.std.specs.Prelude.{ℕ, List, [], ◌∷◌, ◌++◌, Option, None, Some, codes, flat_map}
use Rattle.osm_base.specs.Number.{key_written}
use Rattle.osm_base.specs.declared.key.Key.{Key}
use Rattle.osm_base.specs.declared.content.Content.{Content}
use Rattle.osm_table.specs.Table.{TableValue, entry_of, held_by, meta_of, version_of}
use Rattle.osm_table.specs.declared.entry.Base.{Base}
use Rattle.osm_table.specs.declared.entry.Why.{Why}
use Rattle.osm_table.specs.declared.entry.Why.TheVariants.{Changed, Held, Withdrawn}
use Rattle.osm_table.specs.declared.entry.Entry.{Entry}
use Rattle.osm_table.specs.declared.entry.Entry.TheVariants.{Incomplete, Known}
use Rattle.opl_line.specs.Written.{written}
use Rattle.conflict.specs.Listed.{conflict_keys}

-- the line of a content with a base's version and metadata, or of a deleted object
abbrev pub known_text : Key → Base → Option Content → List ℕ
known_text key base content = written key (version_of base) content (meta_of base) ++ 10 ∷ []

abbrev pub why_name : Why → List ℕ
why_name Changed = codes "changed"
why_name Held = codes "held"
why_name Withdrawn = codes "withdrawn"

abbrev pub why_line : Key → Why → List ℕ
why_line key why = codes "conflict " ++ (key_written key ++ (32 ∷ (why_name why ++ 10 ∷ [])))

-- the line of a side, behind its name
abbrev pub side_line : List ℕ → Key → Base → Option Content → List ℕ
side_line name key base content = name ++ known_text key base content

-- the base as the server told it, mine over the base's version and metadata, as `print` writes it, and theirs as told
abbrev pub side_lines : Key → Base → Option Content → Base → List ℕ
side_lines key base mine theirs = side_line (codes "base ") key base (held_by base) ++ (side_line (codes "mine ") key base mine ++ side_line (codes "theirs ") key theirs (held_by theirs))

-- the lines of an entry; one that isn't in conflict has none
abbrev pub shown : Key → Option Entry → List ℕ
shown key None = []
shown key (Some Incomplete) = []
shown key (Some (Known base mine None)) = []
shown key (Some (Known base mine (Some conflict))) = why_line key conflict.why ++ side_lines key base mine conflict.theirs

-- The lines of one object in conflict.
abbrev pub conflict_text : TableValue → Key → List ℕ
conflict_text t key = shown key (entry_of t key)

-- The lines of all objects in conflict, by rank.
abbrev pub conflicts_text : TableValue → List ℕ
conflicts_text t = flat_map (conflict_text t) (conflict_keys t)
