-- The lines of an entry in a saved session.
--
-- For example a node that got a tag here has the lines
--   known n1 live own none
--   base n1 v3 dV c7 t i0 u T x0 y0
--   mine n1 v1 dV c0 t i0 u Ta=1 x0 y0
-- and one that is only mentioned the line `incomplete n2`.
--
-- The law `entry_is_told` says that `entry_lines` has these lines, so how they are put together needn't be known.
use Rattle.std.specs.Prelude.{ℕ, Bool, true, not, ◌&&◌, if◌then◌else◌, codes, List, [], ◌∷◌, ◌++◌, Option, is_some}
use Rattle.std.specs.Option.{option_map_or}
use Rattle.osm_base.specs.Meta.{empty_meta}
use Rattle.osm_base.specs.Number.{key_written}
use Rattle.osm_base.specs.declared.content.Content.{Content}
use Rattle.osm_base.specs.declared.key.Key.{Key}
use Rattle.osm_table.specs.Same.{same_mine}
use Rattle.osm_table.specs.Table.{held_by, is_new}
use Rattle.osm_table.specs.declared.entry.Base.{Base}
use Rattle.osm_table.specs.declared.entry.Base.TheVariants.{New, Live, Gone}
use Rattle.osm_table.specs.declared.entry.Entry.{Entry}
use Rattle.osm_table.specs.declared.entry.Entry.TheVariants.{Incomplete, Known}
use Rattle.osm_table.specs.declared.entry.Why.{Why}
use Rattle.osm_table.specs.declared.entry.Why.TheVariants.{Changed, Held, Withdrawn}
use Rattle.opl_line.specs.Written.{written}
use Rattle.saved_session.specs.Saved.{mine_version, server_written}

abbrev pub base_name : Base → List ℕ
base_name New = codes " new"
base_name (Live version content meta) = codes " live"
base_name (Gone version meta) = codes " gone"

-- mine as the base has it has no line of its own, nor has an object that is deleted
abbrev pub is_own : Base → Option Content → Bool
is_own base mine = is_some mine && not (same_mine mine (held_by base))

abbrev pub mine_name : Base → Option Content → List ℕ
mine_name base mine = if same_mine mine (held_by base) then codes " same" else (if is_some mine then codes " own" else codes " none")

abbrev pub why_name : Why → List ℕ
why_name Changed = codes " changed"
why_name Held = codes " held"
why_name Withdrawn = codes " withdrawn"

-- a line, where it has to be there
abbrev pub line_if : Bool → List ℕ → List (List ℕ)
line_if there line = if there then line ∷ [] else []

-- The lines of an entry: its key with the words for the base, for mine and for the conflict, and then the base, mine and theirs.
abbrev pub told_lines : Key → Entry → List (List ℕ)
told_lines key Incomplete = (codes "incomplete " ++ key_written key) ∷ []
told_lines key (Known base mine conflict) =
    (codes "known " ++ (key_written key ++ (base_name base ++ (mine_name base mine ++ option_map_or (λ c. why_name c.why) conflict (codes " none")))))
    ∷ (line_if (not (is_new base)) (codes "base " ++ server_written key base)
    ++ (line_if (is_own base mine) (codes "mine " ++ written key (mine_version key.id) mine empty_meta)
    ++ option_map_or (λ c. line_if true (codes "theirs " ++ server_written key c.theirs)) conflict []))
