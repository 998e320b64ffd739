-- The world that has the bases of a table, and what these refer to.
use Rattle.std.specs.Prelude.{refl, pos, Bool, ◌&&◌, if◌then◌else◌, Option, Some, None, List, [], ◌∷◌, ◌++◌, flat_map}
use Rattle.std.specs.List.{list_any}
use Rattle.std.specs.Option.{option_map_or}
use Rattle.std.specs.FinMap as fin
use Rattle.osm_base.specs.declared.key.Kind.{Kind}
use Rattle.osm_base.specs.declared.key.Kind.TheVariants as kind
use Rattle.osm_base.specs.declared.key.Key.{Key}
use Rattle.osm_base.specs.declared.content.Content.{Content}
use Rattle.osm_base.specs.declared.content.Content.TheVariants.{Node, Way, Relation}
use Rattle.osm_table.specs.declared.entry.Base.{Base}
use Rattle.osm_table.specs.declared.entry.Base.TheVariants.{New, Live, Gone}
use Rattle.osm_table.specs.declared.entry.Entry.{Entry}
use Rattle.osm_table.specs.declared.entry.Entry.TheVariants.{Incomplete, Known}
use Rattle.osm_table.specs.Table.{TableValue, entry_of, keys_by_rank}
use Rattle.upload_order.specs.Kinds.{held_refers, held_list}
use Rattle.upload_order.specs.Rename.{is_positive}
use Rattle.upload_order.specs.World.{World, WorldEntry}

-- a node at 0 0, a way without references, a relation without members, all without tags
abbrev pub empty_content : Kind → Content
empty_content kind.Node = Node [] (record { lon = pos 0; lat = pos 0; on_map = refl })
empty_content kind.Way = Way [] []
empty_content kind.Relation = Relation [] []

-- the version of a base and what it holds, if a server has it
abbrev pub of_base : Base → Option WorldEntry
of_base New = None
of_base (Live version content meta) = Some (record { version = version; content = Some content })
of_base (Gone version meta) = Some (record { version = version; content = None })

-- the base of some key refers to it
abbrev pub is_mentioned : TableValue → Key → Bool
is_mentioned t k = is_positive k.id && list_any (λ u. held_refers t u k) (keys_by_rank t)

-- version 1 and an empty content, where a base refers to it
abbrev pub of_mention : TableValue → Key → Option WorldEntry
of_mention t k = if is_mentioned t k then Some (record { version = 1; content = Some (empty_content k.kind) }) else None

abbrev pub of_entry : Option WorldEntry → Option Entry → Option WorldEntry
of_entry mention None = mention
of_entry mention (Some Incomplete) = mention
of_entry mention (Some (Known base mine conflict)) = of_base base

-- What stands of a key: its base, where it is Known; else an empty object, where a base refers to it.
abbrev pub standing : TableValue → Key → Option WorldEntry
standing t k = of_entry (of_mention t k) (entry_of t k)

-- the keys of the table, and those to which its bases refer
abbrev pub keys_told : TableValue → List Key
keys_told t = keys_by_rank t ++ flat_map (held_list t) (keys_by_rank t)

abbrev pub at_key : Key → Option WorldEntry → List (Key × WorldEntry)
at_key k o = option_map_or (λ e. (k, e) ∷ []) o []

-- The world that has what stands of each of these, and no names.
abbrev pub of_bases : TableValue → World
of_bases t = record { entries = fin.from_entries (flat_map (λ k. at_key k (standing t k)) (keys_told t)); names = [] }
