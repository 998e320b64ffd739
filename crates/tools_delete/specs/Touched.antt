-- What erasing touches, in words on the keys that fall and on those that go.
use Rattle.std.specs.Prelude.{◌&&◌, Bool, false, not, List, [], map, Option, Some}
use Rattle.std.specs.List.{list_any, list_all}
use Rattle.std.specs.Option.{option_map_or}
use Rattle.osm_base.specs.Content.{node}
use Rattle.osm_base.specs.declared.key.Key.{Key}
use Rattle.osm_base.specs.declared.content.Content.{Content}
use Rattle.osm_base.specs.declared.content.Content.TheVariants as content
use Rattle.osm_table.specs.Table.{TableValue, entry_of, users}
use Rattle.tool_api.specs.Checks.{is_named}
use Rattle.tool_api.specs.Basic.{with_members, with_refs}
use Rattle.tool_api.specs.Changes.{changed, content_of, delete, edit}
use Rattle.tool_api.specs.Gone.{is_bare, is_relation, is_short, is_way, members_without, mended}

-- whether the key's object lives as a way
abbrev pub lives_as_way : TableValue → Key → Bool
lives_as_way t k = option_map_or is_way (content_of t k) false

-- whether it lives as a relation
abbrev pub lives_as_relation : TableValue → Key → Bool
lives_as_relation t k = option_map_or is_relation (content_of t k) false

-- whether it lives as a way with fewer than two references left
abbrev pub falls_short : TableValue → List Key → Key → Bool
falls_short t named k = option_map_or (is_short named) (content_of t k) false

-- the nodes of a way, none of anything else
abbrev pub way_nodes : Option Content → List Key
way_nodes (Some (content.Way tags refs)) = map node refs
way_nodes c = []

-- a bare node whose users all fall
abbrev pub is_free : TableValue → List Key → Key → Bool
is_free t falling k = is_bare (entry_of t k) && list_all (is_named falling) (users t k)

-- a bare node of a way that falls, whose users all fall
abbrev pub is_left_by : TableValue → List Key → Key → Bool
is_left_by t falling k = is_bare (entry_of t k) && list_any (λ u. is_named falling u && lives_as_way t u) (users t k) && list_all (is_named falling) (users t k)

-- whether it is a relation with a member that goes
abbrev pub has_gone : List Key → Content → Bool
has_gone going (content.Relation tags members) = list_any (λ m. is_named going m.key) members
has_gone going c = false

-- a relation that doesn't fall, with a member that goes
abbrev pub loses_members : TableValue → List Key → List Key → Key → Bool
loses_members t falling going k = not (is_named falling k) && option_map_or (has_gone going) (content_of t k) false

-- the table in which these are deleted, those ways lose the named nodes, and those relations the members that go
abbrev pub erased_with : TableValue → (named going ways relations : List Key) → TableValue
erased_with t named going ways relations =
    changed (changed (changed t
    (delete t) going)
    (edit t (with_refs (mended named))) ways)
    (edit t (with_members (members_without (is_named going)))) relations
