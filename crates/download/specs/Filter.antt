-- What is kept of a file: a part of the map by a box and by tags. By a box alone it is the map call of API 0.6.
--
-- For example the box has n1 alone of n1, n3 and n4, and the file has w5 Nn1,n3, r7 Mw5, r8 Mr7 and r9 Mr8: kept are n1,
-- w5 and with it n3, then r7 and r8. Not kept is r9, which refers to a relation of a relation.
use Rattle.std.specs.Prelude.{ℕ, ℤ, Bool, true, false, ◌&&◌, ◌||◌, ◌==◌, int_le, length, filter, List, [], ◌∷◌, Option, None, Some, is_none, if◌then◌else◌}
use Rattle.std.specs.List.{list_any, list_all}
use Rattle.std.specs.Option.{option_or}
use Rattle.osm_base.specs.Tags.{Pair, value_of}
use Rattle.osm_base.specs.Same.{same_text}
use Rattle.osm_base.specs.Content.{tags_of, refs_of}
use Rattle.osm_base.specs.Rank.{is_key}
use Rattle.osm_base.specs.declared.key.Key.{Key}
use Rattle.osm_base.specs.declared.area.Area.{Area}
use Rattle.osm_base.specs.declared.coord.Coord.{Coord}
use Rattle.osm_base.specs.declared.content.Content.{Content}
use Rattle.osm_base.specs.declared.content.Content.TheVariants.{Node, Way, Relation}
use Rattle.osm_table.specs.declared.told.Told.{Told}
use Rattle.osm_table.specs.declared.told.Told.TheVariants.{Mentioned}
use Rattle.osm_table.specs.Told.{ToldValue}
use Rattle.opl_line.specs.declared.object.OplObject.{OplObject}
use Rattle.opl_file.specs.Objects.{keys_of}
use Rattle.download.specs.Tell.{refs_of_side, references, told_of_object, told_of}

-- What is asked for.

-- from the least to the most, both with it
abbrev pub is_between : ℤ → ℤ → ℤ → Bool
is_between least most value = int_le least value && int_le value most

-- the place lies in the box; the edges belong to it
abbrev pub in_box : Coord → Area → Bool
in_box at area = is_between area.west area.east at.lon && is_between area.south area.north at.lat

-- the place lies in the box, if there is one
abbrev pub in_area : Option Area → Coord → Bool
in_area None at = true
in_area (Some area) at = in_box at area

-- `*`, which stands for any value
abbrev pub any_value : List ℕ
any_value = 42 ∷ []

-- there is a value, and it is the one that is wanted
abbrev pub is_wanted : List ℕ → Option (List ℕ) → Bool
is_wanted wanted None = false
is_wanted wanted (Some value) = same_text wanted any_value || same_text wanted value

-- the content has all the wanted tags
abbrev pub has_tags : Content → List Pair → Bool
has_tags content wanted = list_all (λ tag. is_wanted tag.1 (value_of (tags_of content) tag.0)) wanted

-- neither a box nor a tag is asked for
abbrev pub is_whole : Option Area → List Pair → Bool
is_whole area wanted = is_none area && length wanted == 0

-- What is kept, step by step. Only live objects have a side, so these tests pass no deleted one.

abbrev pub among : List Key → Key → Bool
among keys key = list_any (is_key key) keys

abbrev pub on_side : (Option Content → Bool) → OplObject → Bool
on_side test o = test o.side

-- a node in the box
abbrev pub is_near : Option Area → Option Content → Bool
is_near area (Some (Node tags at)) = in_area area at
is_near area side = false

-- the nodes in the box, if there is one
abbrev pub near : Option Area → List OplObject → Option (Key → Bool)
near None objects = None
near (Some area) objects = Some (among (keys_of (filter (on_side (is_near (Some area))) objects)))

-- one of the nodes lies in the box, if there is one
abbrev pub is_reached : Option (Key → Bool) → List Key → Bool
is_reached None nodes = true
is_reached (Some near) nodes = list_any near nodes

-- a way that has the wanted tags and a node in the box
abbrev pub is_kept_way : List Pair → Option (Key → Bool) → Option Content → Bool
is_kept_way wanted near (Some (Way tags refs)) = has_tags (Way tags refs) wanted && is_reached near (refs_of (Way tags refs))
is_kept_way wanted near side = false

-- the nodes of the kept ways
abbrev pub nodes_of_ways : Option Area → List Pair → List OplObject → Key → Bool
nodes_of_ways area wanted objects = among (references (filter (on_side (is_kept_way wanted (near area objects))) objects))

-- a node in the box that has the wanted tags, or a node of a kept way
abbrev pub is_kept_node : Option Area → List Pair → Bool → Option Content → Bool
is_kept_node area wanted of_way (Some (Node tags at)) = in_area area at && has_tags (Node tags at) wanted || of_way
is_kept_node area wanted of_way side = false

-- a kept way or a kept node
abbrev pub is_kept_place : Option Area → List Pair → Option (Key → Bool) → (Key → Bool) → OplObject → Bool
is_kept_place area wanted near of_ways o = is_kept_way wanted near o.side || is_kept_node area wanted (of_ways o.key) o.side

-- the kept ways and nodes
abbrev pub kept_places : Option Area → List Pair → List OplObject → Key → Bool
kept_places area wanted objects = among (keys_of (filter (is_kept_place area wanted (near area objects) (nodes_of_ways area wanted objects)) objects))

-- a relation that refers to one of these
abbrev pub is_related : (Key → Bool) → Option Content → Bool
is_related keys (Some (Relation tags members)) = list_any keys (refs_of (Relation tags members))
is_related keys side = false

-- the relations that refer to a kept way or a kept node
abbrev pub relations : Option Area → List Pair → List OplObject → Key → Bool
relations area wanted objects = among (keys_of (filter (on_side (is_related (kept_places area wanted objects))) objects))

-- What is kept: all deleted objects, the ways and nodes as above, the relations that refer to one of these ways and nodes,
-- and those that refer to one of these relations. This last step isn't repeated. Tags aren't asked of relations.
abbrev pub is_kept : Option Area → List Pair → Option (Key → Bool) → (Key → Bool) → (Key → Bool) → (Key → Bool) → OplObject → Bool
is_kept area wanted near of_ways places relations o =
    is_none o.side || is_kept_place area wanted near of_ways o || is_related places o.side || is_related relations o.side

-- the same, with the sets of the file
abbrev pub keeps : List OplObject → Option Area → List Pair → OplObject → Bool
keeps objects area wanted =
    is_kept area wanted (near area objects) (nodes_of_ways area wanted objects) (kept_places area wanted objects) (relations area wanted objects)

-- the objects that are kept, in the order of the file: all of them where neither a box nor a tag is asked for
abbrev pub kept : List OplObject → Option Area → List Pair → List OplObject
kept objects area wanted = if is_whole area wanted then objects else (filter (keeps objects area wanted) objects)

-- no tag is wanted where none is named
abbrev pub tags_wanted : Option (List Pair) → List Pair
tags_wanted None = []
tags_wanted (Some wanted) = wanted

-- What the filter tells: each object that is kept as it stands, and a mention of each other key to which one of them refers.
abbrev pub filtered : List OplObject → Option Area → Option (List Pair) → ToldValue
filtered objects area wanted = told_of (kept objects area (tags_wanted wanted))

-- By look-up.

-- what the last object of the key tells that passes the test, if there is one
abbrev pub telling_that : (OplObject → Bool) → List OplObject → Key → Option Told
telling_that test [] key = None
telling_that test (o ∷ os) key = option_or (telling_that test os key) (if test o && is_key key o.key then Some (told_of_object o) else None)

-- whether one of the objects that pass the test refers to the key
abbrev pub mentioned_by : (OplObject → Bool) → List OplObject → Key → Bool
mentioned_by test objects key = list_any (λ o. test o && list_any (is_key key) (refs_of_side o.side)) objects

-- what is told of a key by those that pass: what its object tells, else a mention where one of them refers to it
abbrev pub told_by_those : (OplObject → Bool) → List OplObject → Key → Option Told
told_by_those test objects key = option_or (telling_that test objects key) (if mentioned_by test objects key then Some Mentioned else None)

-- what the filter tells of a key
abbrev pub filtered_by : List OplObject → Option Area → List Pair → Key → Option Told
filtered_by objects area wanted key = told_by_those (λ o. is_whole area wanted || keeps objects area wanted o) objects key
