use Rattle.std.specs.Prelude.{ℕ, ℤ, List, [], map, Bool, true, ◌&&◌, length, nat_le}
use Rattle.std.specs.List.{list_all, list_any}
use Rattle.std.specs.Str.{chars}
use Rattle.osm_base.specs.Rank.{is_key}
use Rattle.osm_base.specs.Tags.{Pair}
use Rattle.osm_base.specs.declared.key.Kind.{Kind}
use Rattle.osm_base.specs.declared.key.Kind.TheVariants as kind
use Rattle.osm_base.specs.declared.key.Key.{Key}
use Rattle.osm_base.specs.declared.members.Member.{Member}
use Rattle.osm_base.specs.declared.content.Content.{Content}
use Rattle.osm_base.specs.declared.content.Content.TheVariants.{Node, Way, Relation}

-- the kind of the objects that have such a content
abbrev pub kind_of_content : Content → Kind
kind_of_content (Node tags at) = kind.Node
kind_of_content (Way tags refs) = kind.Way
kind_of_content (Relation tags members) = kind.Relation

-- the tags
abbrev pub tags_of : Content → List Pair
tags_of (Node tags at) = tags
tags_of (Way tags refs) = tags
tags_of (Relation tags members) = tags

-- the key of a node
abbrev pub node : ℤ → Key
node id = record { kind = kind.Node; id = id }

-- the references, in order: a way's nodes, and the keys of a relation's members
abbrev pub refs_of : Content → List Key
refs_of (Node tags at) = []
refs_of (Way tags refs) = map node refs
refs_of (Relation tags members) = map (λ m. m.key) members

-- whether the key is one of the references
abbrev pub refers : Content → Key → Bool
refers content key = list_any (is_key key) (refs_of content)

-- at most 255 Unicode scalar values
abbrev pub text_fits : List ℕ → Bool
text_fits text = nat_le (length (chars text)) 255

-- key and value fit
abbrev pub tag_fits : Pair → Bool
tag_fits tag = text_fits tag.0 && text_fits tag.1

-- the role fits
abbrev pub role_fits : Member → Bool
role_fits member = text_fits member.role

-- a node has no body that could be too long, a way has 1 to 2,000 references, a relation at most 32,000 members
abbrev pub body_fits : Content → Bool
body_fits (Node tags at) = true
body_fits (Way tags refs) = nat_le 1 (length refs) && nat_le (length refs) 2000
body_fits (Relation tags members) = nat_le (length members) 32000 && list_all role_fits members

-- whether the API takes the content: its texts and its list are within the limits
abbrev pub fits : Content → Bool
fits content = list_all tag_fits (tags_of content) && body_fits content
