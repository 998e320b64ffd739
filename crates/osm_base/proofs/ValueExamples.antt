-- Worked examples of tags, limits and equality.
use Rattle.std.proofs.Common.{◌≡◌, true, false, pos, negsuc, Some, None, List, [], ◌∷◌, refl}
use Rattle.std.specs.Prelude.{codes}
use Rattle.std.specs.Str.{chars}
use Rattle.osm_base.specs.Tags.{Pair, are_tags, value_of, with_tag, without_tag}
use Rattle.osm_base.specs.Content.{refers, node, fits}
use Rattle.osm_base.specs.Same.{same_tags, same_content}
use Rattle.osm_base.specs.declared.key.Kind.TheVariants as kind
use Rattle.osm_base.specs.declared.content.Content.TheVariants.{Way, Relation}

-- a footpath, its keys in order
abbrev path : List Pair
path = (codes "foot", codes "yes") ∷ (codes "highway", codes "path") ∷ []

in_order : are_tags path ≡ true
in_order = refl

out_of_order : are_tags ((codes "highway", codes "path") ∷ (codes "foot", codes "yes") ∷ []) ≡ false
out_of_order = refl

key_twice : are_tags ((codes "foot", codes "yes") ∷ (codes "foot", codes "no") ∷ []) ≡ false
key_twice = refl

key_empty : are_tags (([], codes "yes") ∷ []) ≡ false
key_empty = refl

value_there : value_of path (codes "highway") ≡ Some (codes "path")
value_there = refl

value_missing : value_of path (codes "name") ≡ None
value_missing = refl

put_between : with_tag path (codes "height") (codes "2") ≡ (codes "foot", codes "yes") ∷ (codes "height", codes "2") ∷ (codes "highway", codes "path") ∷ []
put_between = refl

put_over : with_tag path (codes "foot") (codes "no") ≡ (codes "foot", codes "no") ∷ (codes "highway", codes "path") ∷ []
put_over = refl

take_one : without_tag path (codes "foot") ≡ (codes "highway", codes "path") ∷ []
take_one = refl

take_none : without_tag path (codes "name") ≡ path
take_none = refl

-- U+00E9 in two bytes is one scalar value
one_character : chars (195 ∷ 169 ∷ []) ≡ 233 ∷ []
unfolding chars
one_character = refl

way_empty : fits (Way [] []) ≡ false
way_empty = refl

way_of_one : fits (Way [] (pos 1 ∷ [])) ≡ true
way_of_one = refl

relation_empty : fits (Relation [] []) ≡ true
relation_empty = refl

way_refers : refers (Way [] (pos 1 ∷ negsuc 1 ∷ [])) (node (negsuc 1)) ≡ true
way_refers = refl

-- node 1 is no member, though way 1 is
relation_refers : refers (Relation [] (record { key = record { kind = kind.Way; id = pos 1 }; role = [] } ∷ [])) (node (pos 1)) ≡ false
relation_refers = refl

other_value : same_tags path (with_tag path (codes "foot") (codes "no")) ≡ false
other_value = refl

other_kind : same_content (Way [] []) (Relation [] []) ≡ false
other_kind = refl
