-- What a `resolve` in parts makes of an object, said by the keys of its tags.
--
-- For example the base has the tags `a=1,b=1`, mine `a=2,b=1` and theirs `a=5,b=9`. Only theirs changed `b`, which is 9 then. Both
-- changed `a`, which is 2, or 5 where the key `a` is listed.
use Rattle.std.specs.Prelude.{◌≡◌, ℕ, List, Option, Some, None}
use Rattle.osm_base.specs.Content.{tags_of}
use Rattle.osm_base.specs.Tags.{value_of}
use Rattle.osm_base.specs.declared.content.Content.{Content}
use Rattle.merge_cases.specs.declared.pick.Pick.{Pick}
use Rattle.merge_cases.specs.declared.pick.Pick.TheVariants as pick
use Rattle.merge_cases.specs.declared.choice.Side.{Side}
use Rattle.merge_cases.specs.Join.{picked, with_body}
use Rattle.merge_cases.specs.Resolve.{settled_body, settled_tag}

-- of two values, where no such tag is one too, that of the side that stands
abbrev pub value_picked : Pick → Option (List ℕ) → Option (List ℕ) → Option (List ℕ)
value_picked pick.Mine m t = m
value_picked pick.Theirs m t = t
value_picked pick.Clash m t = None

-- Each tag has the value of the side whose tag stands, or isn't there where that side has none; the place, the nodes or the members
-- are those of the side whose body stands.
pub record HasParts (side : Side) (listed : List (List ℕ)) (base mine theirs content : Content) : Type 0 where
  pub tags : (key : List ℕ) → value_of (tags_of content) key ≡ value_picked (settled_tag listed base mine theirs key) (value_of (tags_of mine) key) (value_of (tags_of theirs) key)
  pub body : picked (settled_body side base mine theirs) (with_body (tags_of content) mine) (with_body (tags_of content) theirs) ≡ Some content
