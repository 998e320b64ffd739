-- Contents whose references are called otherwise.
--
-- For example where n-1 is called n7 and each other key stays, a way Nn-1,n2 becomes Nn7,n2.
use Rattle.std.specs.Prelude.{map}
use Rattle.osm_base.specs.Content.{node}
use Rattle.osm_base.specs.declared.key.Key.{Key}
use Rattle.osm_base.specs.declared.content.Content.{Content}
use Rattle.osm_base.specs.declared.content.Content.TheVariants as content

-- A content with what a function makes of its references. A way's references are nodes, and stay nodes.
abbrev pub renamed : (Key → Key) → Content → Content
renamed f (content.Node tags at) = content.Node tags at
renamed f (content.Way tags refs) = content.Way tags (map (λ i. (f (node i)).id) refs)
renamed f (content.Relation tags members) = content.Relation tags (map (λ m. record { key = f m.key; role = m.role }) members)
