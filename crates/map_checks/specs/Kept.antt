-- What is left of nodes that are fused.
use Rattle.std.specs.Prelude.{◌≡◌, Bool, true, is_some, List, Some}
use Rattle.osm_base.specs.Rank.{is_key}
use Rattle.osm_base.specs.declared.key.Key.{Key}
use Rattle.osm_table.specs.Table.{TableValue}
use Rattle.tool_api.specs.Checks.{is_named}
use Rattle.tool_api.specs.Changes.{content_of}
use Rattle.tool_api.specs.Fuse.{kept_node}

-- whether the key's object lives
abbrev pub lives_at : TableValue → Key → Bool
lives_at t k = is_some (content_of t k)

-- One of the nodes is kept, and lives, and none of the others does.
pub record KeepsOne (nodes : List Key) (t : TableValue) : Type 0 where
  pub kept : Key
  pub is_kept : kept_node nodes ≡ Some kept
  pub alone : (k : Key) → is_named nodes k ≡ true → lives_at t k ≡ is_key kept k
