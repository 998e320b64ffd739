-- How a job that adds an object ends.
use Rattle.std.proofs.Common.{◌≡◌, ℕ, List, [], ◌∷◌, None, refl}
use Rattle.osm_base.specs.Content.{refs_of, kind_of_content}
use Rattle.osm_base.specs.declared.key.Key.{Key}
use Rattle.osm_base.specs.declared.key.Kind.{Kind}
use Rattle.osm_base.specs.declared.content.Content.{Content}
use Rattle.osm_table.specs.Table.{TableValue}
use Rattle.tool_api.specs.Checks.{ref_tests}
use Rattle.tool_api.specs.Changes.{new_key, added}
use Rattle.tool_api.specs.Closing.{closing}
use Rattle.tool_api.specs.Basic.{add}

pub add_ends : (t u : TableValue) (c : Content) (limit : ℕ) (named keys : List Key) (k : Key) (kind : Kind) → ref_tests t (refs_of c) ≡ None → named ≡ [] → keys ≡ k ∷ []
    → k ≡ new_key kind t.next → kind ≡ kind_of_content c → u ≡ added t c → closing t limit named (record { keys = keys; table = u }) ≡ add t limit c
add_ends t u c limit named keys k kind passed nil one key same is = rw (nil, one, key, same, is, passed) refl
