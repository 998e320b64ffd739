-- In a sound table an object has the kind of its key.
use Rattle.std.proofs.Common.{◌≡◌, ℕ, [], Option, Some, None, refl}
use Rattle.std.specs.Option.{option_and_then}
use Rattle.osm_base.specs.declared.key.Key.{Key}
use Rattle.osm_base.specs.declared.key.Kind.TheVariants as kind
use Rattle.osm_base.specs.declared.content.Content.{Content}
use Rattle.osm_base.specs.declared.content.Content.TheVariants as content
use Rattle.osm_table.specs.declared.entry.Entry.{Entry}
use Rattle.osm_table.specs.declared.entry.Entry.TheVariants.{Incomplete, Known}
use Rattle.osm_table.specs.Table.{TableValue, entry_of, mine_of}
use Rattle.dataset.specs.Sound.{IsSound, IsSoundEntry, OfKind}
use Rattle.tool_api.specs.Changes.{content_of}
use Rattle.tool_api.specs.Combine.{refs_at}
use Rattle.tool_api.specs.Findings.{place_of, place_at}
use Rattle.tool_api.specs.Split.{way_refs}

mine_kind : (n : ℕ) (k : Key) (o : Option Entry) → ((e : Entry) → o ≡ Some e → IsSoundEntry n k e) → OfKind k (option_and_then mine_of o)
mine_kind n k None s = tt
mine_kind n k (Some Incomplete) s = tt
mine_kind n k (Some (Known base mine conflict)) s = (s (Known base mine conflict) refl).kinds.1

content_kind : (t : TableValue) (k : Key) → IsSound t → OfKind k (content_of t k)
content_kind t k s = mine_kind t.next k (entry_of t k) (s.entries k)

-- what is of another kind is no node
no_place : (k : Key) (o : Option Content) → OfKind k o → (kind.Node ≡ k.kind → ⊥) → place_of o ≡ None
no_place k None of other = refl
no_place k (Some (content.Node tags at)) of other = absurd (other of)
no_place k (Some (content.Way tags refs)) of other = refl
no_place k (Some (content.Relation tags members)) of other = refl

-- and what is of another kind is no way
no_refs : (k : Key) (o : Option Content) → OfKind k o → (kind.Way ≡ k.kind → ⊥) → way_refs o ≡ []
no_refs k None of other = refl
no_refs k (Some (content.Node tags at)) of other = refl
no_refs k (Some (content.Way tags refs)) of other = absurd (other of)
no_refs k (Some (content.Relation tags members)) of other = refl

pub placeless : (t : TableValue) (k : Key) → IsSound t → (kind.Node ≡ k.kind → ⊥) → place_at t k ≡ None
placeless t k s other = no_place k (content_of t k) (content_kind t k s) other

pub without_refs : (t : TableValue) (k : Key) → IsSound t → (kind.Way ≡ k.kind → ⊥) → refs_at t k ≡ []
without_refs t k s other = no_refs k (content_of t k) (content_kind t k s) other
