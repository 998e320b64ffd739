-- In a sound table an object has the kind of its key.
use Rattle.std.proofs.Common.{◌≡◌, ℕ, [], Option, Some, None, refl, sym, ◌∙◌}
use Rattle.osm_base.specs.declared.key.Key.{Key}
use Rattle.osm_base.specs.declared.key.Kind.TheVariants as kind
use Rattle.osm_base.specs.declared.content.Content.TheVariants as content
use Rattle.osm_table.specs.declared.entry.Entry.{Entry}
use Rattle.osm_table.specs.declared.entry.Entry.TheVariants.{Incomplete, Known}
use Rattle.osm_table.specs.Table.{TableValue, entry_of}
use Rattle.dataset.specs.Exact.{refs_at}
use Rattle.dataset.specs.Sound.{IsSound, IsSoundEntry}

no_refs : (n : ℕ) (k : Key) (o : Option Entry) → ((e : Entry) → o ≡ Some e → IsSoundEntry n k e) → kind.Node ≡ k.kind → refs_at o ≡ []
no_refs n k None s is = refl
no_refs n k (Some Incomplete) s is = refl
no_refs n k (Some (Known base None conflict)) s is = refl
no_refs n k (Some (Known base (Some (content.Node tags at)) conflict)) s is = refl
no_refs n k (Some (Known base (Some (content.Way tags refs)) conflict)) s is = let e : kind.Way ≡ kind.Node = (s _ refl).kinds.1 ∙ sym is in cc
no_refs n k (Some (Known base (Some (content.Relation tags members)) conflict)) s is = let e : kind.Relation ≡ kind.Node = (s _ refl).kinds.1 ∙ sym is in cc

-- a node's key has no references
pub nodes_have_no_refs : (t : TableValue) (k : Key) → IsSound t → kind.Node ≡ k.kind → refs_at (entry_of t k) ≡ []
nodes_have_no_refs t k s is = no_refs t.next k (entry_of t k) (s.entries k) is
