-- Worked examples of changes that a server refuses.
use Rattle.std.proofs.Common.{◌≡◌, ℕ, ℤ, pos, negsuc, cond, is_some, List, [], ◌∷◌, Option, Some, None, refl, ap}
use Rattle.std.specs.Prelude.{replicate}
use Rattle.std.specs.FinMap as fin
use Rattle.osm_base.specs.Rank.{rank_cmp}
use Rattle.osm_base.specs.Content.{node}
use Rattle.osm_base.specs.declared.content.Content.{Content}
use Rattle.osm_base.specs.declared.content.Content.TheVariants as content
use Rattle.osm_base.specs.declared.key.Kind.TheVariants as kind
use Rattle.osm_base.specs.declared.key.Key.{Key}
use Rattle.upload_order.specs.declared.change.Change.TheVariants.{Create}
use Rattle.upload_order.specs.World.{World, WorldEntry, stands, refusal, bad_ref, on_content}
use Rattle.upload_order.specs.declared.world.WorldRefusal.TheVariants.{Exists, BadRef, Unfit}

abbrev way : ℤ → Key
way id = record { kind = kind.Way; id = id }

abbrev here : Content
here = content.Node [] (record { lon = pos 0; lat = pos 0; on_map = refl })

-- a server that has n1, and w5 along it
abbrev objects : List (Key × WorldEntry)
objects = (node (pos 1), record { version = 1; content = Some here }) ∷ (way (pos 5), record { version = 2; content = Some (content.Way [] (pos 1 ∷ pos 1 ∷ [])) }) ∷ []

abbrev server : World
server = record { entries = fin.from_sorted objects; names = [] }

listed : fin.entries server.entries ≡ objects
listed = fin.entries-from_sorted rank_cmp objects tt

-- A new way can't be w5, which stands there. That it has no nodes is asked after that.
id_taken : refusal server (Create (way (negsuc 0)) (content.Way [] [])) (pos 5) ≡ Some Exists
id_taken = simp (fin.get-entries, listed) refl

-- as w6 it is refused for that
no_nodes : refusal server (Create (way (negsuc 0)) (content.Way [] [])) (pos 6) ≡ Some Unfit
no_nodes = simp (fin.get-entries, listed) refl

-- so many references to n-9, which the server doesn't know
abbrev unknown : ℕ → Content
unknown count = content.Way [] (replicate count (negsuc 8))

-- A way of two such nodes is refused for the first of them,
unknown_node : refusal server (Create (way (negsuc 0)) (unknown 2)) (pos 6) ≡ Some (BadRef (node (negsuc 8)))
unknown_node = simp (fin.get-entries, listed) refl

-- and one of 2,001, which are too many, for their number: what it refers to is asked after that.
w6_is_free : stands server (way (pos 6)) ≡ None
w6_is_free = simp (fin.get-entries, listed) refl

too_many_nodes : refusal server (Create (way (negsuc 0)) (unknown 2001)) (pos 6) ≡ Some Unfit
too_many_nodes =
    ap (λ (o : Option WorldEntry). cond (is_some o) (Some Exists) (on_content server (unknown 2001))) w6_is_free

bad_beside : bad_ref server (unknown 2001) ≡ Some (node (negsuc 8))
bad_beside = refl
