-- What an upload sends of what was edited.
--
-- For example where n1 was moved, n-1 made and w5 deleted, the plan has a Modify of n1 with its content, a Create of n-1 and a Delete
-- of w5, and nothing of other objects.
use Rattle.std.specs.Prelude.{◌≡◌, ◌⊎◌, ℕ, true, List, [], ◌∷◌, Some, None}
use Rattle.std.specs.List.{AllByRecursion}
use Rattle.osm_base.specs.declared.key.Key.{Key}
use Rattle.osm_table.specs.declared.entry.Entry.{Entry}
use Rattle.osm_table.specs.declared.entry.Entry.TheVariants.{Incomplete, Known}
use Rattle.osm_table.specs.Table.{TableValue, entry_of}
use Rattle.upload_order.specs.declared.change.Change.{Change}
use Rattle.upload_order.specs.declared.change.Change.TheVariants.{Create, Modify, Delete}
use Rattle.upload_order.specs.Kinds.{at_key}
use Rattle.upload_order.specs.Plan.{plan, up_known}
use Rattle.editor_laws.specs.Kept.{is_edited}

-- the change is one of those
abbrev pub IsAmong : Change → List Change → Type 0
IsAmong c [] = ⊥
IsAmong c (d ∷ ds) = (d ≡ c) ⊎ IsAmong c ds

-- The changes bring what the entry is: a Create or a Modify with its content, or a Delete of an object that doesn't live.
abbrev pub Bring : List Change → Key → Entry → Type 0
Bring cs k Incomplete = ⊥
Bring cs k (Known base (Some c) conflict) = IsAmong (up_known k base c) cs
Bring cs k (Known base None conflict) = (version : ℕ) × IsAmong (Delete k version) cs

-- The plan brings all that is edited.
abbrev pub SendsEdits : TableValue → Type 0
SendsEdits t = (k : Key) (e : Entry) → entry_of t k ≡ Some e → is_edited e ≡ true → Bring (plan t) k e

-- the object of a change
abbrev pub object_of : Change → Key
object_of (Create k c) = k
object_of (Modify k version c) = k
object_of (Delete k version) = k

-- Each change of the plan is one of an object that is edited.
abbrev pub SendsNoMore : TableValue → Type 0
SendsNoMore t = AllByRecursion (λ c. at_key t is_edited (object_of c) ≡ true) (plan t)
