-- What the entries of a table say of a server.
use Rattle.std.specs.Prelude.{◌≡◌, Bool, true, not, Some}
use Rattle.osm_base.specs.Content.{refers}
use Rattle.osm_base.specs.declared.key.Key.{Key}
use Rattle.osm_base.specs.declared.content.Content.{Content}
use Rattle.osm_table.specs.declared.entry.Base.{Base}
use Rattle.osm_table.specs.declared.entry.Base.TheVariants.{New}
use Rattle.osm_table.specs.declared.entry.Entry.{Entry}
use Rattle.osm_table.specs.declared.entry.Entry.TheVariants.{Incomplete, Known}
use Rattle.osm_table.specs.Table.{TableValue, entry_of, is_new}
use Rattle.upload_order.specs.Kinds.{held_of}

-- the state that the edits began from, New where the entry is Incomplete
abbrev pub base_in : Entry → Base
base_in Incomplete = New
base_in (Known base mine conflict) = base

-- an entry that is Known, and not New
abbrev pub is_based : Entry → Bool
is_based e = not (is_new (base_in e))

-- some base holds a content that refers to the key
abbrev pub IsHeldUser : TableValue → Key → Type 0
IsHeldUser t r = (u : Key) × (e : Entry) × (b : Content) × (entry_of t u ≡ Some e) × (held_of e ≡ Some b) × (refers b r ≡ true)
