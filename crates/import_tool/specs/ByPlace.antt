-- What an import leaves, object by object and key by key, with no walk.
use Rattle.std.specs.Prelude.{◌≡◌, ℕ, ◌+◌, false, List, length, slice_get, Some, None}
use Rattle.osm_base.specs.declared.key.Key.{Key}
use Rattle.osm_table.specs.declared.entry.Base.TheVariants.{New}
use Rattle.osm_table.specs.declared.entry.Entry.TheVariants.{Known}
use Rattle.osm_table.specs.Table.{TableValue, entry_of}
use Rattle.renamed_content.specs.Renamed.{renamed}
use Rattle.tool_api.specs.declared.new_objects.NewObject.{NewObject}
use Rattle.tool_api.specs.Checks.{is_named}
use Rattle.tool_api.specs.Changes.{Outcome, new_key}
use Rattle.tool_api.specs.Import.{key_named}

-- What an import of objects into a table comes to.
pub record IsImported (t : TableValue) (objects : List NewObject) (new : Outcome) : Type 0 where
  -- the object at each place has the key with the number that follows, and this is what its key in the file becomes
  pub keys : (i : ℕ) (o : NewObject) → slice_get objects i ≡ Some o → slice_get new.keys i ≡ Some (new_key o.key.kind (t.next + i))
  pub named : (i : ℕ) (o : NewObject) → slice_get objects i ≡ Some o → key_named t.next objects o.key ≡ new_key o.key.kind (t.next + i)
  -- there the table has its content, with what its references have become
  pub entries : (i : ℕ) (o : NewObject) → slice_get objects i ≡ Some o → entry_of new.table (new_key o.key.kind (t.next + i)) ≡ Some (Known New (Some (renamed (key_named t.next objects) o.content)) None)
  -- all else is as it was, but for the number
  pub others : (key : Key) → is_named new.keys key ≡ false → entry_of new.table key ≡ entry_of t key
  pub number : new.table.next ≡ t.next + length objects
