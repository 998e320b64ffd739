-- What an upload needs of a server at the objects that it sends, and what it makes of them, whatever the server has elsewhere.
--
-- For example where n1 of a whole town was moved and n2 deleted, a server that has n1 and n2 as they were downloaded, and in
-- which nothing else refers to n2, takes both changes; all other objects of the town may have changed since.
use Rattle.std.specs.Prelude.{◌≡◌, ◌&&◌, Bool, true, false, Some, None, ◌⊎◌}
use Rattle.osm_base.specs.Content.{refers}
use Rattle.osm_base.specs.declared.key.Key.{Key}
use Rattle.osm_base.specs.declared.content.Content.{Content}
use Rattle.osm_table.specs.declared.entry.Entry.{Entry}
use Rattle.osm_table.specs.Table.{TableValue, entry_of, mine_of, version_of, is_changed}
use Rattle.renamed_content.specs.Renamed.{renamed}
use Rattle.upload_order.specs.Rename.{meant, called}
use Rattle.upload_order.specs.Kinds.{held_of, at_key, is_falling, is_rising, is_sent}
use Rattle.upload_order.specs.Bases.{base_in, is_based}
use Rattle.upload_order.specs.World.{World, stands, content_at}

-- the server has the object, and the upload changes or deletes it
abbrev pub is_replaced : Entry → Bool
is_replaced e = is_based e && is_changed e

-- The world has the base of each object that is changed or deleted.
abbrev pub HoldsSent : World → TableValue → Type 0
HoldsSent w t = (k : Key) (e : Entry) → entry_of t k ≡ Some e → is_replaced e ≡ true → stands w k ≡ Some (record { version = version_of (base_in e); content = held_of e })

-- What a sent content refers to stands in the world with a content, unless it is edited itself.
abbrev pub BacksSent : World → TableValue → Type 0
BacksSent w t = (k r : Key) (e : Entry) (c : Content) → entry_of t k ≡ Some e → is_sent e ≡ true → mine_of e ≡ Some c → refers c r ≡ true → at_key t is_changed r ≡ false → (d : Content) × (content_at w r ≡ Some d)

-- No content that is neither changed nor deleted refers to a falling key.
abbrev pub AloneSent : World → TableValue → Type 0
AloneSent w t = (q k : Key) (c : Content) → at_key t is_replaced q ≡ false → content_at w q ≡ Some c → at_key t is_falling k ≡ true → refers c k ≡ false

-- The world w has the edits of the table, under the names that its keys were given; all else is as in w0, except where new
-- objects stand, under keys that the table doesn't have.
pub record IsSentTo (t : TableValue) (w0 w : World) : Type 0 where
  pub living : (k : Key) (e : Entry) (c : Content) → entry_of t k ≡ Some e → is_changed e ≡ true → mine_of e ≡ Some c → (q : Key) × (meant w.names k ≡ Some q) × (content_at w q ≡ Some (renamed (called w.names) c))
  pub deleted : (k : Key) (e : Entry) → entry_of t k ≡ Some e → is_changed e ≡ true → mine_of e ≡ None → content_at w k ≡ None
  pub others : (q : Key) → at_key t is_replaced q ≡ false → (stands w q ≡ stands w0 q) ⊎ ((k : Key) × (at_key t is_rising k ≡ true) × (meant w.names k ≡ Some q) × (entry_of t q ≡ None))
