-- Whether what others changed is heard: what a download tells of an object in a newer version, or for the first time.
--
-- For example w5 was named here, and others gave it other nodes. After the download its base is their version, and it has their nodes
-- and the name; so both are heard. Where others named it too, their version stands against mine in a conflict. A download that took
-- their version as the base, left mine as it was and told nobody wouldn't be heard: the next upload would take their change back.
use Rattle.std.specs.Prelude.{◌≡◌, ◌<◌, Option, Some, None}
use Rattle.osm_base.specs.declared.key.Key.{Key}
use Rattle.osm_base.specs.declared.content.Content.{Content}
use Rattle.osm_table.specs.declared.entry.Base.{Base}
use Rattle.osm_table.specs.declared.entry.Entry.{Entry}
use Rattle.osm_table.specs.declared.entry.Entry.TheVariants.{Incomplete, Known}
use Rattle.osm_table.specs.declared.told.Told.{Told}
use Rattle.osm_table.specs.Table.{TableValue, entry_of, held_by, known_base, version_of}
use Rattle.editor_laws.specs.Parts.{KeepsParts}
use Rattle.editor_laws.specs.Telling.{IsToldSide}

-- What theirs has otherwise than the content before it is in mine: all of theirs, where there was none before.
abbrev pub HasChanges : Option Content → Option Content → Option Content → Type 0
HasChanges None before mine = mine ≡ None
HasChanges (Some theirs) None mine = mine ≡ Some theirs
HasChanges (Some theirs) (Some before) mine = (c : Content) × (mine ≡ Some c) × KeepsParts before theirs c

-- Theirs stands against mine in a conflict, or it is the base, and what it changed is in mine. Of an object that they deleted the
-- name alone may be left.
abbrev pub IsHeard : Base → Option Content → Option Entry → Type 0
IsHeard theirs before None = ⊥
IsHeard theirs before (Some Incomplete) = held_by theirs ≡ None
IsHeard theirs before (Some (Known base mine (Some conflict))) = conflict.theirs ≡ theirs
IsHeard theirs before (Some (Known base mine None)) = (base ≡ theirs) × HasChanges (held_by theirs) before mine

-- what the base of an entry holds
abbrev pub base_held : Option Entry → Option Content
base_held None = None
base_held (Some Incomplete) = None
base_held (Some (Known base mine conflict)) = held_by base

-- a version that is newer than what is known of the object, or the first of it
abbrev pub IsNews : Base → Option Entry → Type 0
IsNews theirs None = Unit {0}
IsNews theirs (Some Incomplete) = Unit {0}
IsNews theirs (Some (Known base mine conflict)) = version_of (known_base base conflict) < version_of theirs

-- All news of what the first table has that are told between are heard in the second.
abbrev pub HearsAll : (Key → Option Told) → TableValue → TableValue → Type 0
HearsAll told t u = (k : Key) (theirs : Base) → IsToldSide (told k) theirs → IsNews theirs (entry_of t k) → IsHeard theirs (base_held (entry_of t k)) (entry_of u k)
