-- What a table takes in with a download: its bases, theirs and keys.
--
-- For example where the way w5 is told live in version 2 with the nodes n1 and n9, a table with w5 in version 1 may
-- have that version 2 as its base then, and may have got n9 as a key.
use Rattle.std.specs.Prelude.{◌≡◌, ◌⊎◌, ℕ, true, false, Option, Some, None}
use Rattle.osm_base.specs.declared.key.Key.{Key}
use Rattle.osm_base.specs.declared.content.Content.{Content}
use Rattle.osm_base.specs.declared.meta.Meta.{Meta}
use Rattle.osm_base.specs.Content.{refers}
use Rattle.osm_table.specs.declared.entry.Base.{Base}
use Rattle.osm_table.specs.declared.entry.Base.TheVariants as base
use Rattle.osm_table.specs.declared.entry.Entry.{Entry}
use Rattle.osm_table.specs.declared.told.Told.{Told}
use Rattle.osm_table.specs.declared.told.Told.TheVariants.{Mentioned, Live, Gone}
use Rattle.osm_table.specs.Told.{ToldValue, told_at}
use Rattle.osm_table.specs.Table.{TableValue, entry_of, held_by, is_new}
use Rattle.tool_api.specs.declared.job.Job.TheVariants.{Merge}
use Rattle.tool_api.specs.Plain.{plain}
use Rattle.upload_order.specs.Rename.{is_positive}
use Rattle.editor_laws.specs.Bases.{HasSide}

-- the base is what is told of the key
abbrev pub IsToldSide : Option Told → Base → Type 0
IsToldSide None b = ⊥
IsToldSide (Some Mentioned) b = ⊥
IsToldSide (Some (Live version content meta)) b = base.Live version content meta ≡ b
IsToldSide (Some (Gone version meta)) b = base.Gone version meta ≡ b

-- each base and theirs of the second entry is one of the first, or is what is told of its key, New excepted
abbrev pub TakesSides : Option Entry → Option Told → Option Entry → Type 0
TakesSides o told p = (b : Base) → is_new b ≡ false → HasSide p b → HasSide o b ⊎ IsToldSide told b

-- the same of each key
abbrev pub TakesEachSide : TableValue → ToldValue → TableValue → Type 0
TakesEachSide t told u = (k : Key) → TakesSides (entry_of t k) (told_at told k) (entry_of u k)

-- Where a key of a merged table comes from: the old table, what is told, or a reference of what is told live or of what
-- a base or theirs of the old table held.
pub data IsTakenKey (t : TableValue) (told : ToldValue) (k : Key) : Type 0 where
  was_there : (e : Entry) → entry_of t k ≡ Some e → IsTakenKey t told k
  is_told : (s : Told) → told_at told k ≡ Some s → IsTakenKey t told k
  told_refers : (j : Key) (version : ℕ) (content : Content) (meta : Meta) → told_at told j ≡ Some (Live version content meta) → refers content k ≡ true → IsTakenKey t told k
  base_refers : (j : Key) (b : Base) (content : Content) → is_new b ≡ false → HasSide (entry_of t j) b → held_by b ≡ Some content → refers content k ≡ true → IsTakenKey t told k

-- Each base and theirs of the second table is one of the first under that key, or is what is told of the key, New
-- excepted; each positive key comes from the first table or from what is told.
pub record TakesBases (t : TableValue) (told : ToldValue) (u : TableValue) : Type 0 where
  pub sides : TakesEachSide t told u
  pub keys : (k : Key) (e : Entry) → is_positive k.id ≡ true → entry_of u k ≡ Some e → IsTakenKey t told k

-- the table after a download that tells this, with at most so many objects in it
abbrev pub after_download : TableValue → ToldValue → ℕ → TableValue
after_download t told limit = (plain (Merge told) t limit).table
