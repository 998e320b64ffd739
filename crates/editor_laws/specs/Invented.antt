-- Whether a job makes edits that nobody asked for.
--
-- For example `tag n9 Ta=1` edits n9 alone, and `download` edits nothing: what is edited after it was edited before. So is what
-- comes back since something that is told refers to it: it was deleted here.
use Rattle.std.specs.Prelude.{◌≡◌, ◌⊎◌, ℕ, Bool, true, false, Option, Some, None}
use Rattle.osm_base.specs.declared.key.Key.{Key}
use Rattle.osm_table.specs.declared.entry.Base.TheVariants.{New}
use Rattle.osm_table.specs.declared.entry.Entry.{Entry}
use Rattle.osm_table.specs.Table.{TableValue, base_of, entry_of}
use Rattle.tool_api.specs.declared.job.Job.{Job}
use Rattle.tool_api.specs.Plain.{plain}
use Rattle.editor_laws.specs.Kept.{is_edited}
use Rattle.editor_laws.specs.Listed.{lists}

-- it was there, and edited
abbrev pub WasEdited : Option Entry → Type 0
WasEdited None = ⊥
WasEdited (Some e) = is_edited e ≡ true

-- it wasn't there, and no server knows it: it is new
abbrev pub IsMade : Option Entry → Entry → Type 0
IsMade before e = (before ≡ None) × (base_of e ≡ Some New)

-- What is edited in the second table, and of which it isn't said that it is changed, was edited in the first, or is new.
abbrev pub InventsNone : (Key → Bool) → TableValue → TableValue → Type 0
InventsNone is_said t u = (k : Key) (e : Entry) → entry_of u k ≡ Some e → is_edited e ≡ true → is_said k ≡ false → WasEdited (entry_of t k) ⊎ IsMade (entry_of t k) e

abbrev pub JobInventsNone : ℕ → Job → TableValue → Type 0
JobInventsNone limit j t = InventsNone (lists j t) t (plain j t limit).table
