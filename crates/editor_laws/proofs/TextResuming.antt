-- A saved session that is read.
use Rattle.std.proofs.Common.{◌≡◌, ℕ, List, Option, Some, None, Result, Ok, Err, refl}
use Rattle.osm_base.specs.Meta.{empty_meta}
use Rattle.osm_base.specs.declared.key.Key.{Key}
use Rattle.osm_base.specs.declared.meta.Meta.{Meta}
use Rattle.osm_base.specs.declared.content.Content.{Content}
use Rattle.osm_table.specs.declared.entry.Base.{Base}
use Rattle.osm_table.specs.declared.entry.Base.TheVariants as bases
use Rattle.osm_table.specs.declared.entry.Entry.{Entry}
use Rattle.osm_table.specs.declared.entry.Entry.TheVariants as entry
use Rattle.osm_table.specs.Table.{TableValue, IfContent}
use Rattle.opl_line.specs.declared.mode.Mode.TheVariants.{Import}
use Rattle.opl_line.specs.declared.object.OplObject.{OplObject}
use Rattle.opl_line.specs.declared.object.LineKind.TheVariants.{Object}
use Rattle.opl_line.proofs.Readable.{read_kind}
use Rattle.saved_session.specs.declared.fault.SavedFault.{SavedFault}
use Rattle.saved_session.specs.Resumed.{saved_table}
use Rattle.saved_session.specs.Saved.{mine_version}
use Rattle.saved_session.specs.Told.{BaseHasLine, EntryHasLines, HasLine}
use Rattle.saved_session.proofs.Read.{given_lines}
use Rattle.download.specs.Tell.{told_side}
use Rattle.editor_laws.specs.Texts.{HasTexts, IsTextBase, IsTextEntry, IsTextSide, IsTextTable}
use Rattle.editor_laws.proofs.TextFiles.{object_texts}

-- An object that a line tells has texts that may be written, and so has what is made of such ones.

line_texts : (key : Key) (version : ℕ) (side : Option Content) (meta : Meta) → HasLine key version side meta → IsTextSide (told_side version side meta)
line_texts key version side meta (line, is) =
    let o : OplObject = record { key = key; version = version; side = side; meta = meta } in
    object_texts Import o (read_kind Import line (Object o) is)

base_texts : (key : Key) (base : Base) → BaseHasLine key base → IsTextBase base
base_texts key bases.New h = tt
base_texts key (bases.Live version content meta) h = line_texts key version (Some content) meta h
base_texts key (bases.Gone version meta) h = line_texts key version None meta h

own_texts : (key : Key) (mine : Option Content) → IfContent mine (λ c. HasLine key (mine_version key.id) (Some c) empty_meta) → IfContent mine HasTexts
own_texts key None h = tt
own_texts key (Some c) h = (line_texts key (mine_version key.id) (Some c) empty_meta h).0

entry_texts : (key : Key) (e : Entry) → EntryHasLines key e → IsTextEntry e
entry_texts key entry.Incomplete h = tt
entry_texts key (entry.Known base mine None) h = (base_texts key base h.1.base_has, own_texts key mine h.1.mine_has, tt)
entry_texts key (entry.Known base mine (Some c)) h = (base_texts key base h.1.base_has, own_texts key mine h.1.mine_has, base_texts key c.theirs h.1.theirs_has.1)

abbrev pub HasTable : Result TableValue SavedFault → Type 0
HasTable (Ok t) = IsTextTable t
HasTable (Err fault) = Unit {0}

has_table : (r : Result TableValue SavedFault) → ((t : TableValue) → r ≡ Ok t → IsTextTable t) → HasTable r
has_table (Ok t) h = h t refl
has_table (Err fault) h = tt

-- The table of a text has texts that may be written.
pub saved_texts : (limit : ℕ) (bytes : List ℕ) → HasTable (saved_table limit bytes)
saved_texts limit bytes = has_table (saved_table limit bytes) (λ t is. record { entries = λ k e there. entry_texts k e ((given_lines limit bytes t is).entries k e there) })
