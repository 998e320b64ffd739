-- Which entries lines of a file tell: those with a written form that spells them.
use Rattle.std.proofs.Common.{◌≡◌, ℕ, false, Option, Some, None, refl}
use Rattle.osm_base.specs.declared.key.Key.{Key}
use Rattle.osm_base.specs.declared.meta.Meta.{Meta}
use Rattle.osm_base.specs.declared.content.Content.{Content}
use Rattle.osm_base.specs.Meta.{empty_meta}
use Rattle.osm_table.specs.Table.{IfContent, is_new}
use Rattle.osm_table.specs.declared.entry.Base.{Base}
use Rattle.osm_table.specs.declared.entry.Base.TheVariants.{New, Live, Gone}
use Rattle.osm_table.specs.declared.entry.Entry.{Entry}
use Rattle.osm_table.specs.declared.entry.Entry.TheVariants.{Incomplete, Known}
use Rattle.opl_line.specs.declared.mode.Mode.TheVariants.{Import}
use Rattle.opl_line.specs.declared.object.LineKind.TheVariants.{Object}
use Rattle.opl_line.specs.Writable.{IsWritable}
use Rattle.opl_line.specs.Written.{object_with, written}
use Rattle.opl_line.proofs.Again.{written_spells}
use Rattle.opl_line.proofs.Back.{spelled_is_read}
use Rattle.opl_line.proofs.Readable.{read_kind}
use Rattle.saved_session.specs.Saved.{mine_version}
use Rattle.saved_session.specs.Told.{BaseHasLine, EntryHasLines, HasLine}
use Rattle.saved_session.proofs.Writable.{IsBaseWritable, IsSavableEntry, IsServerWritable}

line_writable : (key : Key) (version : ℕ) (side : Option Content) (meta : Meta) → HasLine key version side meta → IsWritable key version side meta
line_writable key version side meta (line, is) = (read_kind Import line (Object (object_with key version side meta)) is).0

writable_line : (key : Key) (version : ℕ) (side : Option Content) (meta : Meta) → IsWritable key version side meta → HasLine key version side meta
writable_line key version side meta good =
    (written key version side meta, spelled_is_read Import (written key version side meta) (object_with key version side meta) (written_spells Import key version side meta good tt))

base_writable : (key : Key) (base : Base) → BaseHasLine key base → IsBaseWritable key base
base_writable key New h = tt
base_writable key (Live version content meta) h = line_writable key version (Some content) meta h
base_writable key (Gone version meta) h = line_writable key version None meta h

base_line : (key : Key) (base : Base) → IsBaseWritable key base → BaseHasLine key base
base_line key New h = tt
base_line key (Live version content meta) h = writable_line key version (Some content) meta h
base_line key (Gone version meta) h = writable_line key version None meta h

mine_writable : (key : Key) (mine : Option Content) → IfContent mine (λ c. HasLine key (mine_version key.id) (Some c) empty_meta) → IfContent mine (λ c. IsWritable key (mine_version key.id) (Some c) empty_meta)
mine_writable key None h = tt
mine_writable key (Some c) h = line_writable key (mine_version key.id) (Some c) empty_meta h

mine_line : (key : Key) (mine : Option Content) → IfContent mine (λ c. IsWritable key (mine_version key.id) (Some c) empty_meta) → IfContent mine (λ c. HasLine key (mine_version key.id) (Some c) empty_meta)
mine_line key None h = tt
mine_line key (Some c) h = writable_line key (mine_version key.id) (Some c) empty_meta h

server_writable : (key : Key) (theirs : Base) → (is_new theirs ≡ false) × BaseHasLine key theirs → IsServerWritable key theirs
server_writable key New h = absurd cc
server_writable key (Live version content meta) h = line_writable key version (Some content) meta h.1
server_writable key (Gone version meta) h = line_writable key version None meta h.1

server_line : (key : Key) (theirs : Base) → IsServerWritable key theirs → (is_new theirs ≡ false) × BaseHasLine key theirs
server_line key New h = absurd h
server_line key (Live version content meta) h = (refl, writable_line key version (Some content) meta h)
server_line key (Gone version meta) h = (refl, writable_line key version None meta h)

pub entry_savable : (key : Key) (e : Entry) → EntryHasLines key e → IsSavableEntry key e
entry_savable key Incomplete h = (h.0, tt)
entry_savable key (Known base mine None) h = (h.0, record { base_is = base_writable key base h.1.base_has; mine_is = mine_writable key mine h.1.mine_has; theirs_is = tt })
entry_savable key (Known base mine (Some c)) h =
    (h.0, record { base_is = base_writable key base h.1.base_has; mine_is = mine_writable key mine h.1.mine_has; theirs_is = server_writable key c.theirs h.1.theirs_has })

pub entry_lines_are : (key : Key) (e : Entry) → IsSavableEntry key e → EntryHasLines key e
entry_lines_are key Incomplete h = (h.0, tt)
entry_lines_are key (Known base mine None) h = (h.0, record { base_has = base_line key base h.1.base_is; mine_has = mine_line key mine h.1.mine_is; theirs_has = tt })
entry_lines_are key (Known base mine (Some c)) h =
    (h.0, record { base_has = base_line key base h.1.base_is; mine_has = mine_line key mine h.1.mine_is; theirs_has = server_line key c.theirs h.1.theirs_is })
