-- What is written of an object is read again.
use Rattle.std.proofs.Common.{◌≡◌, ℕ, false, ◌++◌, Option, Some, None, refl}
use Rattle.std.specs.Prelude.{codes}
use Rattle.std.proofs.lemmas.Bool.{eq-eqb}
use Rattle.osm_base.specs.Meta.{empty_meta}
use Rattle.osm_base.specs.declared.key.Key.{Key}
use Rattle.osm_base.specs.declared.meta.Meta.{Meta}
use Rattle.osm_base.specs.declared.content.Content.{Content}
use Rattle.osm_base.proofs.RisingKeys.{key_itself}
use Rattle.osm_table.specs.Same.{same_mine}
use Rattle.osm_table.specs.Table.{held_by}
use Rattle.osm_table.specs.declared.entry.Base.{Base}
use Rattle.osm_table.specs.declared.entry.Base.TheVariants as bases
use Rattle.opl_line.specs.declared.mode.Mode.TheVariants.{Import}
use Rattle.opl_line.specs.Written.{written, object_with}
use Rattle.opl_line.specs.Writable.{IsWritable}
use Rattle.opl_line.proofs.Back.{spelled_is_read}
use Rattle.opl_line.proofs.Again.{written_spells}
use Rattle.saved_session.specs.Saved.{server_written, own_written, mine_version}
use Rattle.saved_session.specs.Reading.{object_text, object_behind, base_at, mine_at, theirs_at}
use Rattle.saved_session.proofs.Writable.{IsServerWritable}
use Rattle.saved_session.specs.declared.words.BaseWord.TheVariants.{Live, Gone}
use Rattle.saved_session.proofs.WordsAgain.{same_bytes}

object_again : (key : Key) (version : ℕ) (side : Option Content) (meta : Meta) → IsWritable key version side meta → object_text key (written key version side meta) ≡ Some (object_with key version side meta)
unfolding object_text
object_again key version side meta good =
    rw (spelled_is_read Import (written key version side meta) (object_with key version side meta) (written_spells Import key version side meta good tt), key_itself key, same_bytes (written key version side meta)) refl

pub live_again : (key : Key) (version : ℕ) (content : Content) (meta : Meta) → IsWritable key version (Some content) meta →
    base_at key Live (codes "base " ++ server_written key (bases.Live version content meta)) ≡ Some (bases.Live version content meta)
unfolding base_at object_behind
live_again key version content meta good = rw (object_again key version (Some content) meta good) refl

pub gone_again : (key : Key) (version : ℕ) (meta : Meta) → IsWritable key version None meta → base_at key Gone (codes "base " ++ server_written key (bases.Gone version meta)) ≡ Some (bases.Gone version meta)
unfolding base_at object_behind
gone_again key version meta good = rw (object_again key version None meta good) refl

pub own_again : (key : Key) (base : Base) (c : Content) → IsWritable key (mine_version key.id) (Some c) empty_meta → same_mine (Some c) (held_by base) ≡ false →
    mine_at key base (codes "mine " ++ own_written key (Some c)) ≡ Some (Some c)
unfolding mine_at object_behind
own_again key base c good other =
    rw (object_again key (mine_version key.id) (Some c) empty_meta good, other, eq-eqb (mine_version key.id) (mine_version key.id) refl) refl

pub theirs_again : (key : Key) (theirs : Base) → IsServerWritable key theirs → theirs_at key (codes "theirs " ++ server_written key theirs) ≡ Some theirs
unfolding theirs_at object_behind
theirs_again key bases.New good = absurd good
theirs_again key (bases.Live version content meta) good = rw (object_again key version (Some content) meta good) refl
theirs_again key (bases.Gone version meta) good = rw (object_again key version None meta good) refl
