-- Worked examples, on which the definitions compute.
use Rattle.std.proofs.Common.{◌≡◌, ℕ, pos, List, [], ◌∷◌, Option, Some, None, refl}
use Rattle.std.specs.Prelude.{codes}
use Rattle.std.specs.Fmt.{digits}
use Rattle.std.specs.Str.{chars}
use lib.Utf8.{encode}
use Rattle.osm_base.specs.Meta.{empty_meta}
use Rattle.osm_base.specs.declared.content.Content.{Content}
use Rattle.osm_base.specs.declared.content.Content.TheVariants.{Way}
use Rattle.osm_base.specs.declared.key.Kind.TheVariants as kind
use Rattle.osm_base.specs.declared.key.Key.{Key}
use Rattle.osm_table.specs.declared.entry.Base.{Base}
use Rattle.osm_table.specs.declared.entry.Base.TheVariants.{Live, Gone}
use Rattle.osm_table.specs.declared.entry.Conflict.{Conflict}
use Rattle.osm_table.specs.declared.entry.Why.TheVariants.{Changed, Held, Withdrawn}
use Rattle.osm_table.specs.declared.entry.Entry.{Entry}
use Rattle.osm_table.specs.declared.entry.Entry.TheVariants.{Incomplete, Known}
use Rattle.opl_text.specs.Text.{escaped}
use Rattle.opl_text.specs.Time.{time_written}
use Rattle.opl_text.specs.Written.{hex_written, spelling}
use Rattle.opl_line.specs.Written.{written}
use Rattle.conflict.specs.Shown.{shown}

abbrev street : Key
street = record { kind = kind.Way; id = pos 5 }

-- a way over one node, with a value of the tag `k`
abbrev line : List ℕ → Content
line value = Way ((codes "k", value) ∷ []) (pos 1 ∷ [])

abbrev base : Base
base = Live 1 (line (codes "old")) empty_meta

abbrev with_conflict : Option Content → Conflict → Entry
with_conflict mine conflict = Known base mine (Some conflict)

-- mine has the version of the base, theirs its own
changed_shown : shown street (Some (with_conflict (Some (line (codes "mine"))) (record { why = Changed; theirs = Live 2 (line (codes "theirs")) empty_meta })))
    ≡ codes "conflict w5 changed\nbase w5 v1 dV c0 t i0 u Tk=old Nn1\nmine w5 v1 dV c0 t i0 u Tk=mine Nn1\ntheirs w5 v2 dV c0 t i0 u Tk=theirs Nn1\n"
unfolding written digits escaped spelling hex_written encode chars time_written
changed_shown = refl

-- deleted here, and changed at the server
deleted_shown : shown street (Some (with_conflict None (record { why = Changed; theirs = Live 2 (line (codes "theirs")) empty_meta })))
    ≡ codes "conflict w5 changed\nbase w5 v1 dV c0 t i0 u Tk=old Nn1\nmine w5 v1 dD c0 t i0 u T N\ntheirs w5 v2 dV c0 t i0 u Tk=theirs Nn1\n"
unfolding written digits escaped spelling hex_written encode chars time_written
deleted_shown = refl

-- deleted at the server, and still used here
held_shown : shown street (Some (with_conflict (Some (line (codes "old"))) (record { why = Held; theirs = Gone 2 empty_meta })))
    ≡ codes "conflict w5 held\nbase w5 v1 dV c0 t i0 u Tk=old Nn1\nmine w5 v1 dV c0 t i0 u Tk=old Nn1\ntheirs w5 v2 dD c0 t i0 u T N\n"
unfolding written digits escaped spelling hex_written encode chars time_written
held_shown = refl

-- deleted here, and back
withdrawn_shown : shown street (Some (with_conflict (Some (line (codes "old"))) (record { why = Withdrawn; theirs = base })))
    ≡ codes "conflict w5 withdrawn\nbase w5 v1 dV c0 t i0 u Tk=old Nn1\nmine w5 v1 dV c0 t i0 u Tk=old Nn1\ntheirs w5 v1 dV c0 t i0 u Tk=old Nn1\n"
unfolding written digits escaped spelling hex_written encode chars time_written
withdrawn_shown = refl

-- what isn't in conflict isn't shown
others : (shown street None ≡ []) × (shown street (Some Incomplete) ≡ []) × (shown street (Some (Known base None None)) ≡ [])
others = (refl, refl, refl)
