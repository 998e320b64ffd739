use Rattle.std.proofs.Common.{refl, map, arith}
use Rattle.std.proofs.lemmas.Bool.Decides.{nat_tests}
use Rattle.osm_base.specs.declared.key.Key.{Key}
use Rattle.osm_table.specs.declared.entry.Entry.{Entry}
use Rattle.saved_session.specs.Reading.{Session, table_of}
use Rattle.saved_session.proofs.ByKey.{keys_len}
use Rattle.saved_session.proofs.Within.{unsound_read, full_read, patch_read}
use Rattle.saved_session.proofs.reading.patch_within.Goals as goal

pub returns-in-Some : goal.returns-in-Some
returns-in-Some c =
    let s : Session = record { next = c.args.saved.now.next; entries = c.args.saved.now.entries } in
    unsound_read c.args.limit c.args.ds.now s (table_of s) (map (λ (e : Key × Entry). e.0) s.entries) c.in_ok-key.field-0 c.in-Some.key
    (record { sorted = c.requires; table = refl; keys_are = refl; first = c.in_ok-key.ensures }) c.in-Some.is

pub returns-then-limit-len : goal.returns-then-limit-len
returns-then-limit-len c =
    let s : Session = record { next = c.args.saved.now.next; entries = c.args.saved.now.entries } in
    full_read c.args.limit c.args.ds.now s (table_of s) (map (λ (e : Key × Entry). e.0) s.entries) c.in_ok-key.field-0
    (record { sorted = c.requires; table = refl; keys_are = refl; first = c.in_ok-key.ensures })
    c.in-None.is (grind (arith, nat_tests, c.if-limit-len.true, c.len.ensures.len, keys_len s.entries))

pub returns-in_ok-patch_to_saved-in-None : goal.returns-in_ok-patch_to_saved-in-None
returns-in_ok-patch_to_saved-in-None c =
    let s : Session = record { next = c.args.saved.now.next; entries = c.args.saved.now.entries } in
    patch_read c.args.limit c.args.ds.now s (table_of s) (map (λ (e : Key × Entry). e.0) s.entries) c.in_ok-key.field-0 c.in_ok-patch_to_saved-in-None.field-0
    (record { sorted = c.requires; table = refl; keys_are = refl; first = c.in_ok-key.ensures })
    c.in-None.is (grind (arith, nat_tests, c.if-limit-len.false, c.len.ensures.len, keys_len s.entries)) c.in_ok-patch_to_saved-in-None.ensures
