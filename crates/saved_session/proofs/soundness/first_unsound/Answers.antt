use Rattle.std.proofs.Common.{◌∙◌, sym}
use Rattle.std.specs.Map.{keys_of}
use Rattle.saved_session.specs.Reading.{Session, table_of}
use Rattle.saved_session.proofs.KeyedTable.{found_in, unsound_here, unsound_later}
use Rattle.saved_session.proofs.soundness.first_unsound.Goals as goal

pub returns-then-not-branch : goal.returns-then-not-branch
returns-then-not-branch c =
    let s : Session = record { next = c.args.saved.now.next; entries = c.args.saved.now.entries } in
    unsound_here (table_of s) (keys_of s.entries) c.loop-i.i c.entry_at.result.0 c.entry_at.result.1.now c.in_ok-is_sound_at.field-0
    c.entry_at.ensures.key (sym (found_in s c.entry_at.result.0) ∙ c.entry_at.ensures.entry) c.in_ok-is_sound_at.ensures c.if-not-branch.true
    ∙ c.loop-i.invariant

pub loop-i-preserved : goal.loop-i-preserved
loop-i-preserved c =
    let s : Session = record { next = c.args.saved.now.next; entries = c.args.saved.now.entries } in
    unsound_later (table_of s) (keys_of s.entries) c.loop-i.i c.entry_at.result.0 c.entry_at.result.1.now c.in_ok-is_sound_at.field-0
    c.entry_at.ensures.key (sym (found_in s c.entry_at.result.0) ∙ c.entry_at.ensures.entry) c.in_ok-is_sound_at.ensures c.if-not-branch.false
    ∙ c.loop-i.invariant
