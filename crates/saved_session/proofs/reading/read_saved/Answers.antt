use Rattle.std.proofs.Common.{◌≡◌, ◌∙◌, Ok, sym, subst}
use Rattle.std.specs.Prelude.{T}
use Rattle.std.specs.FinMap.Entries.{is_sorted}
use Rattle.std.proofs.lemmas.Result.{IfOk-weaker}
use Rattle.osm_base.specs.Rank.{rank_cmp}
use Rattle.dataset.specs.Patch.{StandsBefore, after_of}
use Rattle.dataset.specs.Sound.{IsSound}
use Rattle.opl_file.specs.Cut.{lines_of}
use Rattle.saved_session.specs.Reading.{Entries, Session, session_from}
use Rattle.saved_session.specs.Resumed.{Resumes}
use Rattle.saved_session.specs.Told.{StandsIn}
use Rattle.saved_session.proofs.Read.{IsResumed, answer_given, patch_of_session}
use Rattle.saved_session.proofs.Standing.{stood}
use Rattle.saved_session.proofs.reading.read_saved.Goals as goal

pub new-requires : goal.new-requires
new-requires c =
    let s : Session = record { next = c.in_ok-saved.saved.next; entries = c.in_ok-saved.saved.entries.items } in
    (stood 1 (lines_of c.args.bytes.now) s c.in_ok-saved.ensures).sorted

pub patch_within-requires : goal.patch_within-requires
patch_within-requires c =
    let s : Session = record { next = c.in_ok-saved.saved.next; entries = c.in_ok-saved.saved.entries.items } in
    subst (λ (es : Entries). T (is_sorted rank_cmp es)) (sym c.in_ok-table.ensures.entries) (stood 1 (lines_of c.args.bytes.now) s c.in_ok-saved.ensures).sorted

pub returns-clause-value : goal.returns-clause-value
returns-clause-value c =
    let s : Session = record { next = c.in_ok-table.table.next; entries = c.in_ok-table.table.entries } in
    let read : session_from 1 (lines_of c.args.bytes.now) ≡ Ok s = c.in_ok-saved.ensures ∙ (λ i. Ok (record { next = sym c.in_ok-table.ensures.next i; entries = sym c.in_ok-table.ensures.entries i })) in
    subst (Resumes c.patch_within.result) (sym (patch_of_session c.args.limit c.args.ds.now c.args.bytes.now s read)) c.patch_within.ensures

pub returns-clause-stands : goal.returns-clause-stands
returns-clause-stands c =
    let s : Session = record { next = c.in_ok-table.table.next; entries = c.in_ok-table.table.entries } in
    let read : session_from 1 (lines_of c.args.bytes.now) ≡ Ok s = c.in_ok-saved.ensures ∙ (λ i. Ok (record { next = sym c.in_ok-table.ensures.next i; entries = sym c.in_ok-table.ensures.entries i })) in
    IfOk-weaker c.patch_within.result (IsResumed c.args.ds.now c.args.bytes.now) (λ patch. StandsBefore patch c.args.ds.now) (λ patch h. h.stands)
    (answer_given c.args.limit c.args.ds.now c.args.bytes.now s c.patch_within.result read c.patch_within.ensures)

pub returns-clause-sound : goal.returns-clause-sound
returns-clause-sound c =
    let s : Session = record { next = c.in_ok-table.table.next; entries = c.in_ok-table.table.entries } in
    let read : session_from 1 (lines_of c.args.bytes.now) ≡ Ok s = c.in_ok-saved.ensures ∙ (λ i. Ok (record { next = sym c.in_ok-table.ensures.next i; entries = sym c.in_ok-table.ensures.entries i })) in
    IfOk-weaker c.patch_within.result (IsResumed c.args.ds.now c.args.bytes.now) (λ patch. IsSound (after_of patch c.args.ds.now)) (λ patch h. h.sound)
    (answer_given c.args.limit c.args.ds.now c.args.bytes.now s c.patch_within.result read c.patch_within.ensures)

pub returns-clause-saved : goal.returns-clause-saved
returns-clause-saved c =
    let s : Session = record { next = c.in_ok-table.table.next; entries = c.in_ok-table.table.entries } in
    let read : session_from 1 (lines_of c.args.bytes.now) ≡ Ok s = c.in_ok-saved.ensures ∙ (λ i. Ok (record { next = sym c.in_ok-table.ensures.next i; entries = sym c.in_ok-table.ensures.entries i })) in
    IfOk-weaker c.patch_within.result (IsResumed c.args.ds.now c.args.bytes.now) (λ patch. StandsIn (after_of patch c.args.ds.now) (lines_of c.args.bytes.now)) (λ patch h. h.saved)
    (answer_given c.args.limit c.args.ds.now c.args.bytes.now s c.patch_within.result read c.patch_within.ensures)
