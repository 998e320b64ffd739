-- What a text gives: a sound table whose lines were read.
use Rattle.std.proofs.Common.{◌≡◌, ◌≤◌, ℕ, Bool, true, false, cond, List, Option, Some, None, Result, Ok, Err, IfOk, refl, ap, subst, ◌∙◌, arith}
use Rattle.std.specs.Prelude.{nat_lt}
use Rattle.std.specs.FinMap as fin
use Rattle.std.proofs.lemmas.Bool.Decides.{nat_tests}
use Rattle.osm_base.specs.declared.key.Key.{Key}
use Rattle.osm_table.specs.Table.{TableValue}
use Rattle.dataset.specs.Patch.{PatchValue, StandsBefore, after_of}
use Rattle.dataset.specs.Diff.{diff}
use Rattle.dataset.specs.Sound.{IsSound}
use Rattle.dataset.proofs.Differs.{diff_is}
use Rattle.dataset.proofs.Laws.{diff_leads}
use Rattle.opl_file.specs.Cut.{lines_of}
use Rattle.saved_session.specs.Reading.{Session, session_from, table_of}
use Rattle.saved_session.specs.SoundTest.{least_unsound}
use Rattle.saved_session.specs.Told.{StandsIn}
use Rattle.saved_session.specs.Resumed.{Resumes, if_sound, patch_to, saved_patch, saved_table, tested, within}
use Rattle.saved_session.specs.declared.fault.SavedFault.{SavedFault}
use Rattle.saved_session.specs.declared.fault.SavedFault.TheVariants.{TableFull}
use Rattle.saved_session.proofs.Standing.{session_stands}
use Rattle.saved_session.proofs.SoundTested.{tested_sound}

tested_ok : (limit : ℕ) (r : Result Session ℕ) (t : TableValue) → tested limit r ≡ Ok t → (s : Session) × (r ≡ Ok s) × (within limit (table_of s) ≡ Ok t)
tested_ok limit (Err line) t e = absurd cc
tested_ok limit (Ok s) t e = (s, refl, e)

room_ok : (b : Bool) (u t : TableValue) → cond b (Err TableFull) (Ok u) ≡ Ok t → (b ≡ false) × (u ≡ t)
room_ok true u t e = absurd cc
room_ok false u t e = (refl, cc)

sound_ok : (limit : ℕ) (o : Option Key) (u t : TableValue) → if_sound limit u o ≡ Ok t → (o ≡ None) × (nat_lt limit (fin.len u.entries) ≡ false) × (u ≡ t)
sound_ok limit (Some key) u t e = absurd cc
sound_ok limit None u t e = let p = room_ok (nat_lt limit (fin.len u.entries)) u t e in (refl, p.0, p.1)

-- A table that a text gives is sound, within the limit, and its lines are those that were read.
pub record IsGiven (limit : ℕ) (bytes : List ℕ) (t : TableValue) : Type 0 where
  pub sound : IsSound t
  pub fits : fin.len t.entries ≤ limit
  pub lines : StandsIn t (lines_of bytes)

pub table_given : (limit : ℕ) (bytes : List ℕ) (t : TableValue) → saved_table limit bytes ≡ Ok t → IsGiven limit bytes t
unfolding saved_table
table_given limit bytes t e =
    let p = tested_ok limit (session_from 1 (lines_of bytes)) t e in
    let q = sound_ok limit (least_unsound (table_of p.0)) (table_of p.0) t p.2 in
    let lines = session_stands 1 (lines_of bytes) p.0 p.1 in
    subst (IsGiven limit bytes) q.2 (record { sound = tested_sound (table_of p.0) lines.number q.0; fits = within_limit (fin.len (table_of p.0).entries) q.1; lines = lines })
  where
    within_limit : (len : ℕ) → nat_lt limit len ≡ false → len ≤ limit
    within_limit len h = grind (arith, nat_tests, h)

-- where a session was read, its table is tested
pub patch_of_session : (limit : ℕ) (now : TableValue) (bytes : List ℕ) (s : Session) → session_from 1 (lines_of bytes) ≡ Ok s → saved_patch limit now bytes ≡ patch_to now (within limit (table_of s))
unfolding saved_patch saved_table
patch_of_session limit now bytes s e = ap (λ (r : Result Session ℕ). patch_to now (tested limit r)) e

patch_ok : (now : TableValue) (r : Result TableValue SavedFault) (patch : PatchValue) → patch_to now r ≡ Ok patch → (t : TableValue) × (r ≡ Ok t) × (diff now t ≡ patch)
patch_ok now (Ok t) patch e = (t, refl, cc)
patch_ok now (Err fault) patch e = absurd cc

-- What a patch leads to that a text gives.
pub record IsResumed (now : TableValue) (bytes : List ℕ) (patch : PatchValue) : Type 0 where
  pub stands : StandsBefore patch now
  pub sound : IsSound (after_of patch now)
  pub saved : StandsIn (after_of patch now) (lines_of bytes)

patch_given : (limit : ℕ) (now : TableValue) (bytes : List ℕ) (patch : PatchValue) → saved_patch limit now bytes ≡ Ok patch → IsResumed now bytes patch
unfolding saved_patch
patch_given limit now bytes patch e =
    let p = patch_ok now (saved_table limit bytes) patch e in
    let given = table_given limit bytes p.0 p.1 in
    subst (IsResumed now bytes) p.2
    (let led = (diff_leads now p.0 (diff now p.0) (diff_is now p.0)).to in
    record { stands = (diff_is now p.0).before; sound = subst IsSound led given.sound; saved = subst (λ (t : TableValue). StandsIn t (lines_of bytes)) led given.lines })

-- what is answered
pub answer_given : (limit : ℕ) (now : TableValue) (bytes : List ℕ) (s : Session) (r : Result PatchValue SavedFault) → session_from 1 (lines_of bytes) ≡ Ok s → Resumes r (patch_to now (within limit (table_of s))) → IfOk r (IsResumed now bytes)
answer_given limit now bytes s (Ok patch) e h = patch_given limit now bytes patch (patch_of_session limit now bytes s e ∙ h)
answer_given limit now bytes s (Err fault) e h = tt

pub given_sound : (limit : ℕ) (bytes : List ℕ) (t : TableValue) → saved_table limit bytes ≡ Ok t → IsSound t
given_sound limit bytes t e = (table_given limit bytes t e).sound

pub given_fits : (limit : ℕ) (bytes : List ℕ) (t : TableValue) → saved_table limit bytes ≡ Ok t → fin.len t.entries ≤ limit
given_fits limit bytes t e = (table_given limit bytes t e).fits

pub given_lines : (limit : ℕ) (bytes : List ℕ) (t : TableValue) → saved_table limit bytes ≡ Ok t → StandsIn t (lines_of bytes)
given_lines limit bytes t e = (table_given limit bytes t e).lines
