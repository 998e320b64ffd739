-- What a table that was read gives.
use Rattle.std.proofs.Common.{◌≡◌, ℕ, Bool, true, false, cond, T, List, map, length, Option, None, Some, Result, Ok, Err, sym, ap, ◌∙◌}
use Rattle.std.specs.Prelude.{nat_lt}
use Rattle.std.specs.FinMap as fin
use Rattle.std.specs.FinMap.Entries.{is_sorted}
use Rattle.osm_base.specs.Rank.{rank_cmp}
use Rattle.osm_base.specs.declared.key.Key.{Key}
use Rattle.osm_table.specs.Table.{TableValue}
use Rattle.dataset.specs.Patch.{PatchValue}
use Rattle.dataset.specs.Diff.{diff}
use Rattle.saved_session.specs.Reading.{Session, table_of}
use Rattle.saved_session.specs.SoundTest.{first_unsound, least_unsound}
use Rattle.saved_session.specs.Drafting.{Refuses}
use Rattle.saved_session.specs.Resumed.{Resumes, if_sound, patch_to, tested, within}
use Rattle.saved_session.specs.declared.fault.SavedFault.{SavedFault}
use Rattle.saved_session.specs.declared.fault.SavedFault.TheVariants.{BadSaved, Unsound, TableFull, Memory}
use Rattle.saved_session.proofs.ByKey.{keys_of_table, table_len}

-- what the code has of a table that was read: the draft's table, the keys, and the first that is unsound
pub record IsTested (s : Session) (t : TableValue) (keys : List Key) (found : Option Key) : Type 0 where
  pub sorted : T (is_sorted rank_cmp s.entries)
  pub table : t ≡ table_of s
  pub keys_are : keys ≡ map (λ e. e.0) s.entries
  pub first : found ≡ first_unsound t keys

least : (s : Session) (t : TableValue) (keys : List Key) (found : Option Key) → IsTested s t keys found → least_unsound (table_of s) ≡ found
least s t keys found h = (λ i. first_unsound (sym h.table i) ((keys_of_table s h.sorted ∙ sym h.keys_are) i)) ∙ sym h.first

by_found : (limit : ℕ) (now : TableValue) (s : Session) (t : TableValue) (keys : List Key) (found : Option Key) → IsTested s t keys found → patch_to now (within limit (table_of s)) ≡ patch_to now (if_sound limit (table_of s) found)
by_found limit now s t keys found h = ap (λ (o : Option Key). patch_to now (if_sound limit (table_of s) o)) (least s t keys found h)

pub unsound_read : (limit : ℕ) (now : TableValue) (s : Session) (t : TableValue) (keys : List Key) (found : Option Key) (key : Key) → IsTested s t keys found → found ≡ Some key → patch_to now (within limit (table_of s)) ≡ Err (Unsound key)
unsound_read limit now s t keys found key h e = by_found limit now s t keys found h ∙ ap (λ (o : Option Key). patch_to now (if_sound limit (table_of s) o)) e

by_room : (limit : ℕ) (now : TableValue) (s : Session) (t : TableValue) (keys : List Key) (found : Option Key) (b : Bool) → IsTested s t keys found → found ≡ None → nat_lt limit (length keys) ≡ b →
    patch_to now (within limit (table_of s)) ≡ patch_to now (cond b (Err TableFull) (Ok (table_of s)))
by_room limit now s t keys found b h e room =
    let len : fin.len (table_of s).entries ≡ length keys = table_len s h.sorted ∙ ap (λ (ks : List Key). length ks) (sym h.keys_are) in
    by_found limit now s t keys found h ∙ ap (λ (o : Option Key). patch_to now (if_sound limit (table_of s) o)) e
    ∙ ap (λ (c : Bool). patch_to now (cond c (Err TableFull) (Ok (table_of s)))) (ap (nat_lt limit) len ∙ room)

pub full_read : (limit : ℕ) (now : TableValue) (s : Session) (t : TableValue) (keys : List Key) (found : Option Key) → IsTested s t keys found → found ≡ None → nat_lt limit (length keys) ≡ true → patch_to now (within limit (table_of s)) ≡ Err TableFull
full_read limit now s t keys found h e room = by_room limit now s t keys found true h e room

pub patch_read : (limit : ℕ) (now : TableValue) (s : Session) (t : TableValue) (keys : List Key) (found : Option Key) (patch : PatchValue) → IsTested s t keys found → found ≡ None → nat_lt limit (length keys) ≡ false → patch ≡ diff now t →
    patch_to now (within limit (table_of s)) ≡ Ok patch
patch_read limit now s t keys found patch h e room is = by_room limit now s t keys found false h e room ∙ ap Ok (ap (diff now) (sym h.table) ∙ sym is)

-- a bad line is the answer, unless memory ran out
pub bad_read : (limit : ℕ) (now : TableValue) (read : Result Session ℕ) (fault : SavedFault) → Refuses read fault → Resumes (Err fault) (patch_to now (tested limit read))
bad_read limit now read (BadSaved line) h = ap (λ (r : Result Session ℕ). patch_to now (tested limit r)) h
bad_read limit now read (Unsound key) h = absurd h
bad_read limit now read TableFull h = absurd h
bad_read limit now read Memory h = tt
