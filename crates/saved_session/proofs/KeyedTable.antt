-- Entries found by their keys, one after the other.
use Rattle.std.proofs.Common.{◌≡◌, ℕ, ◌+◌, ◌<◌, Bool, true, false, not, cond, List, [], ◌∷◌, drop, get_or, length, Option, Some, None, refl, sym, ◌∙◌, ap}
use Rattle.std.specs.List.{find}
use Rattle.std.specs.Map.{keys_of, lookup}
use Rattle.std.specs.Prelude.{slice_get}
use Rattle.std.proofs.lemmas.List.{drop_more}
use Rattle.std.proofs.lemmas.Option.{get_or_from_slice_get, slice_get_within}
use Rattle.osm_base.specs.KeyEq.{eq}
use Rattle.osm_base.specs.RankLaws.{rank_total, rank_exact, rank_ties}
use Rattle.osm_base.specs.declared.key.Key.{Key}
use Rattle.osm_base.proofs.MapViews.{get_view}
use Rattle.osm_table.specs.declared.entry.Entry.{Entry}
use Rattle.osm_table.specs.Table.{TableValue, entry_of}
use Rattle.saved_session.specs.Reading.{Entries, Session, table_of}
use Rattle.saved_session.specs.SoundTest.{breaks, is_sound_at, is_unsound, first_unsound}

-- what is found in a list is found in its table
pub found_in : (s : Session) (k : Key) → lookup (eq k) s.entries ≡ entry_of (table_of s) k
found_in s k = get_view rank_total rank_exact rank_ties s.entries k

-- the list from a place on begins with what stands there
pub from_place : {A : Type 0} (xs : List A) (i : ℕ) (x : A) → slice_get xs i ≡ Some x → drop i xs ≡ x ∷ drop (i + 1) xs
from_place {A = A} xs i x at = drop_more xs i x (slice_get_within xs i x at) ∙ ap (λ (y : A). y ∷ drop (i + 1) xs) (get_or_from_slice_get xs i x x at)

-- the first of the keys from a place on
next_unsound : (t : TableValue) (ks : List Key) (i : ℕ) (k : Key) (e : Entry) (b : Bool) → slice_get ks i ≡ Some k → entry_of t k ≡ Some e → b ≡ is_sound_at t k e → first_unsound t (drop i ks) ≡ cond (not b) (Some k) (first_unsound t (drop (i + 1) ks))
next_unsound t ks i k e b at has sound =
    ap (first_unsound t) (from_place ks i k at)
    ∙ ap (λ c. cond c (Some k) (first_unsound t (drop (i + 1) ks))) (ap (breaks t k) has ∙ ap not (sym sound))

-- it is the one at the place
pub unsound_here : (t : TableValue) (ks : List Key) (i : ℕ) (k : Key) (e : Entry) (b : Bool) → slice_get ks i ≡ Some k → entry_of t k ≡ Some e → b ≡ is_sound_at t k e → b ≡ false → Some k ≡ first_unsound t (drop i ks)
unsound_here t ks i k e b at has sound bad = sym (next_unsound t ks i k e b at has sound ∙ ap (λ c. cond (not c) (Some k) (first_unsound t (drop (i + 1) ks))) bad)

-- it is one behind the place
pub unsound_later : (t : TableValue) (ks : List Key) (i : ℕ) (k : Key) (e : Entry) (b : Bool) → slice_get ks i ≡ Some k → entry_of t k ≡ Some e → b ≡ is_sound_at t k e → b ≡ true → first_unsound t (drop (i + 1) ks) ≡ first_unsound t (drop i ks)
unsound_later t ks i k e b at has sound good = sym (next_unsound t ks i k e b at has sound ∙ ap (λ c. cond (not c) (Some k) (first_unsound t (drop (i + 1) ks))) good)
