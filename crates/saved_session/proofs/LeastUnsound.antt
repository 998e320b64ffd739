-- The least key whose entry breaks a condition of a sound table: the test finds it.
use Rattle.std.proofs.Common.{◌≡◌, Bool, true, false, cond, T, [], ◌∷◌, map, Option, Some, None, find, refl, sym, ap, ◌∙◌}
use Rattle.std.specs.Ordering.{is_lt, ordering_reverse}
use Rattle.std.specs.declared.cmp.Ordering.{Ordering}
use Rattle.std.specs.declared.cmp.Ordering.TheVariants.{Less, Equal, Greater}
use Rattle.std.specs.FinMap as fin
use Rattle.std.specs.FinMap.Entries.{find as looked_up, is_sorted, below_all}
use Rattle.std.proofs.lemmas.Bool.{not-false}
use Rattle.std.proofs.lemmas.Option.{same_Some}
use Rattle.std.specs.Bool.{passes}
use Rattle.osm_base.specs.Rank.{rank_cmp, is_key}
use Rattle.osm_base.specs.RankLaws.{rank_exact, rank_total}
use Rattle.osm_base.specs.declared.key.Key.{Key}
use Rattle.osm_base.proofs.RisingKeys.{one_key}
use Rattle.osm_base.proofs.Tests.{both_T, first_T, second_T, less_from_test, never}
use Rattle.osm_table.specs.declared.entry.Entry.{Entry}
use Rattle.osm_table.specs.Table.{TableValue, entry_of}
use Rattle.dataset.specs.Sound.{IsNumber}
use Rattle.dataset.proofs.Looked.{below_none}
use Rattle.saved_session.specs.Reading.{Entries}
use Rattle.saved_session.specs.SoundTest.{breaks, is_sound_at, is_unsound, least_unsound}
use Rattle.saved_session.specs.Told.{IsLeastUnsound}
use Rattle.saved_session.proofs.ReadBack.{less_behind}
use Rattle.saved_session.proofs.SoundTested.{at_decides, fits_at, tested_sound}

-- ---- what is found first in a list by rank

record IsFirst (p : Key → Bool) (es : Entries) (key : Key) : Type 0 where
  holds : p key ≡ true
  least : (k : Key) (f : Entry) → is_lt (rank_cmp k key) ≡ true → looked_up rank_cmp k es ≡ Some f → p k ≡ false

-- no key before the first is there
none_before : (k : Key) (f : Entry) (e : Key × Entry) (es : Entries) → T (below_all rank_cmp e.0 es) → is_lt (rank_cmp k e.0) ≡ true → looked_up rank_cmp k (e ∷ es) ≡ Some f → ⊥
none_before k f e es below less found =
    let behind = both_T (is_lt (rank_cmp k e.0)) (below_all rank_cmp k es) (passes (is_lt (rank_cmp k e.0)) less) (less_behind k e.0 es (less_from_test (rank_cmp k e.0) less) below) in
    let no : None ≡ Some f = sym (below_none k (e ∷ es) behind) ∙ found in
    cc

not_first : (p : Key → Bool) (b : Bool) (k : Key) (f : Entry) (e : Key × Entry) (es : Entries) → is_key k e.0 ≡ b → p e.0 ≡ false → (looked_up rank_cmp k es ≡ Some f → p k ≡ false) → cond b (Some e.1) (looked_up rank_cmp k es) ≡ Some f → p k ≡ false
not_first p true k f e es is other later found = ap p (one_key k e.0 is) ∙ other
not_first p false k f e es is other later found = later found

first_by : (p : Key → Bool) (b : Bool) (e : Key × Entry) (es : Entries) (key : Key) → T (below_all rank_cmp e.0 es) → p e.0 ≡ b → cond b (Some e.0) (find p (map (λ e. e.0) es)) ≡ Some key → (find p (map (λ e. e.0) es) ≡ Some key → IsFirst p es key) → IsFirst p (e ∷ es) key
first_by p true e es key below is found later =
    let same = same_Some e.0 key found in
    record {
      holds = ap p (sym same) ∙ is;
      least = λ k f less there. absurd (none_before k f e es below (ap (λ (q : Key). is_lt (rank_cmp k q)) same ∙ less) there);
    }
first_by p false e es key below is found later =
    let q = later found in
    record { holds = q.holds; least = λ k f less there. not_first p (is_key k e.0) k f e es refl is (λ there. q.least k f less there) there }

first_found : (p : Key → Bool) (es : Entries) (key : Key) → T (is_sorted rank_cmp es) → find p (map (λ e. e.0) es) ≡ Some key → IsFirst p es key
first_found p [] key sorted found = absurd cc
first_found p (e ∷ es) key sorted found =
    first_by p (p e.0) e es key (first_T (below_all rank_cmp e.0 es) (is_sorted rank_cmp es) sorted) refl found
    (λ later. first_found p es key (second_T (below_all rank_cmp e.0 es) (is_sorted rank_cmp es) sorted) later)

-- ---- the test

pub least_is : (t : TableValue) (key : Key) → least_unsound t ≡ Some key → IsLeastUnsound t key
least_is t key found =
    let first = first_found (is_unsound t) (fin.entries t.entries) key (fin.entries_sorted t.entries) found in
    record {
      unsound = λ fits. never (is_unsound t key) first.holds (fits_at t key (entry_of t key) (λ e has. (at_decides t key e).1 (fits e has)));
      least = λ k less e has.
          (at_decides t k e).0 (not-false (is_sound_at t k e) (ap (breaks t k) (sym has) ∙ first.least k e less (sym (fin.get-entries t.entries k) ∙ has)));
    }

-- there is one such key alone
rank_case : (o : Ordering) (t : TableValue) (j k : Key) → rank_cmp j k ≡ o → IsLeastUnsound t j → IsLeastUnsound t k → j ≡ k
rank_case Less t j k is g h = absurd (g.unsound (h.least j (ap is_lt is)))
rank_case Equal t j k is g h = rank_exact j k is
rank_case Greater t j k is g h = absurd (h.unsound (g.least k (ap is_lt (rank_total.antisymm k j ∙ ap ordering_reverse is))))

least_by : (o : Option Key) (t : TableValue) (key : Key) → IsNumber t.next → least_unsound t ≡ o → IsLeastUnsound t key → o ≡ Some key
least_by None t key number is h = let sound = tested_sound t number is in absurd (h.unsound (λ e has. (sound.entries key e has, sound.closed key e has)))
least_by (Some k) t key number is h = ap Some (rank_case (rank_cmp k key) t k key refl (least_is t k is) h)

pub least_found : (t : TableValue) (key : Key) → IsNumber t.next → IsLeastUnsound t key → least_unsound t ≡ Some key
least_found t key number h = least_by (least_unsound t) t key number refl h
