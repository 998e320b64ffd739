-- A word, and the words with which lines begin, which rise.
use Rattle.std.proofs.Common.{◌≡◌, ◌≢◌, ℕ, zero, suc, ◌+◌, ◌<◌, Bool, true, false, not, ◌&&◌, Bor, List, [], ◌∷◌, length, get_or, map, nat_lt, Option, None, refl, sym, ap, ◌∙◌, subst, arith}
use Rattle.std.specs.Cmp.Lexicographic.{slice_cmp}
use Rattle.std.specs.List.{AllByRecursion}
use Rattle.std.specs.List.Sorted.{IsNonDecreasingBy, IsPartitionPoint, IsSortedBy}
use Rattle.std.specs.Ordering.{is_eq, is_lt, nat_cmp, ordering_index}
use Rattle.std.specs.Str.{bytes_eq}
use Rattle.std.specs.declared.cmp.Ordering.{Ordering}
use Rattle.std.specs.declared.cmp.Ordering.TheVariants.{Less, Equal, Greater}
use Rattle.std.proofs.lemmas.Bool.{and_parts}
use Rattle.std.proofs.lemmas.Bool.Decides.{nat_tests}
use Rattle.std.proofs.lemmas.Cmp.{nat_list_cmp_total, tied_itself}
use Rattle.std.proofs.lemmas.List.Sorted.{searchable_from_sorted}
use Rattle.std.proofs.lemmas.Map.Text.{is_eq-slice_cmp}
use Rattle.std.proofs.lemmas.Slice.Eq.{bytes_eq-Decides}
use Rattle.edit_script.specs.declared.forms.Form.{Form}
use Rattle.edit_script.specs.declared.step.Act.{Act}
use Rattle.edit_script.specs.Forms.{form_word}
use Rattle.edit_script.specs.Grammar.{act_of, all_lines, by_first}

-- a word and the form of the lines that begin with it
abbrev pub Listed : Type 0
Listed = Bor (List ℕ) × Form

abbrev pub by_word : List ℕ → Listed → Ordering
by_word word at = slice_cmp nat_cmp at.0.now word

-- whether no word is before the one before it
abbrev pub rise : List Listed → Bool
rise [] = true
rise (at ∷ []) = true
rise (at ∷ next ∷ more) = not (is_lt (slice_cmp nat_cmp next.0.now at.0.now)) && rise (next ∷ more)

not_true : (b : Bool) → not b ≡ true → b ≡ false
not_true true e = absurd cc
not_true false e = refl

sorted : (table : List Listed) → rise table ≡ true → IsSortedBy (λ a b. is_lt (slice_cmp nat_cmp a.0.now b.0.now)) table
sorted [] up k d low high = absurd (omega (arith, high))
sorted (at ∷ []) up k d low high = absurd (omega (arith, high))
sorted (at ∷ next ∷ more) up zero d low high = not_true _ (and_parts _ _ up).0
sorted (at ∷ next ∷ more) up (suc k) d low high =
    let place : suc k + 1 ≡ suc (k + 1) = omega arith in
    rw place (sorted (next ∷ more) (and_parts _ _ up).1 k d (omega arith) (omega (arith, high)))

same_words : (a b : List ℕ) → slice_cmp nat_cmp a b ≡ Equal → a ≡ b
same_words a b e = (bytes_eq-Decides a b).0 (sym (is_eq-slice_cmp a b) ∙ ap is_eq e)

other_words : (a b : List ℕ) (o : Ordering) → slice_cmp nat_cmp a b ≡ o → o ≢ Equal → bytes_eq b a ≡ false
other_words a b o e other = by_test (bytes_eq b a) refl where
  by_test : (test : Bool) → bytes_eq b a ≡ test → test ≡ false
  by_test false is = refl
  by_test true is = absurd (other (sym e ∙ ap (slice_cmp nat_cmp a) ((bytes_eq-Decides b a).0 is) ∙ tied_itself nat_list_cmp_total a))

-- whether each form is listed with the word of its lines
abbrev pub are_named : List Listed → Bool
are_named [] = true
are_named (at ∷ more) = bytes_eq (form_word at.1) at.0.now && are_named more

named_at : (table : List Listed) (i : ℕ) (d : Listed) → are_named table ≡ true → i < length table → form_word (get_or table i d).1 ≡ (get_or table i d).0.now
named_at [] i d named h = absurd (omega (arith, h))
named_at (at ∷ more) zero d named h = (bytes_eq-Decides (form_word at.1) at.0.now).0 (and_parts _ _ named).0
named_at (at ∷ more) (suc i) d named h = named_at more i d (and_parts _ _ named).1 (omega (arith, h))

-- a word that is none of them
abbrev pub words_listed : List Listed → List (List ℕ)
words_listed table = map (λ (at : Listed). at.0.now) table

abbrev pub all_words : List (List ℕ)
all_words = map (λ (line : List ℕ × (List (List ℕ) → Option Act)). line.0) all_lines

abbrev IsNone : List ℕ → List (List ℕ) → Type 0
IsNone word listed = AllByRecursion (λ at. bytes_eq word at ≡ false) listed

none_of : (word : List ℕ) (table : List Listed) → ((i : ℕ) (d : Listed) → i < length table → bytes_eq word (get_or table i d).0.now ≡ false) → IsNone word (words_listed table)
none_of word [] none = tt
none_of word (at ∷ more) none = (none 0 at (omega arith), none_of word more (λ i d h. none (suc i) d (omega (arith, h))))

begins_no_line : (word : List ℕ) (words : List (List ℕ)) (lines : List (List ℕ × (List (List ℕ) → Option Act))) → IsNone word (map (λ (line : List ℕ × (List (List ℕ) → Option Act)). line.0) lines) → by_first lines (word ∷ words) ≡ None
begins_no_line word words [] none = refl
begins_no_line word words (line ∷ lines) none = rw none.0 (begins_no_line word words lines none.1)

module _ (word : List ℕ) (table : List Listed) where
  -- What a search finds is the form of the word,
  pub found_at : (i : ℕ) (d : Listed) → are_named table ≡ true → i < length table → by_word word (get_or table i d) ≡ Equal → form_word (get_or table i d).1 ≡ word
  found_at i d named h e = named_at table i d named h ∙ same_words (get_or table i d).0.now word e

  -- since the comparisons with it rise along them,
  pub comparisons_rise : rise table ≡ true → IsNonDecreasingBy (λ (at : Listed). ordering_index (by_word word at)) table
  comparisons_rise up = searchable_from_sorted nat_list_cmp_total (λ (at : Listed). at.0.now) table word (sorted table up)

  -- and where it finds none, no line begins with the word.
  pub found_nowhere : (i : ℕ) → words_listed table ≡ all_words → IsPartitionPoint (λ (at : Listed). by_word word at ≡ Less) (λ (at : Listed). by_word word at ≡ Greater) table i → (words : List (List ℕ)) → act_of (word ∷ words) ≡ None
  unfolding act_of
  found_nowhere i same parts words = begins_no_line word words all_lines (subst (IsNone word) same (none_of word table (λ k d h. at_either k d h (nat_lt k i) refl)))
    where
      at_either : (k : ℕ) (d : Listed) → k < length table → (before : Bool) → nat_lt k i ≡ before → bytes_eq word (get_or table k d).0.now ≡ false
      at_either k d h true before = other_words (get_or table k d).0.now word Less (parts.0 k d (omega arith) (grind (arith, nat_tests, before))) (λ e. cc)
      at_either k d h false before = other_words (get_or table k d).0.now word Greater (parts.1 k d (grind (arith, nat_tests, before)) h) (λ e. cc)
