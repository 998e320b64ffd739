-- Keys of tags, read one after the other.
use Rattle.std.proofs.Common.{◌≡◌, ℕ, Bool, true, false, not, ◌||◌, ◌==◌, List, [], ◌∷◌, ◌++◌, length, nat_lt, Option, Some, None, refl, sym, ap, ◌∙◌, append_assoc, arith}
use Rattle.std.specs.Prelude.{if◌then◌else◌}
use Rattle.std.proofs.Math.Bool.{or-true, and-false}
use Rattle.std.proofs.lemmas.Bool.Decides.{nat_tests}
use Rattle.osm_base.specs.Same.{same_text}
use Rattle.osm_base.proofs.SameLaws.{same_text_decides}
use Rattle.opl_text.specs.Text.{unescaped}
use Rattle.opl_text.specs.Time.{◌>>=◌}
use Rattle.opl_line.specs.Cut.{split, before, after}
use Rattle.opl_line.specs.Field.{is}
use Rattle.opl_line.proofs.Fronts.{pieces_behind, split_front}
use Rattle.merge_cases.specs.Keys.{is_listed, are_tag_keys}
use Rattle.tool_api.proofs.Bools.{left_alone}
use Rattle.edit_script.specs.Items.{all_of, tag_keys_of}
use Rattle.edit_script.proofs.Lists.{onto_items, onto_items-more}

-- whether the text may not stand behind these keys: it is empty, or one of them
abbrev pub adds_no_key : List (List ℕ) → List ℕ → Bool
adds_no_key keys key = length key == 0 || is_listed keys key

same_turned : (a b : List ℕ) → same_text a b ≡ true → same_text b a ≡ true
same_turned a b e = (same_text_decides b a).1 (sym ((same_text_decides a b).0 e))

-- a key is listed among keys of which one is like it
listed_inside : (front more : List (List ℕ)) (key x : List ℕ) → same_text key x ≡ true → is_listed (front ++ key ∷ more) x ≡ true
listed_inside [] more key x like = rw like refl
listed_inside (first ∷ front) more key x like = rw (listed_inside front more key x like) (or-true (same_text first x))

some_bytes : (byte : ℕ) (bytes : List ℕ) → (length (byte ∷ bytes) == 0) ≡ true → ⊥
some_bytes byte bytes none = grind (arith, nat_tests, none)

not_keys_behind : (first : List ℕ) (front more : List (List ℕ)) (key : List ℕ) (like : Bool) → same_text first key ≡ like → adds_no_key (first ∷ front) key ≡ true
    → (adds_no_key front key ≡ true → are_tag_keys (front ++ key ∷ more) ≡ false) → are_tag_keys (first ∷ front ++ key ∷ more) ≡ false
not_keys_behind first front more key true e none fewer = rw (listed_inside front more key first (same_turned first key e)) (and-false (nat_lt 0 (length first)))
not_keys_behind first front more key false e none fewer =
    rw (fewer (ap (λ like. length key == 0 || (like || is_listed front key)) (sym e) ∙ none), and-false (not (is_listed (front ++ key ∷ more) first))) (and-false (nat_lt 0 (length first)))

-- keys of which one adds none are no keys of tags
not_keys : (front more : List (List ℕ)) (key : List ℕ) → adds_no_key front key ≡ true → are_tag_keys (front ++ key ∷ more) ≡ false
not_keys [] more [] none = refl
not_keys [] more (byte ∷ bytes) none = absurd (some_bytes byte bytes (left_alone _ none))
not_keys (first ∷ front) more key none = not_keys_behind first front more key (same_text first key) refl none (not_keys front more key)

-- the keys, if they are keys of tags
abbrev kept : List (List ℕ) → Option (List (List ℕ))
kept keys = if are_tag_keys keys then Some keys else None

none_of : (front : List (List ℕ)) (key : List ℕ) (read : Option (List (List ℕ))) → adds_no_key front key ≡ true → (onto_items (front ++ key ∷ []) read >>= kept) ≡ None
none_of front key None none = refl
none_of front key (Some more) none = rw (append_assoc front (key ∷ []) more, not_keys front more key none) refl

-- a text that adds no key ends it
pub no_keys : (texts front : List (List ℕ)) (rest piece key : List ℕ) → all_of unescaped texts ≡ onto_items front (all_of unescaped (split (is 44) rest))
    → piece ≡ before (is 44) rest → unescaped piece ≡ Some key → adds_no_key front key ≡ true → tag_keys_of texts ≡ None
unfolding tag_keys_of
no_keys texts front rest piece key read first e none =
    let others = pieces_behind (is 44) (after (is 44) rest) in
    ap (λ keys. keys >>= kept) (read ∙ ap (λ pieces. onto_items front (all_of unescaped pieces)) (split_front (is 44) rest)
    ∙ onto_items-more unescaped front key (before (is 44) rest) others (ap unescaped (sym first) ∙ e))
    ∙ none_of front key (all_of unescaped others) none
