-- What a field spells.
use Rattle.std.proofs.Common.{◌≡◌, ℕ, ◌≤◌, Bool, true, false, cond, List, [], ◌∷◌, ◌++◌, Option, Some, None, Result, Ok, Err, refl, sym, ap, ◌∙◌, subst, arith, IfOk}
use Rattle.std.specs.Prelude.{IsErrOf, nat_lt}
use Rattle.std.specs.Option.{option_map}
use Rattle.std.specs.List.{list_all}
use Rattle.std.specs.Str.{IsUtf8, is_utf8, chars}
use Rattle.std.proofs.lemmas.Bool.{and_parts, and_from, false_from_ne_true, lt-ltb}
use Rattle.std.proofs.lemmas.Bool.Decides.{nat_tests}
use Rattle.std.proofs.lemmas.Str.{IsUtf8-from_is_utf8, is_utf8-from_IsUtf8, encodes-chars, scalars-chars, chars-encodes}
use lib.Utf8.{scalar, scalars, encodes}
use Rattle.osm_base.specs.declared.text.TextFault.{TextFault}
use Rattle.osm_base.specs.declared.text.TextFault.TheVariants.{BadText, Memory}
use Rattle.opl_text.specs.Escape.{Spells, done, raw, escape, is_raw, characters_of}
use Rattle.opl_text.specs.Text.{unescaped, GivesText, SpellsText, HasNoZero}
use Rattle.opl_text.proofs.Bytes.{characters_pass, bytes_pass}
use Rattle.opl_text.proofs.Grammar.{spelled_is_read}
use Rattle.opl_text.proofs.Converse.{read_is_spelled}

read_text : (field : List ℕ) → IsUtf8 field → unescaped field ≡ option_map encodes (characters_of None (chars field))
unfolding unescaped
read_text field u = rw (is_utf8-from_IsUtf8 field u) refl

-- what the reading of the characters gave
pub given_read : (field characters : List ℕ) (given : Option (List ℕ)) → IsUtf8 field → characters ≡ field → given ≡ option_map encodes (characters_of None (chars characters)) → unescaped field ≡ given
given_read field characters given u same is = read_text field u ∙ ap (λ (bs : List ℕ). option_map encodes (characters_of None (chars bs))) (sym same) ∙ sym is

pub no_text : (field : List ℕ) → ¬ (IsUtf8 field) → unescaped field ≡ None
unfolding unescaped
no_text field not_utf8 = rw (false_from_ne_true (is_utf8 field) (λ e. not_utf8 (IsUtf8-from_is_utf8 field e))) refl

-- what the pool made of the bytes
pub given_text : (r : Result (List ℕ) TextFault) (bytes : List ℕ) (read : Option (List ℕ)) → (IsUtf8 bytes → read ≡ Some bytes) → (¬ (IsUtf8 bytes) → read ≡ None)
    → IfOk r (λ text. text ≡ bytes) → IfOk r (λ _. IsUtf8 bytes) → (IsErrOf r BadText → ¬ (IsUtf8 bytes)) → GivesText r read
given_text (Ok text) bytes read some none value utf8 fault = some utf8 ∙ ap (λ (t : List ℕ). Some t) (sym value)
given_text (Err BadText) bytes read some none value utf8 fault = none (fault refl)
given_text (Err Memory) bytes read some none value utf8 fault = tt

-- raw characters spell themselves
raw_spell : (cs : List ℕ) → list_all is_raw cs ≡ true → Spells cs cs
raw_spell [] h = done
raw_spell (c ∷ cs) h = let k = and_parts (is_raw c) (list_all is_raw cs) h in raw c cs cs k.0 (raw_spell cs k.1)

raw_high : (c : ℕ) → 128 ≤ c → is_raw c ≡ true
raw_high c h = grind (arith, nat_tests)

pub raw_text : (field : List ℕ) → list_all is_raw field ≡ true → IsUtf8 field → unescaped field ≡ Some field
raw_text field h u =
    let e = encodes-chars field u in
    let all : list_all is_raw (chars field) ≡ true = characters_pass is_raw raw_high (chars field) (subst (λ (bs : List ℕ). list_all is_raw bs ≡ true) (sym e) h) in
    read_text field u ∙ ap (option_map encodes) (spelled_is_read (chars field) (chars field) (raw_spell (chars field) all)) ∙ ap (λ (bs : List ℕ). Some bs) e

-- the grammar gives what was read
pub spelled_text : (field text : List ℕ) → SpellsText field text → unescaped field ≡ Some text
spelled_text field text s =
    read_text field s.0 ∙ ap (option_map encodes) (spelled_is_read (chars field) (chars text) s.2) ∙ ap (λ (bs : List ℕ). Some bs) (encodes-chars text s.1)

behind : (xs ys : List ℕ) → scalars (xs ++ ys) ≡ true → scalars ys ≡ true
behind [] ys h = h
behind (x ∷ xs) ys h = behind xs ys (and_parts (scalar x) (scalars (xs ++ ys)) h).1

spelled_scalars : (cs ds : List ℕ) → Spells cs ds → scalars cs ≡ true → scalars ds ≡ true
spelled_scalars cs ds done h = refl
spelled_scalars cs ds (raw c xs ys r s) h = let k = and_parts (scalar c) (scalars xs) h in and_from (scalar c) (scalars ys) k.0 (spelled_scalars xs ys s k.1)
spelled_scalars cs ds (escape hex xs ys least most all is some s) h =
    let k = behind (37 ∷ hex) (37 ∷ xs) h in
    and_from _ (scalars ys) is (spelled_scalars xs ys s (and_parts (scalar 37) (scalars xs) k).1)

spelled_some : (cs ds : List ℕ) → Spells cs ds → list_all (λ c. nat_lt 0 c) ds ≡ true
spelled_some cs ds done = refl
spelled_some cs ds (raw c xs ys r s) = let some : nat_lt 0 c ≡ true = grind (arith, nat_tests) in and_from (nat_lt 0 c) _ some (spelled_some xs ys s)
spelled_some cs ds (escape hex xs ys least most all is some s) = and_from _ _ (lt-ltb 0 _ some) (spelled_some xs ys s)

-- what was read, in parts
record WasRead (field text : List ℕ) : Type 0 where
  utf8 : IsUtf8 field
  characters : List ℕ
  read : characters_of None (chars field) ≡ Some characters
  are : encodes characters ≡ text

given_some : (o : Option (List ℕ)) (text : List ℕ) → option_map encodes o ≡ Some text → (cs : List ℕ) × (o ≡ Some cs) × (encodes cs ≡ text)
given_some None text h = cc
given_some (Some cs) text h = (cs, refl, cc)

parts_read : (field text : List ℕ) (b : Bool) → is_utf8 field ≡ b → cond b (option_map encodes (characters_of None (chars field))) None ≡ Some text → WasRead field text
parts_read field text true e h = let g = given_some (characters_of None (chars field)) text h in record { utf8 = IsUtf8-from_is_utf8 field e; characters = g.0; read = g.1; are = g.2 }
parts_read field text false e h = cc

was_read : (field text : List ℕ) → unescaped field ≡ Some text → WasRead field text
unfolding unescaped
was_read field text h = parts_read field text (is_utf8 field) refl h

-- what was read is given by the grammar
pub text_spelled : (field text : List ℕ) → unescaped field ≡ Some text → SpellsText field text
text_spelled field text h =
    let w = was_read field text h in
    let s = read_is_spelled (chars field) w.characters w.read in
    let all = spelled_scalars (chars field) w.characters s (scalars-chars field w.utf8) in
    let same : chars text ≡ w.characters = ap chars (sym w.are) ∙ chars-encodes w.characters all in
    (w.utf8, (w.characters, (all, w.are)), subst (λ (ds : List ℕ). Spells (chars field) ds) (sym same) s)

-- What was read has no U+0000.
pub read_has_no_zero : (field text : List ℕ) → unescaped field ≡ Some text → HasNoZero text
read_has_no_zero field text h =
    let w = was_read field text h in
    subst HasNoZero w.are (bytes_pass (λ c. nat_lt 0 c) (λ c h. lt-ltb 0 c (omega arith)) w.characters (spelled_some (chars field) w.characters (read_is_spelled (chars field) w.characters w.read)))
