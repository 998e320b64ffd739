-- The written form of a text: it spells the text again, and has only plain bytes.
use Rattle.std.proofs.Common.{◌≡◌, ℕ, ◌+◌, ◌/◌, ◌%◌, ◌<◌, ◌≤◌, Bool, true, false, ltb, List, [], ◌∷◌, ◌++◌, length, Some, refl, sym, ap, ◌∙◌, subst, arith, append_assoc, get_or, take, Result, Ok, Err, OnErr}
use Rattle.std.specs.Prelude.{nat_lt, not}
use Rattle.std.specs.List.{list_all, flat_map}
use Rattle.std.specs.Char.{digit_value, is_ascii, IsScalar}
use Rattle.std.specs.Str.{IsUtf8, chars}
use Rattle.std.specs.Str.Parse.{digits_value, AllDigits}
use Rattle.std.proofs.lemmas.Bool.{and_parts, and_from, cond_both, ltb-true, lt-ltb, not-true}
use Rattle.std.proofs.lemmas.Bool.Decides.{nat_tests}
use Rattle.std.proofs.lemmas.Str.{digit_value-digit_char, encode_ascii, scalars-chars, encodes-chars, chars-encodes, encodes-append}
use Rattle.std.proofs.Math.Seq.{take-append_seam}
use Rattle.std.proofs.lemmas.List.Concat.{flat_map-append}
use Rattle.std.proofs.lemmas.List.{append-nil, take_more}
use lib.Utf8.{scalar, scalars, encode, encodes, low_scalar}
use Rattle.opl_text.specs.Escape.{Spells, done, raw, escape, is_raw}
use Rattle.opl_text.specs.Written.{is_escaped, stays, hex_digit, hex_written, spelling}
use Rattle.osm_base.specs.Extends.{Extends}
use Rattle.opl_text.specs.Ends.{ends_nothing}
use Rattle.opl_text.specs.Text.{unescaped, escaped, HasNoZero}
use Rattle.opl_text.proofs.Bytes.{all_joined, characters_pass, bytes_pass}
use Rattle.opl_text.proofs.Read.{spelled_text}

-- one digit
digit_is : (n : ℕ) → digit_value (hex_digit n) ≡ n % 16
digit_is n = digit_value-digit_char (n % 16) (omega arith)

digit_fits : (n : ℕ) → digit_value (hex_digit n) < 16
digit_fits n = omega (arith, digit_is n)

digit_plain : (n : ℕ) → ends_nothing (hex_digit n) ≡ true
digit_plain n = let h : n % 16 < 16 = omega arith in grind (arith, nat_tests)

digit_low : (n : ℕ) → hex_digit n < 128
digit_low n = let h : n % 16 < 16 = omega arith in grind (arith, nat_tests)

-- Each is the hexadecimal digit of some number.
pub record AreHex (hex : List ℕ) : Type 0 where
  pub digits : AllDigits 16 hex
  pub plain : list_all ends_nothing hex ≡ true
  pub low : list_all is_ascii hex ≡ true

none : AreHex []
none = record { digits = tt; plain = refl; low = refl }

more : (n : ℕ) (hex : List ℕ) → AreHex hex → AreHex (hex_digit n ∷ hex)
more n hex h = record {
  digits = (digit_fits n, h.digits);
  plain = and_from (ends_nothing (hex_digit n)) (list_all ends_nothing hex) (digit_plain n) h.plain;
  low = and_from (is_ascii (hex_digit n)) (list_all is_ascii hex) (lt-ltb (hex_digit n) 128 (digit_low n)) h.low;
}

-- The digits of a code.
pub record IsHex (c : ℕ) (hex : List ℕ) : Type 0 where
  pub least : 1 ≤ length hex
  pub most : length hex ≤ 6
  pub value : c < 0x1000000 → digits_value 16 hex ≡ c
  pub are : AreHex hex

two_is : (c : ℕ) → c < 0x100 → digits_value 16 (hex_digit (c / 0x10) ∷ hex_digit c ∷ []) ≡ c
two_is c h = rw (digit_is (c / 0x10), digit_is c) (omega arith)

four_is : (c : ℕ) → c < 0x10000 → digits_value 16 (hex_digit (c / 0x1000) ∷ hex_digit (c / 0x100) ∷ hex_digit (c / 0x10) ∷ hex_digit c ∷ []) ≡ c
four_is c h = rw (digit_is (c / 0x1000), digit_is (c / 0x100), digit_is (c / 0x10), digit_is c) (omega arith)

five_is : (c : ℕ) → c < 0x100000 → digits_value 16 (hex_digit (c / 0x10000) ∷ hex_digit (c / 0x1000) ∷ hex_digit (c / 0x100) ∷ hex_digit (c / 0x10) ∷ hex_digit c ∷ []) ≡ c
five_is c h = rw (digit_is (c / 0x10000), digit_is (c / 0x1000), digit_is (c / 0x100), digit_is (c / 0x10), digit_is c) (omega arith)

six_is : (c : ℕ) → c < 0x1000000 → digits_value 16 (hex_digit (c / 0x100000) ∷ hex_digit (c / 0x10000) ∷ hex_digit (c / 0x1000) ∷ hex_digit (c / 0x100) ∷ hex_digit (c / 0x10) ∷ hex_digit c ∷ []) ≡ c
six_is c h = rw (digit_is (c / 0x100000), digit_is (c / 0x10000), digit_is (c / 0x1000), digit_is (c / 0x100), digit_is (c / 0x10), digit_is c) (omega arith)

hex_is : (c : ℕ) → IsHex c (hex_written c)
unfolding hex_written
hex_is c =
    cond_both (ltb c 0x100) _ _ (IsHex c)
    (λ e. record { least = omega arith; most = omega arith; value = λ h. two_is c (ltb-true c 0x100 e); are = more _ _ (more _ _ none) })
    (λ e. cond_both (ltb c 0x10000) _ _ (IsHex c)
    (λ f. record { least = omega arith; most = omega arith; value = λ h. four_is c (ltb-true c 0x10000 f); are = more _ _ (more _ _ (more _ _ (more _ _ none))) })
    (λ f. cond_both (ltb c 0x100000) _ _ (IsHex c)
    (λ g. record { least = omega arith; most = omega arith; value = λ h. five_is c (ltb-true c 0x100000 g); are = more _ _ (more _ _ (more _ _ (more _ _ (more _ _ none)))) })
    (λ g. record { least = omega arith; most = omega arith; value = λ h. six_is c h; are = more _ _ (more _ _ (more _ _ (more _ _ (more _ _ (more _ _ none))))) })))

-- ASCII characters are their bytes.
ascii_bytes : (cs : List ℕ) → list_all is_ascii cs ≡ true → encodes cs ≡ cs
ascii_bytes [] h = refl
ascii_bytes (c ∷ cs) h = let k = and_parts (is_ascii c) (list_all is_ascii cs) h in rw (encode_ascii c (ltb-true c 128 k.0), ascii_bytes cs k.1) refl

ascii_scalars : (cs : List ℕ) → list_all is_ascii cs ≡ true → scalars cs ≡ true
ascii_scalars [] h = refl
ascii_scalars (c ∷ cs) h = let k = and_parts (is_ascii c) (list_all is_ascii cs) h in and_from (scalar c) (scalars cs) (low_scalar c (omega (arith, ltb-true c 128 k.0))) (ascii_scalars cs k.1)

scalars_joined : (cs ds : List ℕ) → scalars cs ≡ true → scalars ds ≡ true → scalars (cs ++ ds) ≡ true
scalars_joined [] ds h k = k
scalars_joined (c ∷ cs) ds h k = let p = and_parts (scalar c) (scalars cs) h in and_from (scalar c) (scalars (cs ++ ds)) p.0 (scalars_joined cs ds p.1 k)

-- An escape is written in ASCII.
escape_low : (c : ℕ) → list_all is_ascii (37 ∷ (hex_written c ++ 37 ∷ [])) ≡ true
escape_low c = all_joined is_ascii (hex_written c) (37 ∷ []) (hex_is c).are.low refl

spelling_scalars : (c : ℕ) (b : Bool) → is_escaped c ≡ b → scalar c ≡ true → scalars (spelling c) ≡ true
unfolding spelling
spelling_scalars c true e h = rw e (ascii_scalars (37 ∷ (hex_written c ++ 37 ∷ [])) (escape_low c))
spelling_scalars c false e h = rw e (and_from (scalar c) true h refl)

spellings_scalars : (cs : List ℕ) → scalars cs ≡ true → scalars (flat_map spelling cs) ≡ true
spellings_scalars [] h = refl
spellings_scalars (c ∷ cs) h =
    let k = and_parts (scalar c) (scalars cs) h in
    scalars_joined (spelling c) (flat_map spelling cs) (spelling_scalars c (is_escaped c) refl k.0) (spellings_scalars cs k.1)

-- What isn't escaped stands raw.
unescaped_raw : (c : ℕ) → is_escaped c ≡ false → is_raw c ≡ true
unescaped_raw c h = grind (arith, nat_tests)

scalar_small : (c : ℕ) → scalar c ≡ true → c < 0x1000000
scalar_small c h = grind (arith, nat_tests)

-- The written form spells the characters.
spelled_on : (c : ℕ) (cs ds : List ℕ) (b : Bool) → is_escaped c ≡ b → scalar c ≡ true → nat_lt 0 c ≡ true → Spells cs ds → Spells (spelling c ++ cs) (c ∷ ds)
unfolding spelling
spelled_on c cs ds true e h some s =
    let hex = hex_is c in
    let value = hex.value (scalar_small c h) in
    let is : IsScalar (digits_value 16 (hex_written c)) = rw value h in
    let more : Spells (37 ∷ (hex_written c ++ 37 ∷ cs)) (digits_value 16 (hex_written c) ∷ ds) = escape (hex_written c) cs ds hex.least hex.most hex.are.digits is (omega (arith, ltb-true 0 c some)) s in
    rw (e, append_assoc (hex_written c) (37 ∷ []) cs) (subst (λ (d : ℕ). Spells (37 ∷ (hex_written c ++ 37 ∷ cs)) (d ∷ ds)) value more)
spelled_on c cs ds false e h some s = rw e (raw c cs ds (unescaped_raw c e) s)

spells_all : (cs : List ℕ) → scalars cs ≡ true → list_all (λ c. nat_lt 0 c) cs ≡ true → Spells (flat_map spelling cs) cs
spells_all [] h some = done
spells_all (c ∷ cs) h some =
    let k = and_parts (scalar c) (scalars cs) h in
    let m = and_parts (nat_lt 0 c) (list_all (λ c. nat_lt 0 c) cs) some in
    spelled_on c (flat_map spelling cs) cs (is_escaped c) refl k.0 m.0 (spells_all cs k.1 m.1)

-- What is written of a text spells it.
pub text_again : (text : List ℕ) → IsUtf8 text → HasNoZero text → unescaped (escaped text) ≡ Some text
unfolding escaped
text_again text u some =
    let cs = chars text in
    let all = spellings_scalars cs (scalars-chars text u) in
    let marks : list_all (λ c. nat_lt 0 c) cs ≡ true = characters_pass (λ c. nat_lt 0 c) (λ c h. lt-ltb 0 c (omega arith)) cs (subst HasNoZero (sym (encodes-chars text u)) some) in
    let spells = spells_all cs (scalars-chars text u) marks in
    spelled_text (encodes (flat_map spelling cs)) text ((flat_map spelling cs, (all, refl)), u, subst (λ (ds : List ℕ). Spells ds cs) (sym (chars-encodes (flat_map spelling cs) all)) spells)

-- What is written has only plain bytes.
plain_high : (b : ℕ) → 128 ≤ b → ends_nothing b ≡ true
plain_high b h = grind (arith, nat_tests)

unescaped_plain : (c : ℕ) → is_escaped c ≡ false → ends_nothing c ≡ true
unescaped_plain c h = grind (arith, nat_tests)

spelling_plain : (c : ℕ) (b : Bool) → is_escaped c ≡ b → list_all ends_nothing (spelling c) ≡ true
unfolding spelling
spelling_plain c true e = rw e (all_joined ends_nothing (hex_written c) (37 ∷ []) (hex_is c).are.plain refl)
spelling_plain c false e = rw e (and_from (ends_nothing c) true (unescaped_plain c e) refl)

spellings_plain : (cs : List ℕ) → list_all ends_nothing (flat_map spelling cs) ≡ true
spellings_plain [] = refl
spellings_plain (c ∷ cs) = all_joined ends_nothing (spelling c) (flat_map spelling cs) (spelling_plain c (is_escaped c) refl) (spellings_plain cs)

pub text_plain : (text : List ℕ) → list_all ends_nothing (escaped text) ≡ true
unfolding escaped
text_plain text = bytes_pass ends_nothing plain_high (flat_map spelling (chars text)) (spellings_plain (chars text))

-- A text of which each byte stays is its written form.
stay_spelled : (cs : List ℕ) → list_all stays cs ≡ true → (flat_map spelling cs ≡ cs) × (list_all is_ascii cs ≡ true)
unfolding spelling
stay_spelled [] h = (refl, refl)
stay_spelled (c ∷ cs) h =
    let k = and_parts (stays c) (list_all stays cs) h in
    let m = and_parts (is_ascii c) (not (is_escaped c)) k.0 in
    let r = stay_spelled cs k.1 in
    (rw (not-true (is_escaped c) m.1, r.0) refl, and_from (is_ascii c) (list_all is_ascii cs) m.0 r.1)

pub stays_written : (text : List ℕ) → list_all stays text ≡ true → escaped text ≡ text
unfolding escaped
stays_written text h =
    let r = stay_spelled text h in
    let e = ascii_bytes text r.1 in
    let same : chars text ≡ text = ap chars (sym e) ∙ chars-encodes text (ascii_scalars text r.1) in
    rw (same, r.0, e) refl

-- One character after the other.
pub escape_written : (c : ℕ) → is_escaped c ≡ true → encodes (spelling c) ≡ 37 ∷ (hex_written c ++ 37 ∷ [])
unfolding spelling
escape_written c h = rw h (ascii_bytes (37 ∷ (hex_written c ++ 37 ∷ [])) (escape_low c))

pub raw_written : (c : ℕ) → is_escaped c ≡ false → encodes (spelling c) ≡ encode c
unfolding spelling
raw_written c h = rw h (append-nil (encode c))

abbrev pub written_of : List ℕ → List ℕ
written_of cs = encodes (flat_map spelling cs)

written_more : (cs : List ℕ) (n c : ℕ) → (n < length cs) × (c ≡ get_or cs n c) → written_of (take (n + 1) cs) ≡ written_of (take n cs) ++ encodes (spelling c)
written_more cs n c at =
    ap written_of (take_more cs n c at.0 ∙ ap (λ x. take n cs ++ x ∷ []) (sym at.1))
    ∙ ap encodes (flat_map-append spelling (take n cs) (c ∷ []) ∙ ap (λ (xs : List ℕ). flat_map spelling (take n cs) ++ xs) (append-nil (spelling c)))
    ∙ encodes-append (flat_map spelling (take n cs)) (spelling c)

pub writes_more : (old out new cs : List ℕ) (n m c : ℕ) → new ≡ out ++ encodes (spelling c) → m ≡ n + 1 → (n < length cs) × (c ≡ get_or cs n c) → out ≡ old ++ written_of (take n cs) → new ≡ old ++ written_of (take m cs)
writes_more old out new cs n m c more later at so_far =
    more ∙ ap (λ (xs : List ℕ). xs ++ encodes (spelling c)) so_far ∙ append_assoc old (written_of (take n cs)) (encodes (spelling c))
    ∙ ap (λ (xs : List ℕ). old ++ xs) (sym (written_more cs n c at)) ∙ ap (λ j. old ++ written_of (take j cs)) (sym later)

-- What stood before the writing stands before what is written.
pub failed_after : {A E : Type 0} (r : Result A E) (old new more : List ℕ) → new ≡ old ++ more → OnErr r (Extends old new)
failed_after (Ok x) old new more e = tt
failed_after (Err x) old new more e = ap (take (length old)) e ∙ take-append_seam old more
