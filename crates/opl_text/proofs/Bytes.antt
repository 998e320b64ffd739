-- Tests of the characters of a text, and of its bytes.
use Rattle.std.proofs.Common.{◌≡◌, ℕ, ◌+◌, ◌/◌, ◌≤◌, Bool, true, List, [], ◌∷◌, ◌++◌, refl, ◌∙◌, inl, inr, arith, ltb}
use Rattle.std.specs.List.{list_all}
use Rattle.std.proofs.lemmas.Bool.{cases_lt, and_parts, and_from, le-ltb, cond_both}
use Rattle.std.proofs.lemmas.List.Folds.{list_all-append}
use Rattle.std.proofs.lemmas.Str.{encode_ascii}
use lib.Utf8.{encode, encodes, next}

-- two tests, of the front and of the rest
pub all_parts : (p : ℕ → Bool) (xs ys : List ℕ) → list_all p (xs ++ ys) ≡ true → (list_all p xs ≡ true) × (list_all p ys ≡ true)
all_parts p xs ys h = let e = list_all-append p xs ys in and_parts (list_all p xs) (list_all p ys) (rw (← e) h)

pub all_joined : (p : ℕ → Bool) (xs ys : List ℕ) → list_all p xs ≡ true → list_all p ys ≡ true → list_all p (xs ++ ys) ≡ true
all_joined p xs ys h k = list_all-append p xs ys ∙ and_from (list_all p xs) (list_all p ys) h k

-- A test that every byte from 128 on passes: the characters pass where the bytes do.
character_passes : (p : ℕ → Bool) → ((c : ℕ) → 128 ≤ c → p c ≡ true) → (c : ℕ) → list_all p (encode c) ≡ true → p c ≡ true
character_passes p high c h = elim (cases_lt c 128) [
  | inl low ↦ let e = encode_ascii c low in let k = rw e at h in (and_parts (p c) true k).0
  | inr up ↦ high c up
]

pub characters_pass : (p : ℕ → Bool) → ((c : ℕ) → 128 ≤ c → p c ≡ true) → (cs : List ℕ) → list_all p (encodes cs) ≡ true → list_all p cs ≡ true
characters_pass p high [] h = refl
characters_pass p high (c ∷ cs) h =
    let k = all_parts p (encode c) (encodes cs) h in
    and_from (p c) (list_all p cs) (character_passes p high c k.0) (characters_pass p high cs k.1)

-- and the bytes do where the characters do
first_passes : (p : ℕ → Bool) → ((c : ℕ) → 128 ≤ c → p c ≡ true) → (b : ℕ) (bs : List ℕ) → 128 ≤ b → list_all p bs ≡ true → list_all p (b ∷ bs) ≡ true
first_passes p high b bs up h = and_from (p b) (list_all p bs) (high b up) h

high_bytes : (p : ℕ → Bool) → ((c : ℕ) → 128 ≤ c → p c ≡ true) → (c : ℕ) → 128 ≤ c → list_all p (encode c) ≡ true
unfolding encode
high_bytes p high c up =
    let later : (n : ℕ) (bs : List ℕ) → list_all p bs ≡ true → list_all p (next n ∷ bs) ≡ true = λ n bs h. first_passes p high (next n) bs (omega arith) h in
    let lead : (n : ℕ) (bs : List ℕ) → 128 ≤ n → list_all p bs ≡ true → list_all p (n ∷ bs) ≡ true = first_passes p high in
    rw (le-ltb c 128 up)
    (cond_both (ltb c 2048) _ _ (λ (bs : List ℕ). list_all p bs ≡ true)
    (λ e. lead (192 + c / 64) (next c ∷ []) (omega arith) (later c [] refl))
    (λ e. cond_both (ltb c 65536) _ _ (λ (bs : List ℕ). list_all p bs ≡ true)
    (λ f. lead (224 + c / 4096) (next (c / 64) ∷ next c ∷ []) (omega arith) (later (c / 64) (next c ∷ []) (later c [] refl)))
    (λ f. lead (240 + c / 262144) (next (c / 4096) ∷ next (c / 64) ∷ next c ∷ []) (omega arith) (later (c / 4096) (next (c / 64) ∷ next c ∷ []) (later (c / 64) (next c ∷ []) (later c [] refl))))))

byte_passes : (p : ℕ → Bool) → ((c : ℕ) → 128 ≤ c → p c ≡ true) → (c : ℕ) → p c ≡ true → list_all p (encode c) ≡ true
byte_passes p high c h = elim (cases_lt c 128) [
  | inl low ↦ rw (encode_ascii c low) (and_from (p c) true h refl)
  | inr up ↦ high_bytes p high c up
]

pub bytes_pass : (p : ℕ → Bool) → ((c : ℕ) → 128 ≤ c → p c ≡ true) → (cs : List ℕ) → list_all p cs ≡ true → list_all p (encodes cs) ≡ true
bytes_pass p high [] h = refl
bytes_pass p high (c ∷ cs) h =
    let k = and_parts (p c) (list_all p cs) h in
    all_joined p (encode c) (encodes cs) (byte_passes p high c k.0) (bytes_pass p high cs k.1)
