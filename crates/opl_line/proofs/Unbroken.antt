-- Bytes without separators, and what is cut between separators.
use Rattle.std.proofs.Common.{◌≡◌, ℕ, ℤ, zero, suc, pos, negsuc, get_or, ◌<◌, ◌≤◌, ◌+◌, ◌-◌, ◌/◌, ◌%◌, ◌^◌, Bool, true, false, cond, List, [], ◌∷◌, ◌++◌, length, Some, None, refl, ap, ◌∙◌, arith, ltb, eqb}
use Rattle.std.specs.Prelude.{map, ◌==◌}
use Rattle.std.specs.List.{list_all, flat_map}
use Rattle.std.specs.Fmt.{decimal, signed_decimal, digits, digits_onto, digit_glyph}
use Rattle.std.proofs.lemmas.Bool.{or_parts, and_parts}
use Rattle.std.proofs.lemmas.Bool.Decides.{nat_tests}
use Rattle.osm_base.specs.declared.key.Kind.{Kind}
use Rattle.osm_base.specs.declared.key.Kind.TheVariants.{Node, Way, Relation}
use Rattle.osm_base.specs.declared.key.Key.{Key}
use Rattle.osm_base.specs.Number.{letter_of, key_written}
use Rattle.osm_base.specs.Coord.{places_of, size_written, coord_written}
use Rattle.opl_line.specs.Cut.{split, before, after}
use Rattle.opl_line.specs.Field.{is}
use Rattle.opl_line.specs.Line.{is_blank, freed}
use Rattle.opl_line.specs.Written.{spaced, listed}

-- no byte is a separator
abbrev pub Unbroken : (ℕ → Bool) → List ℕ → Type 0
Unbroken ends [] = Unit {0}
Unbroken ends (b ∷ bytes) = (ends b ≡ false) × Unbroken ends bytes

abbrev pub AllUnbroken : (ℕ → Bool) → List (List ℕ) → Type 0
AllUnbroken ends [] = Unit {0}
AllUnbroken ends (p ∷ pieces) = Unbroken ends p × AllUnbroken ends pieces

pub unbroken_append : (ends : ℕ → Bool) (a b : List ℕ) → Unbroken ends a → Unbroken ends b → Unbroken ends (a ++ b)
unbroken_append ends [] b p q = q
unbroken_append ends (c ∷ cs) b p q = (p.0, unbroken_append ends cs b p.1 q)

-- bytes that all pass a test which no separator passes
pub unbroken_from : (test ends : ℕ → Bool) (bytes : List ℕ) → ((b : ℕ) → test b ≡ true → ends b ≡ false) → list_all test bytes ≡ true → Unbroken ends bytes
unbroken_from test ends [] apart h = tt
unbroken_from test ends (b ∷ bytes) apart h = let p = and_parts (test b) (list_all test bytes) h in (apart b p.0, unbroken_from test ends bytes apart p.1)

-- bytes that have none of more separators have none of fewer
pub unbroken_fewer : (ends fewer : ℕ → Bool) (bytes : List ℕ) → ((b : ℕ) → ends b ≡ false → fewer b ≡ false) → Unbroken ends bytes → Unbroken fewer bytes
unbroken_fewer ends fewer [] most h = tt
unbroken_fewer ends fewer (b ∷ bytes) most h = (most b h.0, unbroken_fewer ends fewer bytes most h.1)

pub all_unbroken_fewer : (ends fewer : ℕ → Bool) (pieces : List (List ℕ)) → ((b : ℕ) → ends b ≡ false → fewer b ≡ false) → AllUnbroken ends pieces → AllUnbroken fewer pieces
all_unbroken_fewer ends fewer [] most h = tt
all_unbroken_fewer ends fewer (p ∷ pieces) most h = (unbroken_fewer ends fewer p most h.0, all_unbroken_fewer ends fewer pieces most h.1)

pub all_unbroken_append : (ends : ℕ → Bool) (a b : List (List ℕ)) → AllUnbroken ends a → AllUnbroken ends b → AllUnbroken ends (a ++ b)
all_unbroken_append ends [] b p q = q
all_unbroken_append ends (c ∷ cs) b p q = (p.0, all_unbroken_append ends cs b p.1 q)

-- ---- cut at separators

cut_first : (ends : ℕ → Bool) (p : List ℕ) (mark : ℕ) (rest : List ℕ) → ends mark ≡ true → Unbroken ends p → split ends (p ++ mark ∷ rest) ≡ p ∷ split ends rest
cut_first ends [] mark rest is h = rw is refl
cut_first ends (b ∷ p) mark rest is h = rw (h.0, cut_first ends p mark rest is h.1) refl

cut_last : (ends : ℕ → Bool) (p : List ℕ) → Unbroken ends p → split ends (p ++ []) ≡ p ∷ []
cut_last ends [] h = refl
cut_last ends (b ∷ p) h = rw (h.0, cut_last ends p h.1) refl

-- the pieces of a written line
pub cut_spaced : (p : List ℕ) (pieces : List (List ℕ)) → Unbroken is_blank p → AllUnbroken is_blank pieces → split is_blank (p ++ spaced pieces) ≡ p ∷ pieces
cut_spaced p [] h all = cut_last is_blank p h
cut_spaced p (q ∷ pieces) h all = rw (cut_first is_blank p 32 (q ++ spaced pieces) refl h, cut_spaced q pieces all.0 all.1) refl

-- the items of a written list
pub cut_listed : {A : Type 0} (form : A → List ℕ) (x : A) (xs : List A) → AllUnbroken (is 44) (map form (x ∷ xs)) → split (is 44) (form x ++ flat_map (λ i. 44 ∷ form i) xs) ≡ map form (x ∷ xs)
cut_listed form x [] all = cut_last (is 44) (form x) all.0
cut_listed form x (y ∷ ys) all = rw (cut_first (is 44) (form x) 44 (form y ++ flat_map (λ i. 44 ∷ form i) ys) refl all.0, cut_listed form y ys all.1) refl

pub before_mark : (ends : ℕ → Bool) (p : List ℕ) (mark : ℕ) (rest : List ℕ) → ends mark ≡ true → Unbroken ends p → before ends (p ++ mark ∷ rest) ≡ p
before_mark ends [] mark rest is h = rw is refl
before_mark ends (b ∷ p) mark rest is h = rw (h.0, before_mark ends p mark rest is h.1) refl

pub after_mark : (ends : ℕ → Bool) (p : List ℕ) (mark : ℕ) (rest : List ℕ) → ends mark ≡ true → Unbroken ends p → after ends (p ++ mark ∷ rest) ≡ Some rest
after_mark ends [] mark rest is h = rw is refl
after_mark ends (b ∷ p) mark rest is h = rw h.0 (after_mark ends p mark rest is h.1)

pub before_all : (ends : ℕ → Bool) (p : List ℕ) → Unbroken ends p → before ends p ≡ p
before_all ends [] h = refl
before_all ends (b ∷ p) h = rw (h.0, before_all ends p h.1) refl

pub after_none : (ends : ℕ → Bool) (p : List ℕ) → Unbroken ends p → after ends p ≡ None
after_none ends [] h = refl
after_none ends (b ∷ p) h = rw h.0 (after_none ends p h.1)

-- ---- a whole line

pub unbroken_at : (ends : ℕ → Bool) (bytes : List ℕ) (k : ℕ) → Unbroken ends bytes → k < length bytes → ends (get_or bytes k 0) ≡ false
unbroken_at ends [] k h below = absurd (omega arith)
unbroken_at ends (b ∷ bytes) zero h below = h.0
unbroken_at ends (b ∷ bytes) (suc k) h below = unbroken_at ends bytes k h.1 (omega arith)

-- a line with no CR stays as it is
pub freed_same : (line : List ℕ) → Unbroken (is 13) line → freed line ≡ line
freed_same [] h = refl
freed_same (b ∷ bytes) h =
    let last : (get_or (b ∷ bytes) (length bytes) 0 == 13) ≡ false = (or_parts _ _ (unbroken_at (is 13) (b ∷ bytes) (length bytes) h (omega arith))).0 in
    let at : length (b ∷ bytes) - 1 ≡ length bytes = omega arith in
    let some : ltb 0 (length (b ∷ bytes)) ≡ true = grind (arith, nat_tests) in
    rw (some, at, last) refl

pub unbroken_spaced : (ends : ℕ → Bool) (pieces : List (List ℕ)) → ends 32 ≡ false → AllUnbroken ends pieces → Unbroken ends (spaced pieces)
unbroken_spaced ends [] space h = tt
unbroken_spaced ends (p ∷ pieces) space h = (space, unbroken_append ends p (spaced pieces) h.0 (unbroken_spaced ends pieces space h.1))

more_items : {A : Type 0} (ends : ℕ → Bool) (form : A → List ℕ) (xs : List A) → ends 44 ≡ false → ((x : A) → Unbroken ends (form x)) → Unbroken ends (flat_map (λ i. 44 ∷ form i) xs)
more_items ends form [] comma h = tt
more_items ends form (x ∷ xs) comma h = (comma, unbroken_append ends (form x) (flat_map (λ i. 44 ∷ form i) xs) (h x) (more_items ends form xs comma h))

pub unbroken_listed : {A : Type 0} (ends : ℕ → Bool) (form : A → List ℕ) (xs : List A) → ends 44 ≡ false → ((x : A) → Unbroken ends (form x)) → Unbroken ends (listed form xs)
unbroken_listed ends form [] comma h = tt
unbroken_listed ends form (x ∷ xs) comma h = unbroken_append ends (form x) (flat_map (λ i. 44 ∷ form i) xs) (h x) (more_items ends form xs comma h)

pub unbroken_items : {A : Type 0} (ends : ℕ → Bool) (form : A → List ℕ) (xs : List A) → ((x : A) → Unbroken ends (form x)) → AllUnbroken ends (map form xs)
unbroken_items ends form [] h = tt
unbroken_items ends form (x ∷ xs) h = (h x, unbroken_items ends form xs h)

-- ---- numbers

-- no digit is a separator
abbrev pub SparesDigits : (ℕ → Bool) → Type 0
SparesDigits ends = (b : ℕ) → 48 ≤ b → b ≤ 57 → ends b ≡ false

-- nor any byte from the digits on
abbrev pub SparesAbove : (ℕ → Bool) → Type 0
SparesAbove ends = (b : ℕ) → 48 ≤ b → ends b ≡ false

glyph_is : (d : ℕ) → d < 10 → digit_glyph false d ≡ 48 + d
glyph_is d h = let below : ltb d 10 ≡ true = grind (arith, nat_tests) in rw below refl

glyph_spared : (ends : ℕ → Bool) (n : ℕ) → SparesDigits ends → ends (digit_glyph false (n % 10)) ≡ false
glyph_spared ends n spares = ap ends (glyph_is (n % 10) (omega arith)) ∙ spares (48 + n % 10) (omega arith) (omega arith)

digits_unbroken : (ends : ℕ → Bool) (k n : ℕ) (rest : List ℕ) → SparesDigits ends → Unbroken ends rest → Unbroken ends (digits_onto k 10 false n rest)
digits_unbroken ends zero n rest spares h = h
digits_unbroken ends (suc k) n rest spares h =
    let more : Unbroken ends (digit_glyph false (n % 10) ∷ rest) = (glyph_spared ends n spares, h) in
    elim (eqb (n / 10) 0) as (λ b. Unbroken ends (cond b (digit_glyph false (n % 10) ∷ rest) (digits_onto k 10 false (n / 10) (digit_glyph false (n % 10) ∷ rest)))) [
      | true ↦ more
      | false ↦ digits_unbroken ends k (n / 10) (digit_glyph false (n % 10) ∷ rest) spares more
    ]

pub decimal_unbroken : (ends : ℕ → Bool) (n : ℕ) → SparesDigits ends → Unbroken ends (decimal n)
unfolding digits
decimal_unbroken ends n spares = digits_unbroken ends 64 n [] spares tt

pub signed_unbroken : (ends : ℕ → Bool) (z : ℤ) → ends 45 ≡ false → SparesDigits ends → Unbroken ends (signed_decimal z)
signed_unbroken ends (pos n) minus spares = decimal_unbroken ends n spares
signed_unbroken ends (negsuc n) minus spares = (minus, decimal_unbroken ends (suc n) spares)

letter_spared : (ends : ℕ → Bool) (kind : Kind) → SparesAbove ends → ends (letter_of kind) ≡ false
letter_spared ends Node spares = spares 110 (omega arith)
letter_spared ends Way spares = spares 119 (omega arith)
letter_spared ends Relation spares = spares 114 (omega arith)

pub key_unbroken : (ends : ℕ → Bool) (key : Key) → ends 45 ≡ false → SparesAbove ends → Unbroken ends (key_written key)
key_unbroken ends key minus spares = (letter_spared ends key.kind spares, signed_unbroken ends key.id minus (λ b least most. spares b least))

places_unbroken : (ends : ℕ → Bool) (k n : ℕ) → SparesAbove ends → Unbroken ends (places_of k n)
unfolding places_of
places_unbroken ends zero n spares = tt
places_unbroken ends (suc k) n spares =
    elim (eqb n 0) as (λ b. Unbroken ends (cond b [] ((48 + n / 10 ^ k) ∷ places_of k (n % 10 ^ k)))) [
      | true ↦ tt
      | false ↦ (spares (48 + n / 10 ^ k) (omega arith), places_unbroken ends k (n % 10 ^ k) spares)
    ]

size_unbroken : (ends : ℕ → Bool) (n : ℕ) → ends 46 ≡ false → SparesAbove ends → Unbroken ends (size_written n)
unfolding size_written
size_unbroken ends n point spares =
    unbroken_append ends (decimal (n / 10000000)) _ (decimal_unbroken ends (n / 10000000) (λ b least most. spares b least))
    (elim (eqb (n % 10000000) 0) as (λ b. Unbroken ends (cond b [] (46 ∷ places_of 7 (n % 10000000)))) [
      | true ↦ tt
      | false ↦ (point, places_unbroken ends 7 (n % 10000000) spares)
    ])

pub coord_unbroken : (ends : ℕ → Bool) (z : ℤ) → ends 45 ≡ false → ends 46 ≡ false → SparesAbove ends → Unbroken ends (coord_written z)
coord_unbroken ends (pos n) minus point spares = size_unbroken ends n point spares
coord_unbroken ends (negsuc n) minus point spares = (minus, size_unbroken ends (suc n) point spares)
