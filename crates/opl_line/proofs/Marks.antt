-- How many of some bytes are a separator.
use Rattle.std.proofs.Common.{◌≡◌, ℕ, Bool, zero, suc, ◌+◌, ◌-◌, ◌||◌, ◌==◌, true, false, cond, List, [], ◌∷◌, ◌++◌, length, get_or, refl, ap, sym, ◌∙◌, arith}
use Rattle.std.specs.List.{count_by}
use Rattle.std.proofs.lemmas.List.{append_assoc, length-append, get_or-append-add}
use Rattle.std.proofs.lemmas.List.Sums.{sum_by-cons}
use Rattle.memchr.specs.Find.{is_byte, places_from, places}
use Rattle.opl_line.specs.Cut.{is_one_of}

kept : (c : Bool) (i m : ℕ) (xs : List ℕ) → length xs ≡ m → length (cond c (i ∷ xs) xs) ≡ cond c 1 0 + m
kept true i m xs e = omega (arith, e)
kept false i m xs e = omega (arith, e)

both : (b : Bool) → b ≡ (b || b)
both true = refl
both false = refl

-- the byte behind a front
behind : (front : List ℕ) (b : ℕ) (rest : List ℕ) → get_or (front ++ b ∷ rest) (length front) 0 ≡ b
behind [] b rest = refl
behind (a ∷ front) b rest = behind front b rest

from_here : (m : ℕ) (front rest hay : List ℕ) (i : ℕ) → hay ≡ front ++ rest → i ≡ length front → length (places_from (is_byte m) hay i (length rest)) ≡ count_by (is_one_of m m) rest
unfolding places_from
from_here m front [] hay i e j = refl
from_here m front (b ∷ rest) hay i e j =
    let later = from_here m (front ++ b ∷ []) rest hay (i + 1) (e ∙ sym (append_assoc front (b ∷ []) rest)) (ap (λ n. n + 1) j ∙ sym (length-append front (b ∷ []))) in
    kept (is_byte m (get_or hay i 0)) i (count_by (is_one_of m m) rest) (places_from (is_byte m) hay (i + 1) (length rest)) later
    ∙ ap (λ c. cond c 1 0 + count_by (is_one_of m m) rest) (ap (is_byte m) ((λ k. get_or (e k) (j k) 0) ∙ behind front b rest) ∙ both (is_byte m b))
    ∙ sym (sum_by-cons (λ y. cond (is_one_of m m y) 1 0) b rest)

pub marks_counted : (m : ℕ) (bytes : List ℕ) → length (places (is_byte m) bytes) ≡ count_by (is_one_of m m) bytes
marks_counted m bytes =
    let whole : length bytes - 0 ≡ length bytes = omega arith in
    ap (λ n. length (places_from (is_byte m) bytes 0 n)) whole ∙ from_here m [] bytes bytes 0 refl refl
