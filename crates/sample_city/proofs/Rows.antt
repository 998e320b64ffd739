-- Objects with the numbers of a row.
use Rattle.std.proofs.Common.{◌≡◌, ◌∙◌, ◌+◌, ◌-◌, ◌≤◌, ◌<◌, ℕ, ℤ, pos, suc, List, [], ◌∷◌, ◌++◌, map, sym, ap, arith, append_assoc, append-nil}
use Rattle.std.specs.List.{range_with_len}
use Rattle.osm_base.specs.declared.key.Kind.{Kind}
use Rattle.osm_base.specs.declared.key.Key.{Key}
use Rattle.osm_base.specs.declared.content.Content.{Content}
use Rattle.osm_table.specs.Told.{ToldValue, with_told}
use Rattle.sample_city.specs.City.{all_told, as_told, numbered}

-- n objects of a kind, from the number a on
abbrev pub row : Kind → (ℕ → Content) → ℕ → ℕ → List (Key × Content)
row kind content a n = map (λ i. (numbered kind i, content i)) (range_with_len a n)

-- those from k on to the last, where k is among them
pub one_less : (k last : ℕ) → k < last → last - k ≡ suc (last - (k + 1))
one_less k last lt = omega arith

pub row_more : (kind : Kind) (content : ℕ → Content) (k last : ℕ) → k < last
    → row kind content k (last - k) ≡ (numbered kind k, content k) ∷ row kind content (k + 1) (last - (k + 1))
row_more kind content k last lt = ap (row kind content k) (one_less k last lt)

pub none_left : (kind : Kind) (content : ℕ → Content) (k last : ℕ) → last ≤ k → row kind content k (last - k) ≡ []
none_left kind content k last past = let none : last - k ≡ 0 = omega arith in ap (row kind content k) none

-- one more of the row is told
pub told_more : (kind : Kind) (content : ℕ → Content) (k last : ℕ) (told after : ToldValue) → k < last
    → after ≡ with_told told (numbered kind k) (as_told (content k))
    → all_told after (row kind content (k + 1) (last - (k + 1))) ≡ all_told told (row kind content k (last - k))
told_more kind content k last told after lt is =
    ap (λ t. all_told t (row kind content (k + 1) (last - (k + 1)))) is ∙ sym (ap (all_told told) (row_more kind content k last lt))

pub told_end : (kind : Kind) (content : ℕ → Content) (k last : ℕ) (told : ToldValue) → last ≤ k → all_told told (row kind content k (last - k)) ≡ told
told_end kind content k last told past = ap (all_told told) (none_left kind content k last past)

-- Ids.

abbrev pub ids : ℕ → ℕ → List ℤ
ids a n = map pos (range_with_len a n)

pub id_more : (k last : ℕ) (so_far : List ℤ) → k < last → (so_far ++ pos k ∷ []) ++ ids (k + 1) (last - (k + 1)) ≡ so_far ++ ids k (last - k)
id_more k last so_far lt = append_assoc so_far (pos k ∷ []) (ids (k + 1) (last - (k + 1))) ∙ sym (ap (λ n. so_far ++ ids k n) (one_less k last lt))

pub id_end : (k last : ℕ) (so_far : List ℤ) → last ≤ k → so_far ++ ids k (last - k) ≡ so_far
id_end k last so_far past = let none : last - k ≡ 0 = omega arith in ap (λ n. so_far ++ ids k n) none ∙ append-nil so_far
