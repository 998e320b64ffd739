-- What the joined references are: those of the ways, and no others.
use Rattle.std.proofs.Common.{◌≡◌, ◌||◌, ℤ, Bool, true, false, cond, List, [], ◌∷◌, ◌++◌, drop, reverse, Result, Ok, Err, refl, sym, ap, ◌∙◌, subst}
use Rattle.std.specs.Ordering.{int_eq}
use Rattle.std.proofs.lemmas.List.Folds.{list_any-append}
use Rattle.std.proofs.lemmas.List.Sorted.{list_any-IsPermutation, IsPermutation-reverse}
use Rattle.std.proofs.Math.Bool.{or-true}
use Rattle.osm_base.specs.Rank.{is_key}
use Rattle.osm_base.proofs.RisingKeys.{key_itself}
use Rattle.osm_base.specs.declared.key.Key.{Key}
use Rattle.osm_base.proofs.Tests.{by_either}
use Rattle.osm_table.specs.Table.{TableValue}
use Rattle.tool_api.specs.declared.refusal.Refusal.{Refusal}
use Rattle.tool_api.specs.declared.refusal.Refusal.TheVariants.{NotJoined}
use Rattle.tool_api.specs.Checks.{◌>>=◌, is_named}
use Rattle.tool_api.specs.Upkeep.{is_among, first_in}
use Rattle.tool_api.specs.Combine.{refs_at, is_end, same_end, last_in, first_way, next_way, joined_on, joined}

-- each of the references meets a condition
abbrev pub Only : (ℤ → Type 0) → List ℤ → Type 0
Only P refs = (n : ℤ) → is_among refs n ≡ true → P n

only_append : (P : ℤ → Type 0) (xs ys : List ℤ) → Only P xs → Only P ys → Only P (xs ++ ys)
only_append P xs ys f g n h = by_either (is_among xs n) (is_among ys n) (sym (list_any-append (int_eq n) xs ys) ∙ h) (f n) (g n)

only_rest : (P : ℤ → Type 0) (xs : List ℤ) → Only P xs → Only P (drop 1 xs)
only_rest P [] f n h = f n h
only_rest P (x ∷ xs) f n h = f n (ap (λ b. int_eq n x || b) h ∙ or-true (int_eq n x))

pub only_reverse : (P : ℤ → Type 0) (xs : List ℤ) → Only P xs → Only P (reverse xs)
only_reverse P xs f n h = f n (list_any-IsPermutation (int_eq n) xs (reverse xs) (IsPermutation-reverse xs) ∙ h)

first_case : (P : ℤ → Type 0) (second : Key) (refs out : List ℤ) (a b : Bool) → cond a (Ok refs) (cond b (Ok (reverse refs)) (Err (NotJoined second))) ≡ Ok out → Only P refs → Only P out
first_case P second refs out true b e f = subst (Only P) (let i : refs ≡ out = cc in i) f
first_case P second refs out false true e f = subst (Only P) (let i : reverse refs ≡ out = cc in i) (only_reverse P refs f)
first_case P second refs out false false e f = cc

next_case : (P : ℤ → Type 0) (k : Key) (so_far refs out : List ℤ) (a b : Bool) → cond a (Ok (so_far ++ drop 1 refs)) (cond b (Ok (so_far ++ drop 1 (reverse refs))) (Err (NotJoined k))) ≡ Ok out → Only P so_far → Only P refs → Only P out
next_case P k so_far refs out true b e f g = subst (Only P) (let i : so_far ++ drop 1 refs ≡ out = cc in i) (only_append P so_far (drop 1 refs) f (only_rest P refs g))
next_case P k so_far refs out false true e f g = subst (Only P) (let i : so_far ++ drop 1 (reverse refs) ≡ out = cc in i) (only_append P so_far (drop 1 (reverse refs)) f (only_rest P (reverse refs) (only_reverse P refs g)))
next_case P k so_far refs out false false e f g = cc

then_case : (A : Type 0) (r : Result (List ℤ) Refusal) (next : List ℤ → Result (List ℤ) Refusal) (out : List ℤ) → (r >>= next) ≡ Ok out → ((x : List ℤ) → r ≡ Ok x → next x ≡ Ok out → A) → A
then_case A (Ok x) next out e f = f x refl e
then_case A (Err r) next out e f = cc

joined_on_only : (P : ℤ → Type 0) (t : TableValue) (ks : List Key) (so_far out : List ℤ) → ((k : Key) → is_named ks k ≡ true → Only P (refs_at t k)) → Only P so_far → joined_on t so_far ks ≡ Ok out → Only P out
joined_on_only P t [] so_far out all f e = subst (Only P) (let i : so_far ≡ out = cc in i) f
joined_on_only P t (k ∷ ks) so_far out all f e = then_case (Only P out) (next_way k so_far (refs_at t k)) (λ longer. joined_on t longer ks) out e
    (λ longer is more. joined_on_only P t ks longer out (λ j named. all j (ap (λ b. is_key j k || b) named ∙ or-true (is_key j k)))
    (next_case P k so_far (refs_at t k) longer (same_end (last_in so_far) (first_in (refs_at t k))) (same_end (last_in so_far) (last_in (refs_at t k))) is f (all k (ap (λ b. b || is_named ks k) (key_itself k)))) more)

-- where each reference of each way meets a condition, each joined one does
pub joined_only : (P : ℤ → Type 0) (t : TableValue) (ways : List Key) (out : List ℤ) → ((k : Key) → is_named ways k ≡ true → Only P (refs_at t k)) → joined t ways ≡ Ok out → Only P out
joined_only P t [] out all e = subst (Only P) (let i : [] ≡ out = cc in i) (λ n h. cc)
joined_only P t (k ∷ []) out all e = subst (Only P) (let i : refs_at t k ≡ out = cc in i) (all k (ap (λ b. b || false) (key_itself k)))
joined_only P t (k ∷ second ∷ ks) out all e = then_case (Only P out) (first_way second (refs_at t k) (refs_at t second)) (λ first. joined_on t first (second ∷ ks)) out e
    (λ first is more. joined_on_only P t (second ∷ ks) first out (λ j named. all j (ap (λ b. is_key j k || b) named ∙ or-true (is_key j k)))
    (first_case P second (refs_at t k) first (is_end (last_in (refs_at t k)) (refs_at t second)) (is_end (first_in (refs_at t k)) (refs_at t second)) is (all k (ap (λ b. b || is_named (second ∷ ks) k) (key_itself k)))) more)
