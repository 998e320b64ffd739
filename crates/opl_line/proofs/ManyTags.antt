-- Tags that are listed, and then added in any order.
use Rattle.std.proofs.Common.{◌≡◌, ℕ, zero, suc, ◌<◌, Bool, true, false, T, cond, is_some, List, [], ◌∷◌, ◌++◌, length, get_or, set, swap, Option, Some, None, Result, Ok, Err, refl, sym, ap, subst, ◌∙◌, arith, ◌||◌, IsPermutation}
use Rattle.std.specs.Prelude.{◌==◌}
use Rattle.std.specs.Ordering.{eq_by_cmp}
use Rattle.std.specs.FinMap.{is_sorted}
use Rattle.std.specs.FinMap.Entries.{is_sorted-put, find-put}
use Rattle.std.proofs.lemmas.Cmp.{nat_list_cmp_total}
use Rattle.std.proofs.lemmas.List.Sorted.{IsPermutation-keeps}
use Rattle.osm_base.specs.Tags.{Pair, bytes_cmp, value_of, with_tag, has_tag}
use Rattle.osm_base.proofs.TagLaws.{key_itself, has_tag_is, same_keys, either_first}
use Rattle.opl_line.specs.declared.fault.LineFault.{LineFault}
use Rattle.opl_line.specs.declared.fault.LineFault.TheVariants as faults
use Rattle.opl_line.specs.declared.fault.LineAnswer.{LineAnswer}
use Rattle.opl_line.specs.declared.fault.LineAnswer.TheVariants as answers
use Rattle.opl_line.specs.Reads.{◌>>=◌, Fails, Gives, folded, or_fault}
use Rattle.opl_line.specs.Cut.{before, after}
use Rattle.opl_line.specs.Field.{is, tag_into}
use Rattle.opl_text.specs.Text.{unescaped}
use Rattle.opl_line.specs.TagText.{behind_new, tag_value}
use Rattle.opl_line.specs.ManyTags.{tag_added, tags_added, item_after, Listed}
use Rattle.opl_line.proofs.TagSteps.{tag_steps}

-- Steps one after the other.

regrouped : {A B C : Type 0} (r : Result A LineFault) (f : A → Result B LineFault) (g : B → Result C LineFault) → ((r >>= f) >>= g) ≡ (r >>= λ x. f x >>= g)
regrouped (Ok x) f g = refl
regrouped (Err e) f g = refl

unchanged : {A : Type 0} (r : Result A LineFault) → (r >>= λ x. Ok x) ≡ r
unchanged (Ok x) = refl
unchanged (Err e) = refl

-- an item that is read after those that are listed
more : (old new : List Pair) (item : List ℕ) (items : List (List ℕ)) (whole : Result (List Pair) LineFault) → item_after old item ≡ tags_added [] new
    → (tags_added [] old >>= λ tags. folded tag_into tags (item ∷ items)) ≡ whole → (tags_added [] new >>= λ tags. folded tag_into tags items) ≡ whole
more old new item items whole read so_far =
    ap (λ (r : Result (List Pair) LineFault). r >>= λ tags. folded tag_into tags items) (sym read)
    ∙ regrouped (tags_added [] old) (λ tags. tag_into tags item) (λ tags. folded tag_into tags items) ∙ so_far

pub listed_more : (old new : List Pair) (item : List ℕ) (left rest : List (List ℕ)) (whole : Result (List Pair) LineFault) → left ≡ item ∷ rest → item_after old item ≡ tags_added [] new
    → (tags_added [] old >>= λ tags. folded tag_into tags left) ≡ whole → (tags_added [] new >>= λ tags. folded tag_into tags rest) ≡ whole
listed_more old new item left rest whole cut read so_far =
    more old new item rest whole read (ap (λ (items : List (List ℕ)). tags_added [] old >>= λ tags. folded tag_into tags items) (sym cut) ∙ so_far)

-- the last
pub listed_last : (old new : List Pair) (item : List ℕ) (left : List (List ℕ)) (whole : Result (List Pair) LineFault) → left ≡ item ∷ [] → item_after old item ≡ tags_added [] new
    → (tags_added [] old >>= λ tags. folded tag_into tags left) ≡ whole → whole ≡ tags_added [] new
listed_last old new item left whole cut read so_far = sym (listed_more old new item left [] whole cut read so_far) ∙ unchanged (tags_added [] new)

-- one that is broken
pub listed_broken : (e : LineAnswer) (old new : List Pair) (item : List ℕ) (left rest : List (List ℕ)) (whole : Result (List Pair) LineFault) → left ≡ item ∷ rest → Listed {X = Unit {0}} (Err e) new (item_after old item)
    → (tags_added [] old >>= λ tags. folded tag_into tags left) ≡ whole → Listed {X = Unit {0}} (Err e) new whole
listed_broken answers.Memory old new item left rest whole cut read so_far = tt
listed_broken (answers.Bad fault) old new item left rest whole cut read so_far =
    let next : List Pair → Result (List Pair) LineFault = λ tags. folded tag_into tags rest in
    sym so_far ∙ ap (λ (items : List (List ℕ)). tags_added [] old >>= λ tags. folded tag_into tags items) cut
    ∙ sym (regrouped (tags_added [] old) (λ tags. tag_into tags item) next)
    ∙ ap (λ (r : Result (List Pair) LineFault). r >>= next) read ∙ regrouped (tags_added [] new) (λ _. Err fault) next

added_last : (tags ts : List Pair) (t : Pair) → tags_added tags (ts ++ t ∷ []) ≡ (tags_added tags ts >>= λ next. tag_added next t)
added_last tags [] t = unchanged (tag_added tags t)
added_last tags (u ∷ ts) t = (λ i. tag_added tags u >>= λ next. added_last next ts t i) ∙ sym (regrouped (tag_added tags u) (λ next. tags_added next ts) (λ next. tag_added next t))

bound : {A B : Type 0} (b : Bool) (e : LineFault) (x : A) (f : A → Result B LineFault) → (cond b (Err e) (Ok x) >>= f) ≡ cond b (Err e) (f x)
bound true e x f = refl
bound false e x f = refl

step_refused : {A : Type 0} (b : Bool) (rest : List ℕ) (f : List ℕ → Result A LineFault) → (or_fault faults.BadTags (cond b None (Some rest)) >>= f) ≡ cond b (Err faults.BadTags) (f rest)
step_refused true rest f = refl
step_refused false rest f = refl

-- an item with a key
tag_keyed : (tags : List Pair) (item key rest : List ℕ) → or_fault faults.BadText (unescaped (before (is 61) item)) ≡ Ok key → after (is 61) item ≡ Some rest
    → tag_into tags item ≡ cond (length key == 0 || has_tag tags key) (Err faults.BadTags) (tag_value rest >>= λ value. Ok (with_tag tags key value))
unfolding behind_new
tag_keyed tags item key rest k r =
    let ending : Result (List ℕ) LineFault → Option (List ℕ) → Result (List Pair) LineFault = λ read behind. read >>= λ name. or_fault faults.BadTags (behind_new tags name behind) >>= λ text. tag_value text >>= λ value. Ok (with_tag tags name value) in
    tag_steps tags item ∙ (λ i. ending (k i) (r i)) ∙ step_refused (length key == 0 || has_tag tags key) rest (λ text. tag_value text >>= λ value. Ok (with_tag tags key value))

-- and a value,
tag_whole : (tags : List Pair) (item key rest value : List ℕ) → or_fault faults.BadText (unescaped (before (is 61) item)) ≡ Ok key → after (is 61) item ≡ Some rest
    → tag_value rest ≡ Ok value → tag_into tags item ≡ tag_added tags (key, value)
tag_whole tags item key rest value k r v =
    tag_keyed tags item key rest k r ∙ (λ i. cond (length key == 0 || has_tag tags key) (Err faults.BadTags) (v i >>= λ text. Ok (with_tag tags key text)))

-- and one with a key alone
tag_broken : (tags : List Pair) (item key rest : List ℕ) (fault : LineFault) → or_fault faults.BadText (unescaped (before (is 61) item)) ≡ Ok key → after (is 61) item ≡ Some rest
    → tag_value rest ≡ Err fault → tag_into tags item ≡ (tag_added tags (key, key) >>= λ _. Err fault)
tag_broken tags item key rest fault k r v =
    tag_keyed tags item key rest k r ∙ (λ i. cond (length key == 0 || has_tag tags key) (Err faults.BadTags) (v i >>= λ text. Ok (with_tag tags key text)))
    ∙ sym (bound (length key == 0 || has_tag tags key) faults.BadTags (with_tag tags key key) (λ _. Err fault))

pub listed_tag : (old new : List Pair) (item key rest value : List ℕ) → or_fault faults.BadText (unescaped (before (is 61) item)) ≡ Ok key → after (is 61) item ≡ Some rest
    → tag_value rest ≡ Ok value → new ≡ old ++ (key, value) ∷ [] → item_after old item ≡ tags_added [] new
listed_tag old new item key rest value k r v put =
    (λ i. tags_added [] old >>= λ tags. tag_whole tags item key rest value k r v i) ∙ sym (added_last [] old (key, value)) ∙ ap (tags_added []) (sym put)

pub listed_key : (e : LineAnswer) (old new : List Pair) (item key rest : List ℕ) → or_fault faults.BadText (unescaped (before (is 61) item)) ≡ Ok key → after (is 61) item ≡ Some rest
    → Fails e (tag_value rest) → new ≡ old ++ (key, key) ∷ [] → Listed {X = Unit {0}} (Err e) new (item_after old item)
listed_key answers.Memory old new item key rest k r v put = tt
listed_key (answers.Bad fault) old new item key rest k r v put =
    (λ i. tags_added [] old >>= λ tags. tag_broken tags item key rest fault k r v i)
    ∙ sym (regrouped (tags_added [] old) (λ tags. tag_added tags (key, key)) (λ _. Err fault))
    ∙ ap (λ (r : Result (List Pair) LineFault). r >>= λ _. Err fault) (sym (added_last [] old (key, key)) ∙ ap (tags_added []) (sym put))

-- What the list gives where reading stopped at a fault.
pub fault_given : (tags list : List Pair) (fault : LineFault) (read : Result (List Pair) LineFault) → tags_added [] list ≡ Ok tags → read ≡ (tags_added [] list >>= λ _. Err fault) → read ≡ Err fault
fault_given tags list fault read added given = given ∙ ap (λ (r : Result (List Pair) LineFault). r >>= λ _. Err fault) added

pub earlier_given : (e : LineAnswer) (list : List Pair) (fault : LineFault) (read : Result (List Pair) LineFault) → Fails e (tags_added [] list) → read ≡ (tags_added [] list >>= λ _. Err fault) → Fails e read
earlier_given answers.Memory list fault read added given = tt
earlier_given (answers.Bad other) list fault read added given = given ∙ ap (λ (r : Result (List Pair) LineFault). r >>= λ _. Err fault) added

-- Two tags in either order.

some_put : (b : Bool) (v : List ℕ) (o : Option (List ℕ)) → is_some (cond b (Some v) o) ≡ (b || is_some o)
some_put true v o = refl
some_put false v o = refl

has_put : (tags : List Pair) (t : Pair) (q : List ℕ) → has_tag (with_tag tags t.0 t.1) q ≡ (eq_by_cmp bytes_cmp q t.0 || has_tag tags q)
has_put tags t q =
    has_tag_is (with_tag tags t.0 t.1) q ∙ ap is_some (find-put bytes_cmp nat_list_cmp_total q t.0 t.1 tags) ∙ some_put (eq_by_cmp bytes_cmp q t.0) t.1 (value_of tags q)
    ∙ ap (λ b. eq_by_cmp bytes_cmp q t.0 || b) (sym (has_tag_is tags q))

-- whether the first or the second is refused, by their emptiness, presence and sameness
turned : {A : Type 0} (empty_a has_a empty_b has_b same : Bool) (refused x y : A) → (same ≡ false → x ≡ y)
    → cond (empty_a || has_a) refused (cond (empty_b || (same || has_b)) refused x) ≡ cond (empty_b || has_b) refused (cond (empty_a || (same || has_a)) refused y)
turned true has_a true has_b same refused x y h = refl
turned true has_a false true same refused x y h = refl
turned true has_a false false same refused x y h = refl
turned false true true has_b same refused x y h = refl
turned false true false true same refused x y h = refl
turned false true false false true refused x y h = refl
turned false true false false false refused x y h = refl
turned false false true has_b same refused x y h = refl
turned false false false true true refused x y h = refl
turned false false false true false refused x y h = refl
turned false false false false true refused x y h = refl
turned false false false false false refused x y h = h refl

-- two steps written out
two_added : (tags : List Pair) (a b : Pair) (ts : List Pair) → tags_added tags (a ∷ b ∷ ts)
    ≡ cond (length a.0 == 0 || has_tag tags a.0) (Err faults.BadTags) (cond (length b.0 == 0 || (eq_by_cmp bytes_cmp b.0 a.0 || has_tag tags b.0)) (Err faults.BadTags) (tags_added (with_tag (with_tag tags a.0 a.1) b.0 b.1) ts))
two_added tags a b ts =
    let fault : Result (List Pair) LineFault = Err faults.BadTags in
    bound (length a.0 == 0 || has_tag tags a.0) faults.BadTags (with_tag tags a.0 a.1) (λ next. tags_added next (b ∷ ts))
    ∙ ap (λ (r : Result (List Pair) LineFault). cond (length a.0 == 0 || has_tag tags a.0) fault r)
    (bound (length b.0 == 0 || has_tag (with_tag tags a.0 a.1) b.0) faults.BadTags (with_tag (with_tag tags a.0 a.1) b.0 b.1) (λ next. tags_added next ts)
    ∙ ap (λ h. cond (length b.0 == 0 || h) fault (tags_added (with_tag (with_tag tags a.0 a.1) b.0 b.1) ts)) (has_put tags a b.0))

eq_turned : (k j : List ℕ) (s : Bool) → eq_by_cmp bytes_cmp k j ≡ s → eq_by_cmp bytes_cmp j k ≡ s
eq_turned k j true e = ap (λ (x : List ℕ). eq_by_cmp bytes_cmp x k) (sym (same_keys k j e)) ∙ key_itself k
eq_turned k j false e = other (eq_by_cmp bytes_cmp j k) refl
  where
    other : (b : Bool) → eq_by_cmp bytes_cmp j k ≡ b → eq_by_cmp bytes_cmp j k ≡ false
    other true f = let g : eq_by_cmp bytes_cmp k j ≡ true = ap (λ (x : List ℕ). eq_by_cmp bytes_cmp x j) (sym (same_keys j k f)) ∙ key_itself j in (let bad : ⊥ = cc in absurd bad)
    other false f = f

-- the same of two lists, from tags in order
abbrev Alike : List Pair → List Pair → Type 0
Alike xs ys = (tags : List Pair) → T (is_sorted bytes_cmp tags) → tags_added tags xs ≡ tags_added tags ys

exchange : (a b : Pair) (ts : List Pair) → Alike (a ∷ b ∷ ts) (b ∷ a ∷ ts)
exchange a b ts tags sorted =
    two_added tags a b ts
    ∙ turned (length a.0 == 0) (has_tag tags a.0) (length b.0 == 0) (has_tag tags b.0) (eq_by_cmp bytes_cmp b.0 a.0) (Err faults.BadTags)
    (tags_added (with_tag (with_tag tags a.0 a.1) b.0 b.1) ts) (tags_added (with_tag (with_tag tags b.0 b.1) a.0 a.1) ts)
    (λ apart. ap (λ (x : List Pair). tags_added x ts) (either_first tags a b sorted apart))
    ∙ ap (λ s. cond (length b.0 == 0 || has_tag tags b.0) (Err faults.BadTags) (cond (length a.0 == 0 || (s || has_tag tags a.0)) (Err faults.BadTags) (tags_added (with_tag (with_tag tags b.0 b.1) a.0 a.1) ts)))
    (sym (eq_turned b.0 a.0 (eq_by_cmp bytes_cmp b.0 a.0) refl))
    ∙ sym (two_added tags b a ts)

under : (t : Pair) (xs ys : List Pair) → Alike xs ys → Alike (t ∷ xs) (t ∷ ys)
under t xs ys h tags sorted =
    bound (length t.0 == 0 || has_tag tags t.0) faults.BadTags (with_tag tags t.0 t.1) (λ next. tags_added next xs)
    ∙ ap (λ (r : Result (List Pair) LineFault). cond (length t.0 == 0 || has_tag tags t.0) (Err faults.BadTags) r) (h (with_tag tags t.0 t.1) (is_sorted-put bytes_cmp nat_list_cmp_total t.0 t.1 tags sorted))
    ∙ sym (bound (length t.0 == 0 || has_tag tags t.0) faults.BadTags (with_tag tags t.0 t.1) (λ next. tags_added next ys))

-- A relation holds along each permutation if it is reflexive and transitive, and goes under a head and over an exchange of two heads.
module _ {X : Type 0} (R : List X → List X → Type 0) (same : (xs : List X) → R xs xs)
    (skip : (x : X) (xs ys : List X) → R xs ys → R (x ∷ xs) (x ∷ ys))
    (turn : (x y : X) (xs : List X) → R (x ∷ y ∷ xs) (y ∷ x ∷ xs))
    (chain : (xs ys zs : List X) → R xs ys → R ys zs → R xs zs) where
  to_head : (l : List X) (j : ℕ) (x d : X) → j < length l → R (x ∷ l) (get_or l j d ∷ set l j x)
  to_head [] j x d h = absurd (omega arith)
  to_head (y ∷ l) zero x d h = turn x y l
  to_head (y ∷ l) (suc j) x d h =
      chain _ _ _ (turn x y l) (chain _ _ _ (skip y _ _ (to_head l j x d (omega arith))) (turn y (get_or l j d) (set l j x)))

  exchanged : (l : List X) (i j : ℕ) (d : X) → i < length l → j < length l → R l (set (set l i (get_or l j d)) j (get_or l i d))
  exchanged [] i j d p q = absurd (omega arith)
  exchanged (x ∷ l) zero zero d p q = same (x ∷ l)
  exchanged (x ∷ l) zero (suc j) d p q = to_head l j x d (omega arith)
  exchanged (x ∷ l) (suc i) zero d p q = to_head l i x d (omega arith)
  exchanged (x ∷ l) (suc i) (suc j) d p q = skip x _ _ (exchanged l i j d (omega arith) (omega arith))

  swapped : (l : List X) (i j : ℕ) → i < length l → j < length l → R l (swap l i j)
  swapped [] i j p q = same []
  swapped (x ∷ l) i j p q = exchanged (x ∷ l) i j x p q

  along_permutation : (xs ys : List X) → IsPermutation xs ys → R xs ys
  along_permutation xs = IsPermutation-keeps xs (R xs) (same xs) (λ l i j p q h. chain xs l _ h (swapped l i j p q))

-- in any order
added_alike : (xs ys : List Pair) → IsPermutation xs ys → tags_added [] xs ≡ tags_added [] ys
added_alike xs ys moved =
    along_permutation Alike (λ xs tags sorted. refl) under exchange (λ xs ys zs f g tags sorted. f tags sorted ∙ g tags sorted) xs ys moved [] tt

pub given_alike : {X : Type 0} (view : X → List Pair) (result : Result X LineAnswer) (xs ys list start : List Pair) → IsPermutation xs ys → list ≡ ys → start ≡ []
    → Gives view result (tags_added start list) → Gives view result (tags_added [] xs)
given_alike view result xs ys list start moved same none h =
    subst (λ (r : Result (List Pair) LineFault). Gives view result r) ((λ i. tags_added (none i) (same i)) ∙ sym (added_alike xs ys moved)) h
