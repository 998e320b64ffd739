-- Objects that lie in batches.
use Rattle.std.proofs.Common.{◌≡◌, ℕ, ◌+◌, ◌-◌, ◌<◌, List, [], ◌∷◌, ◌++◌, Option, None, Some, MatchOption, Bor, Vec, Global, take, drop, take-append-drop, length, get_or, slice_set, refl, sym, ap, subst, ◌∙◌, arith}
use Rattle.std.specs.List.{AllByRecursion, fold, slice_get}
use Rattle.std.specs.Option.{option_copied}
use Rattle.std.proofs.lemmas.Grind.{flat_map-append}
use Rattle.std.proofs.lemmas.List.{append_assoc, append-nil, drop_all, drop_more, length-take-le}
use Rattle.std.proofs.lemmas.List.Sums.{fold-append}
use Rattle.std.proofs.lemmas.Option.{get_or_from_slice_get, slice_get-get_or, slice_get_within}
use Rattle.std.proofs.Math.Seq.{set-append_seam}
use Rattle.opl_line.specs.declared.object.OplObject.{OplObject}
use Rattle.opl_file.specs.Objects.{objects_in}

abbrev pub Batch : Type 0
Batch = Vec OplObject Global

-- the objects of a batch behind those of others
pub in_more : (front : List Batch) (batch : Batch) → objects_in (front ++ batch ∷ []) ≡ objects_in front ++ batch.items
in_more front batch = flat_map-append (λ (b : Batch). b.items) front (batch ∷ []) ∙ ap (λ os. objects_in front ++ os) (append-nil batch.items)

-- What a walk over batches gathers by a fold goes on with the next batch. What it gathers of batch behind batch is what it
-- gathers of all objects.
pub next_batch : {S X : Type 0} (f : S → X → S) (g : List OplObject → List X) → ((xs ys : List OplObject) → g (xs ++ ys) ≡ g xs ++ g ys)
    → (batches : List Batch) (i : ℕ) (batch : Batch) (old new : S) → i < length batches → batch ≡ get_or batches i batch → new ≡ fold f old (g batch.items)
    → fold f new (g (objects_in (drop (i + 1) batches))) ≡ fold f old (g (objects_in (drop i batches)))
next_batch f g joins batches i batch old new within at is =
    let rest : List Batch = drop (i + 1) batches in
    let left : drop i batches ≡ batch ∷ rest = drop_more batches i batch within ∙ ap (λ (b : Batch). b ∷ rest) (sym at) in
    ap (λ s. fold f s (g (objects_in rest))) is
    ∙ sym (fold-append f old (g batch.items) (g (objects_in rest)))
    ∙ ap (fold f old) (sym (joins batch.items (objects_in rest)))
    ∙ ap (λ (bs : List Batch). fold f old (g (objects_in bs))) (sym left)

-- a list before its last item
last_behind : {X : Type 0} (xs : List X) (n : ℕ) (last : X) → n ≡ length xs → 0 < n → last ≡ get_or xs (n - 1) last → xs ≡ take (n - 1) xs ++ last ∷ []
last_behind xs n last e some at =
    sym (take-append-drop (n - 1) xs)
    ∙ ap (λ ys. take (n - 1) xs ++ ys) (drop_more xs (n - 1) last (omega (arith, e)) ∙ ap (λ ys. get_or xs (n - 1) last ∷ ys) (drop_all (n - 1 + 1) xs (omega (arith, e))) ∙ ap (λ x. x ∷ []) (sym at))

-- the last batch with more objects behind its own
pub last_filled : (batches : List Batch) (n : ℕ) (old new : Batch) (more : List OplObject) → n ≡ length batches → 0 < n → old ≡ get_or batches (n - 1) old → new.items ≡ old.items ++ more
    → objects_in (slice_set batches (n - 1) new) ≡ objects_in batches ++ more
last_filled batches n old new more e some at is =
    let front : List Batch = take (n - 1) batches in
    let parts : batches ≡ front ++ old ∷ [] = last_behind batches n old e some at in
    let place : n - 1 ≡ length front = sym (length-take-le (n - 1) batches (omega (arith, e))) in
    ap (λ bs. objects_in (slice_set bs (n - 1) new)) parts
    ∙ ap (λ i. objects_in (slice_set (front ++ old ∷ []) i new)) place
    ∙ ap objects_in (set-append_seam front old [] new)
    ∙ in_more front new
    ∙ ap (λ os. objects_in front ++ os) is
    ∙ sym (append_assoc (objects_in front) old.items more)
    ∙ ap (λ os. os ++ more) (sym (ap objects_in parts ∙ in_more front old))

abbrev IsFilled : Batch → Type 0
IsFilled batch = 0 < length batch.items

all_after : (front : List Batch) (batch : Batch) → AllByRecursion IsFilled (front ++ batch ∷ []) → IsFilled batch
all_after [] batch h = h.0
all_after (b ∷ bs) batch h = all_after bs batch h.1

last_of : (last : Option (Bor OplObject)) (own : List OplObject) → 0 < length own → option_copied last ≡ slice_get own (length own - 1) → (before objects : List OplObject) → objects ≡ before ++ own
    → MatchOption last (objects ≡ []) (λ last. (front : List OplObject) × (objects ≡ front ++ last.now ∷ []))
last_of None [] some found before objects is = absurd (omega (arith, some))
last_of None (o ∷ os) some found before objects is =
    let there : slice_get (o ∷ os) (length (o ∷ os) - 1) ≡ Some (get_or (o ∷ os) (length (o ∷ os) - 1) o) = slice_get-get_or (o ∷ os) (length (o ∷ os) - 1) o (omega arith) in
    let no : None ≡ Some (get_or (o ∷ os) (length (o ∷ os) - 1) o) = found ∙ there in cc
last_of (Some last) own some found before objects is =
    let at : last.now ≡ get_or own (length own - 1) last.now = sym (get_or_from_slice_get own (length own - 1) last.now last.now (sym found)) in
    let parts : own ≡ take (length own - 1) own ++ last.now ∷ [] = last_behind own (length own) last.now refl some at in
    (before ++ take (length own - 1) own, is ∙ ap (λ os. before ++ os) parts ∙ sym (append_assoc before (take (length own - 1) own) (last.now ∷ [])))

-- The last object is that of the last batch, as no batch is empty.
pub last_object : (batches : List Batch) (batch : Batch) (objects : List OplObject) (last : Option (Bor OplObject)) → AllByRecursion IsFilled batches → objects_in batches ≡ objects
    → Some batch ≡ slice_get batches (length batches - 1) → option_copied last ≡ slice_get batch.items (length batch.items - 1)
    → MatchOption last (objects ≡ []) (λ last. (front : List OplObject) × (objects ≡ front ++ last.now ∷ []))
last_object batches batch objects last filled is at found =
    let there : length batches - 1 < length batches = slice_get_within batches (length batches - 1) batch (sym at) in
    let front : List Batch = take (length batches - 1) batches in
    let parts : batches ≡ front ++ batch ∷ [] = last_behind batches (length batches) batch refl (omega (arith, there)) (sym (get_or_from_slice_get batches (length batches - 1) batch batch (sym at))) in
    let some : 0 < length batch.items = (all_after front batch (subst (AllByRecursion IsFilled) parts filled)) in
    last_of last batch.items some found (objects_in front) objects (sym is ∙ ap objects_in parts ∙ in_more front batch)
