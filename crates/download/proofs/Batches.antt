-- What is gathered of objects that lie in batches.
use Rattle.std.proofs.Common.{◌≡◌, ℕ, ◌+◌, ◌<◌, Bool, List, [], ◌∷◌, ◌++◌, length, get_or, set, take, drop, filter, sym, ap, ◌∙◌, arith}
use Rattle.std.proofs.lemmas.Grind.{flat_map-append}
use Rattle.std.proofs.lemmas.List.{drop-set-lt, drop_more, length-set, map-append, take_more, take_more_set}
use Rattle.std.proofs.lemmas.List.Elements.{filter-append}
use Rattle.opl_line.specs.declared.object.OplObject.{OplObject}
use Rattle.opl_file.specs.Objects.{keys_of, objects_in}
use Rattle.opl_file.proofs.Batches.{Batch, in_more}
use Rattle.download.specs.Tell.{refs_of_side, references, AreTellable}

pub all_refs_join : (xs ys : List OplObject) → references (xs ++ ys) ≡ references xs ++ references ys
all_refs_join xs ys = flat_map-append (λ (o : OplObject). refs_of_side o.side) xs ys

pub keys_join : (p : OplObject → Bool) (xs ys : List OplObject) → keys_of (filter p (xs ++ ys)) ≡ keys_of (filter p xs) ++ keys_of (filter p ys)
keys_join p xs ys = ap keys_of (filter-append p xs ys) ∙ map-append (λ (o : OplObject). o.key) (filter p xs) (filter p ys)

pub refs_join : (p : OplObject → Bool) (xs ys : List OplObject) → references (filter p (xs ++ ys)) ≡ references (filter p xs) ++ references (filter p ys)
refs_join p xs ys = ap (λ (os : List OplObject). references os) (filter-append p xs ys) ∙ all_refs_join (filter p xs) (filter p ys)

pub first_tellable : (xs ys : List OplObject) → AreTellable (xs ++ ys) → AreTellable xs
first_tellable [] ys may = tt
first_tellable (x ∷ xs) ys may = (may.0, first_tellable xs ys may.1)

pub rest_tellable : (xs ys : List OplObject) → AreTellable (xs ++ ys) → AreTellable ys
rest_tellable [] ys may = may
rest_tellable (x ∷ xs) ys may = rest_tellable xs ys may.1

-- A walk that filters batch after batch in its place: the first ones hold what passes the test, and the others are as they
-- were.
pub record AreFiltered (p : OplObject → Bool) (before now : List Batch) (i : ℕ) : Type 0 where
  pub same : length now ≡ length before
  pub done : objects_in (take i now) ≡ filter p (objects_in (take i before))
  pub left : drop i now ≡ drop i before

get_first : (d : Batch) (xs ys : List Batch) (i : ℕ) → i < length xs → i < length ys → drop i xs ≡ drop i ys → get_or xs i d ≡ get_or ys i d
get_first d xs ys i within there e =
    ap (λ (bs : List Batch). get_or bs 0 d) (sym (drop_more xs i d within) ∙ e ∙ drop_more ys i d there)

drop_first : (d : Batch) (xs ys : List Batch) (i : ℕ) → i < length xs → i < length ys → drop i xs ≡ drop i ys → drop (i + 1) xs ≡ drop (i + 1) ys
drop_first d xs ys i within there e =
    ap (λ (bs : List Batch). drop 1 bs) (sym (drop_more xs i d within) ∙ e ∙ drop_more ys i d there)

pub next_filtered : (p : OplObject → Bool) (before now : List Batch) (i : ℕ) (d new : Batch) → i < length now → new.items ≡ filter p (get_or now i d).items → AreFiltered p before now i
    → AreFiltered p before (set now i new) (i + 1)
next_filtered p before now i d new within is so_far =
    let old : Batch = get_or now i d in
    let there : i < length before = let s = so_far.same in omega (arith, s) in
    let first : get_or before i d ≡ old = sym (get_first d now before i within there so_far.left) in
    record {
      same = length-set now i new ∙ so_far.same;
      done = ap objects_in (take_more_set now i new within) ∙ in_more (take i now) new
          ∙ (λ j. so_far.done j ++ is j)
          ∙ sym (filter-append p (objects_in (take i before)) old.items)
          ∙ ap (filter p) (sym (in_more (take i before) old) ∙ ap (λ (b : Batch). objects_in (take i before ++ b ∷ [])) (sym first) ∙ ap objects_in (sym (take_more before i d there)));
      left = drop-set-lt (i + 1) now i new (omega arith) ∙ drop_first d now before i within there so_far.left;
    }
