-- The pieces of references lie between the cuts.
use Rattle.std.proofs.Common.{◌≡◌, ◌+◌, ◌-◌, ◌<◌, ◌≤◌, ◌&&◌, ◌||◌, ℕ, ℤ, zero, suc, Bool, true, false, cond, not, nat_lt, nat_le, List, [], ◌∷◌, ◌++◌, length, drop, take, flat_map, Option, Some, None, refl, sym, ap, ◌∙◌, subst, append_assoc, arith}
use Rattle.std.specs.List.{list_all, list_any, last_or}
use Rattle.std.specs.Cmp.{first_so, second_so}
use Rattle.std.proofs.lemmas.Bool.Decides.{nat_tests, Decides-int_eq}
use Rattle.std.proofs.lemmas.List.{append-nil, length-append}
use Rattle.std.proofs.lemmas.List.Folds.{list_any-append}
use Rattle.std.proofs.lemmas.Bool.{or_parts, not-true, and_from, and_right, or_from}
use Rattle.std.proofs.Math.Seq.{take-append_seam}
use Rattle.tool_api.specs.Combine.{last_in, same_end}
use Rattle.tool_api.specs.Split.{pieces_from, pieces}
use Rattle.job_laws.specs.SplitPieces.{together, inner, all_meet, LieBetween}

more : (piece : List ℤ) (x : ℤ) → length (piece ++ x ∷ []) ≡ length piece + 1
more piece x = length-append piece (x ∷ [])

-- Put together they are the references.

rest_case : (c : Bool) (piece xs : List ℤ) (x y : ℤ) (begun left : List (List ℤ)) → flat_map (drop 1) begun ≡ xs → flat_map (drop 1) left ≡ (piece ++ x ∷ []) ++ xs
    → flat_map (drop 1) (cond c ((y ∷ (piece ++ x ∷ [])) ∷ begun) left) ≡ piece ++ x ∷ xs
rest_case true piece xs x y begun left e f = ap (λ zs. (piece ++ x ∷ []) ++ zs) e ∙ append_assoc piece (x ∷ []) xs
rest_case false piece xs x y begun left e f = f ∙ append_assoc piece (x ∷ []) xs

rest_whole : (cut : ℤ → Bool) (y : ℤ) (piece xs : List ℤ) → flat_map (drop 1) (pieces_from cut (y ∷ piece) xs) ≡ piece ++ xs
rest_whole cut y piece [] = refl
rest_whole cut y piece (x ∷ xs) =
    rest_case (nat_lt 0 (length xs) && cut x) piece xs x y (pieces_from cut (x ∷ []) xs) (pieces_from cut (y ∷ (piece ++ x ∷ [])) xs) (rest_whole cut x [] xs) (rest_whole cut y (piece ++ x ∷ []) xs)

together_case : (c : Bool) (piece xs : List ℤ) (x : ℤ) (begun left : List (List ℤ)) → flat_map (drop 1) begun ≡ xs → together left ≡ (piece ++ x ∷ []) ++ xs
    → together (cond c ((piece ++ x ∷ []) ∷ begun) left) ≡ piece ++ x ∷ xs
together_case true piece xs x begun left e f = ap (λ zs. (piece ++ x ∷ []) ++ zs) e ∙ append_assoc piece (x ∷ []) xs
together_case false piece xs x begun left e f = f ∙ append_assoc piece (x ∷ []) xs

whole_from : (cut : ℤ → Bool) (piece xs : List ℤ) → together (pieces_from cut piece xs) ≡ piece ++ xs
whole_from cut piece [] = refl
whole_from cut piece (x ∷ xs) =
    together_case (nat_lt 0 (length xs) && cut x) piece xs x (pieces_from cut (x ∷ []) xs) (pieces_from cut (piece ++ x ∷ []) xs) (rest_whole cut x [] xs) (whole_from cut (piece ++ x ∷ []) xs)

whole : (cut : ℤ → Bool) (refs : List ℤ) → together (pieces cut refs) ≡ refs
whole cut [] = refl
whole cut (x ∷ xs) = whole_from cut (x ∷ []) xs

-- No inner node is a cut.

abbrev uncut : (ℤ → Bool) → List ℤ → Bool
uncut cut p = not (list_any cut (inner p))

inner_longer : (y : ℤ) (piece : List ℤ) (x : ℤ) → inner (y ∷ (piece ++ x ∷ [])) ≡ piece
inner_longer y piece x =
    let m = more piece x in
    let n : length (y ∷ (piece ++ x ∷ [])) - 1 ≡ suc (length piece) = omega (arith, m) in
    ap (λ n. drop 1 (take n (y ∷ (piece ++ x ∷ [])))) n ∙ take-append_seam piece (x ∷ [])

taken_case : (a b c : Bool) → (a || b) ≡ false → (b ≡ false → c ≡ false) → (a || c) ≡ false
taken_case true b c e h = cc
taken_case false b c e h = h e

taken_none : (cut : ℤ → Bool) (n : ℕ) (xs : List ℤ) → list_any cut xs ≡ false → list_any cut (take n xs) ≡ false
taken_none cut zero xs e = refl
taken_none cut (suc n) [] e = refl
taken_none cut (suc n) (x ∷ xs) e = taken_case (cut x) (list_any cut xs) (list_any cut (take n xs)) e (taken_none cut n xs)

inner_none : (cut : ℤ → Bool) (y : ℤ) (piece : List ℤ) → list_any cut piece ≡ false → list_any cut (inner (y ∷ piece)) ≡ false
inner_none cut y [] e = refl
inner_none cut y (z ∷ zs) e =
    let n : length (y ∷ z ∷ zs) - 1 ≡ suc (length zs) = omega arith in
    ap (λ n. list_any cut (drop 1 (take n (y ∷ z ∷ zs)))) n ∙ taken_none cut (length zs) (z ∷ zs) e

longer_uncut : (cut : ℤ → Bool) (y : ℤ) (piece : List ℤ) (x : ℤ) → list_any cut piece ≡ false → uncut cut (y ∷ (piece ++ x ∷ [])) ≡ true
longer_uncut cut y piece x e = ap (λ zs. not (list_any cut zs)) (inner_longer y piece x) ∙ ap not e

uncut_case : (cut : ℤ → Bool) (c : Bool) (p : List ℤ) (begun left : List (List ℤ)) → uncut cut p ≡ true → list_all (uncut cut) begun ≡ true → (c ≡ false → list_all (uncut cut) left ≡ true)
    → list_all (uncut cut) (cond c (p ∷ begun) left) ≡ true
uncut_case cut true p begun left e f g = and_from (uncut cut p) (list_all (uncut cut) begun) e f
uncut_case cut false p begun left e f g = g refl

some_after : (n : ℕ) → nat_lt 0 (suc n) ≡ true
some_after n = grind (arith, nat_tests)

not_cut : (a b : Bool) → a ≡ true → (a && b) ≡ false → b ≡ false
not_cut true b e f = f
not_cut false b e f = cc

uncut_from : (cut : ℤ → Bool) (y : ℤ) (piece xs : List ℤ) → list_any cut piece ≡ false → list_all (uncut cut) (pieces_from cut (y ∷ piece) xs) ≡ true
uncut_from cut y piece [] e = and_from (uncut cut (y ∷ piece)) true (ap not (inner_none cut y piece e)) refl
uncut_from cut y piece (x ∷ []) e = and_from (uncut cut (y ∷ (piece ++ x ∷ []))) true (longer_uncut cut y piece x e) refl
uncut_from cut y piece (x ∷ z ∷ zs) e =
    uncut_case cut (nat_lt 0 (length (z ∷ zs)) && cut x) (y ∷ (piece ++ x ∷ [])) (pieces_from cut (x ∷ []) (z ∷ zs)) (pieces_from cut (y ∷ (piece ++ x ∷ [])) (z ∷ zs)) (longer_uncut cut y piece x e) (uncut_from cut x [] (z ∷ zs) refl)
    (λ no. uncut_from cut y (piece ++ x ∷ []) (z ∷ zs) (list_any-append cut piece (x ∷ []) ∙ or_from (list_any cut piece) (cut x || false) e (or_from (cut x) false (not_cut (nat_lt 0 (length (z ∷ zs))) (cut x) (some_after (length zs)) no) refl)))

no_inner_cut : (cut : ℤ → Bool) (refs : List ℤ) → list_all (λ p. not (list_any cut (inner p))) (pieces cut refs) ≡ true
no_inner_cut cut [] = refl
no_inner_cut cut (x ∷ xs) = uncut_from cut x [] xs refl

-- They meet at cuts.

abbrev Begins : ℤ → List (List ℤ) → Type 0
Begins y ps = (q : List ℤ) × (qs : List (List ℤ)) × (ps ≡ (y ∷ q) ∷ qs)

begins_case : (c : Bool) (y : ℤ) (q : List ℤ) (begun left : List (List ℤ)) → Begins y left → Begins y (cond c ((y ∷ q) ∷ begun) left)
begins_case true y q begun left h = (q, begun, refl)
begins_case false y q begun left h = h

begins : (cut : ℤ → Bool) (y : ℤ) (piece xs : List ℤ) → Begins y (pieces_from cut (y ∷ piece) xs)
begins cut y piece [] = (piece, [], refl)
begins cut y piece (x ∷ xs) = begins_case (nat_lt 0 (length xs) && cut x) y (piece ++ x ∷ []) (pieces_from cut (x ∷ []) xs) (pieces_from cut (y ∷ (piece ++ x ∷ [])) xs) (begins cut y (piece ++ x ∷ []) xs)

ends : (o : Option ℤ) (piece : List ℤ) (x : ℤ) → last_or o (piece ++ x ∷ []) ≡ Some x
ends o [] x = refl
ends o (z ∷ zs) x = ends (Some z) zs x

meets : (cut : ℤ → Bool) (p : List ℤ) (x : ℤ) (ps : List (List ℤ)) → last_in p ≡ Some x → cut x ≡ true → Begins x ps → all_meet cut ps ≡ true → all_meet cut (p ∷ ps) ≡ true
meets cut p x ps last is (q, qs, e) h =
    subst (λ (zs : List (List ℤ)). all_meet cut (p ∷ zs) ≡ true) (sym e)
    (and_from (same_end (last_in p) (Some x) && cut x) (all_meet cut ((x ∷ q) ∷ qs))
    (and_from (same_end (last_in p) (Some x)) (cut x) (ap (λ o. same_end o (Some x)) last ∙ (Decides-int_eq x x).1 refl) is) (ap (all_meet cut) (sym e) ∙ h))

meet_case : (cut : ℤ → Bool) (c : Bool) (p : List ℤ) (x : ℤ) (begun left : List (List ℤ)) → last_in p ≡ Some x → (c ≡ true → cut x ≡ true) → Begins x begun → all_meet cut begun ≡ true → all_meet cut left ≡ true
    → all_meet cut (cond c (p ∷ begun) left) ≡ true
meet_case cut true p x begun left last is h e f = meets cut p x begun last (is refl) h e
meet_case cut false p x begun left last is h e f = f

meet_from : (cut : ℤ → Bool) (piece xs : List ℤ) → all_meet cut (pieces_from cut piece xs) ≡ true
meet_from cut piece [] = refl
meet_from cut piece (x ∷ xs) =
    meet_case cut (nat_lt 0 (length xs) && cut x) (piece ++ x ∷ []) x (pieces_from cut (x ∷ []) xs) (pieces_from cut (piece ++ x ∷ []) xs)
    (ends None piece x) (second_so (nat_lt 0 (length xs)) (cut x)) (begins cut x [] xs) (meet_from cut (x ∷ []) xs) (meet_from cut (piece ++ x ∷ []) xs)

meet_at_cuts : (cut : ℤ → Bool) (refs : List ℤ) → all_meet cut (pieces cut refs) ≡ true
meet_at_cuts cut [] = refl
meet_at_cuts cut (x ∷ xs) = meet_from cut (x ∷ []) xs

-- None is a node alone.

two_more : (n : ℕ) → 1 ≤ n → nat_le 2 (suc n) ≡ true
two_more n h = grind (arith, nat_tests)

some_left : (n : ℕ) → nat_lt 0 n ≡ true → 1 ≤ n
some_left n e = grind (arith, nat_tests)

long_case : (c : Bool) (p : List ℤ) (begun left : List (List ℤ)) → nat_le 2 (length p) ≡ true → (c ≡ true → list_all (λ (q : List ℤ). nat_le 2 (length q)) begun ≡ true) → list_all (λ (q : List ℤ). nat_le 2 (length q)) left ≡ true
    → list_all (λ (q : List ℤ). nat_le 2 (length q)) (cond c (p ∷ begun) left) ≡ true
long_case true p begun left e f g = and_from (nat_le 2 (length p)) _ e (f refl)
long_case false p begun left e f g = g

long_from : (cut : ℤ → Bool) (y : ℤ) (piece xs : List ℤ) → 1 ≤ length piece + length xs → list_all (λ (q : List ℤ). nat_le 2 (length q)) (pieces_from cut (y ∷ piece) xs) ≡ true
long_from cut y piece [] h = and_from (nat_le 2 (suc (length piece))) true (two_more (length piece) (omega (arith, h))) refl
long_from cut y piece (x ∷ xs) h =
    let m = more piece x in
    long_case (nat_lt 0 (length xs) && cut x) (y ∷ (piece ++ x ∷ [])) (pieces_from cut (x ∷ []) xs) (pieces_from cut (y ∷ (piece ++ x ∷ [])) xs) (two_more (length (piece ++ x ∷ [])) (omega (arith, m)))
    (λ c. long_from cut x [] xs (let some = some_left (length xs) (first_so (nat_lt 0 (length xs)) (cut x) c) in omega (arith, some))) (long_from cut y (piece ++ x ∷ []) xs (omega (arith, m)))

none_alone : (cut : ℤ → Bool) (refs : List ℤ) → 2 ≤ length refs → list_all (λ p. nat_le 2 (length p)) (pieces cut refs) ≡ true
none_alone cut [] h = refl
none_alone cut (x ∷ xs) h = long_from cut x [] xs (omega (arith, h))

pub lie_between : (cut : ℤ → Bool) (refs : List ℤ) → 2 ≤ length refs → LieBetween cut refs (pieces cut refs)
lie_between cut refs h = record { whole = whole cut refs; uncut = no_inner_cut cut refs; joints = meet_at_cuts cut refs; long = none_alone cut refs h }

-- No other pieces do.

not_here : (cut : ℤ → Bool) (piece xs : List ℤ) (x : ℤ) → cut x ≡ false → pieces_from cut piece (x ∷ xs) ≡ pieces_from cut (piece ++ x ∷ []) xs
not_here cut piece xs x e = ap (λ c. cond c ((piece ++ x ∷ []) ∷ pieces_from cut (x ∷ []) xs) (pieces_from cut (piece ++ x ∷ []) xs)) (and_right (nat_lt 0 (length xs)) (cut x) e)

here : (cut : ℤ → Bool) (piece xs : List ℤ) (x : ℤ) → 0 < length xs → cut x ≡ true → pieces_from cut piece (x ∷ xs) ≡ (piece ++ x ∷ []) ∷ pieces_from cut (x ∷ []) xs
here cut piece xs x some e =
    let more : nat_lt 0 (length xs) ≡ true = grind (arith, nat_tests) in
    ap (λ c. cond c ((piece ++ x ∷ []) ∷ pieces_from cut (x ∷ []) xs) (pieces_from cut (piece ++ x ∷ []) xs)) (and_from (nat_lt 0 (length xs)) (cut x) more e)

last_one : (cut : ℤ → Bool) (piece front : List ℤ) (z : ℤ) → list_any cut front ≡ false → pieces_from cut piece (front ++ z ∷ []) ≡ (piece ++ (front ++ z ∷ [])) ∷ []
last_one cut piece [] z none = refl
last_one cut piece (f ∷ fs) z none =
    let n = or_parts (cut f) (list_any cut fs) none in
    not_here cut piece (fs ++ z ∷ []) f n.0 ∙ last_one cut (piece ++ f ∷ []) fs z n.1 ∙ ap (λ (p : List ℤ). p ∷ []) (append_assoc piece (f ∷ []) (fs ++ z ∷ []))

next_one : (cut : ℤ → Bool) (piece front : List ℤ) (z : ℤ) (xs : List ℤ) → list_any cut front ≡ false → cut z ≡ true → 0 < length xs → pieces_from cut piece (front ++ z ∷ xs) ≡ (piece ++ (front ++ z ∷ [])) ∷ pieces_from cut (z ∷ []) xs
next_one cut piece [] z xs none is some = here cut piece xs z some is
next_one cut piece (f ∷ fs) z xs none is some =
    let n = or_parts (cut f) (list_any cut fs) none in
    not_here cut piece (fs ++ z ∷ xs) f n.0 ∙ next_one cut (piece ++ f ∷ []) fs z xs n.1 is some
    ∙ ap (λ (p : List ℤ). p ∷ pieces_from cut (z ∷ []) xs) (append_assoc piece (f ∷ []) (fs ++ z ∷ []))

-- a piece of two references or more, by its ends
record Ends (p : List ℤ) : Type 0 where
  first : ℤ
  middle : List ℤ
  last : ℤ
  is : p ≡ first ∷ (middle ++ last ∷ [])

by_last : (x : ℤ) (xs : List ℤ) → (front : List ℤ) × (z : ℤ) × (x ∷ xs ≡ front ++ z ∷ [])
by_last x [] = ([], x, refl)
by_last x (w ∷ ws) = let s = by_last w ws in (x ∷ s.0, s.1, ap (λ (ys : List ℤ). x ∷ ys) s.2)

by_ends : (p : List ℤ) → nat_le 2 (length p) ≡ true → Ends p
by_ends [] long = let e : false ≡ true = long in cc
by_ends (y ∷ []) long = let e : false ≡ true = long in cc
by_ends (y ∷ x ∷ xs) long = let s = by_last x xs in record { first = y; middle = s.0; last = s.1; is = ap (λ (ys : List ℤ). y ∷ ys) s.2 }

some_more : (front xs : List ℤ) (z : ℤ) → 0 < length ((front ++ z ∷ []) ++ xs)
some_more [] xs z = omega arith
some_more (f ∷ fs) xs z = omega arith

module _ (cut : ℤ → Bool) where
  abbrev Others : List ℤ → List (List ℤ) → Type 0
  Others p ps = list_all (uncut cut) (p ∷ ps) ≡ true → all_meet cut (p ∷ ps) ≡ true → list_all (λ (q : List ℤ). nat_le 2 (length q)) ps ≡ true → pieces cut (together (p ∷ ps)) ≡ p ∷ ps

  only_from : (y z : ℤ) (front : List ℤ) (ps : List (List ℤ)) → Others (y ∷ (front ++ z ∷ [])) ps
  only_from y z front [] uncuts joints long =
      let none = ap (list_any cut) (sym (inner_longer y front z)) ∙ not-true _ (first_so (uncut cut (y ∷ (front ++ z ∷ []))) true uncuts) in
      ap (pieces_from cut (y ∷ [])) (append-nil (front ++ z ∷ [])) ∙ last_one cut (y ∷ []) front z none
  only_from y z front (q ∷ qs) uncuts joints long =
      let p = y ∷ (front ++ z ∷ []) in
      let ends_q = by_ends q (first_so (nat_le 2 (length q)) (list_all (λ (q : List ℤ). nat_le 2 (length q)) qs) long) in
      let none = ap (list_any cut) (sym (inner_longer y front z)) ∙ not-true _ (first_so (uncut cut p) (list_all (uncut cut) (q ∷ qs)) uncuts) in
      subst (λ (r : List ℤ). list_all (uncut cut) (r ∷ qs) ≡ true → all_meet cut (p ∷ r ∷ qs) ≡ true → pieces cut (together (p ∷ r ∷ qs)) ≡ p ∷ r ∷ qs) (sym ends_q.is)
      (λ others joined.
      let x = ends_q.first in
      let r = x ∷ (ends_q.middle ++ ends_q.last ∷ []) in
      let rest = (ends_q.middle ++ ends_q.last ∷ []) ++ flat_map (drop 1) qs in
      let meet_here = first_so (same_end (last_in p) (Some x) && cut x) (all_meet cut (r ∷ qs)) joined in
      let same : z ≡ x = (Decides-int_eq z x).0 (ap (λ o. same_end o (Some x)) (sym (ends (Some y) front z)) ∙ first_so (same_end (last_in p) (Some x)) (cut x) meet_here) in
      let is : cut z ≡ true = ap cut same ∙ second_so (same_end (last_in p) (Some x)) (cut x) meet_here in
      ap (pieces_from cut (y ∷ [])) (append_assoc front (z ∷ []) rest) ∙ next_one cut (y ∷ []) front z rest none is (some_more ends_q.middle (flat_map (drop 1) qs) ends_q.last)
      ∙ ap (λ (n : ℤ). p ∷ pieces_from cut (n ∷ []) rest) same
      ∙ ap (λ (ps : List (List ℤ)). p ∷ ps) (only_from x ends_q.last ends_q.middle qs others (second_so (same_end (last_in p) (Some x) && cut x) (all_meet cut (r ∷ qs)) joined)
      (second_so (nat_le 2 (length q)) (list_all (λ (q : List ℤ). nat_le 2 (length q)) qs) long)))
      (second_so (uncut cut p) (list_all (uncut cut) (q ∷ qs)) uncuts) joints

  only : (p : List ℤ) (ps : List (List ℤ)) → nat_le 2 (length p) ≡ true → Others p ps
  only p ps long = let e = by_ends p long in subst (λ (r : List ℤ). Others r ps) (sym e.is) (only_from e.first e.last e.middle ps)

  pub no_other : (refs : List ℤ) (ps : List (List ℤ)) → LieBetween cut refs ps → ps ≡ pieces cut refs
  no_other refs [] h = ap (pieces cut) h.whole
  no_other refs (p ∷ ps) h =
      let long = λ (q : List ℤ). nat_le 2 (length q) in
      sym (only p ps (first_so (long p) (list_all long ps) h.long) h.uncut h.joints (second_so (long p) (list_all long ps) h.long)) ∙ ap (pieces cut) h.whole
