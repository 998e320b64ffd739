-- Steps of the loops that cut a way and number its pieces.
use Rattle.std.proofs.Common.{◌≡◌, ℕ, ℤ, suc, pos, ◌+◌, ◌-◌, ◌<◌, ◌≤◌, ◌&&◌, ◌||◌, Bool, true, false, cond, not, nat_lt, nat_le, List, [], ◌∷◌, ◌++◌, length, map, drop, take, get_or, slice_get, Option, Some, None, refl, sym, ap, ◌∙◌, subst, drop-cons, add-one, length-drop, append_assoc, arith}
use Rattle.std.proofs.lemmas.Bool.Decides.{nat_tests}
use Rattle.std.proofs.Math.Seq.{take-suc}
use Rattle.std.proofs.lemmas.Option.{slice_get-get_or}
use Rattle.std.proofs.lemmas.List.Sums.{prefix_len-le-length}
use Rattle.std.specs.List.{last_or, position, position_or_len}
use Rattle.std.specs.Option.{option_map_or, option_or, unwrap_or}
use Rattle.std.specs.Ordering.{int_eq}
use Rattle.osm_base.specs.Rank.{is_key}
use Rattle.osm_base.specs.Content.{node}
use Rattle.osm_base.specs.RankLaws.{rank_ties}
use Rattle.osm_base.specs.declared.key.Key.{Key}
use Rattle.tool_api.specs.declared.kinds.Kinds.TheVariants.{Nodes}
use Rattle.tool_api.specs.declared.refusal.Refusal.{Refusal}
use Rattle.tool_api.specs.declared.refusal.Refusal.TheVariants.{NamedTwice, WrongKind, NotInWay}
use Rattle.tool_api.specs.Checks.{is_named, takes, when}
use Rattle.tool_api.specs.Split.{pieces_from, is_closed, node_tests, piece_of}
use Rattle.tool_api.specs.Upkeep.{first_in, is_among}
use Rattle.way_split.specs.NodeChecks.{one_test}
use Rattle.tool_api.proofs.Lasts.{last_got}

-- A way cut at its nodes.

inside : (i n m : ℕ) → m ≡ n - suc i → nat_lt (i + 1) n ≡ nat_lt 0 m
inside i n m e = grind (arith, nat_tests)

cut_cases : (P : ℤ → Bool) (out all : List (List ℤ)) (piece xs : List ℤ) (x : ℤ) (c : Bool) → out ++ cond c ((piece ++ x ∷ []) ∷ pieces_from P (x ∷ []) xs) (pieces_from P (piece ++ x ∷ []) xs) ≡ all
    → cond c (out ++ (piece ++ x ∷ []) ∷ []) out ++ pieces_from P (cond c (x ∷ []) (piece ++ x ∷ [])) xs ≡ all
cut_cases P out all piece xs x true h = append_assoc out ((piece ++ x ∷ []) ∷ []) (pieces_from P (x ∷ []) xs) ∙ h
cut_cases P out all piece xs x false h = h

one_more : (P : ℤ → Bool) (refs : List ℤ) (i : ℕ) (out out₁ all : List (List ℤ)) (piece piece₁ : List ℤ) (c : Bool) → i < length refs
    → c ≡ (nat_lt (i + 1) (length refs) && P (get_or refs i (pos 0)))
    → out₁ ≡ cond c (out ++ (piece ++ get_or refs i (pos 0) ∷ []) ∷ []) out → piece₁ ≡ cond c (get_or refs i (pos 0) ∷ []) (piece ++ get_or refs i (pos 0) ∷ [])
    → out ++ pieces_from P piece (drop i refs) ≡ all → out₁ ++ pieces_from P piece₁ (drop (suc i) refs) ≡ all
one_more P refs i out out₁ all piece piece₁ c lt is outs pieces h =
    let test : c ≡ (nat_lt 0 (length (drop (suc i) refs)) && P (get_or refs i (pos 0))) = is ∙ ap (λ b. b && P (get_or refs i (pos 0))) (inside i (length refs) (length (drop (suc i) refs)) (length-drop (suc i) refs)) in
    (λ j. outs j ++ pieces_from P (pieces j) (drop (suc i) refs))
    ∙ cut_cases P out all piece (drop (suc i) refs) (get_or refs i (pos 0)) c
    (ap (λ b. out ++ cond b ((piece ++ get_or refs i (pos 0) ∷ []) ∷ pieces_from P (get_or refs i (pos 0) ∷ []) (drop (suc i) refs)) (pieces_from P (piece ++ get_or refs i (pos 0) ∷ []) (drop (suc i) refs))) test
    ∙ ap (λ xs. out ++ pieces_from P piece xs) (sym (drop-cons refs i (pos 0) lt)) ∙ h)

pub next_piece : (P : ℤ → Bool) (refs : List ℤ) (i : ℕ) (x : ℤ) (out out₁ all : List (List ℤ)) (piece piece₁ : List ℤ) (c : Bool) → i < length refs → x ≡ get_or refs i (pos 0)
    → c ≡ (nat_lt (i + 1) (length refs) && P (get_or refs i (pos 0)))
    → out₁ ≡ cond c (out ++ (piece ++ x ∷ []) ∷ []) out → piece₁ ≡ cond c (x ∷ []) (piece ++ x ∷ [])
    → out ++ pieces_from P piece (drop i refs) ≡ all → out₁ ++ pieces_from P piece₁ (drop (i + 1) refs) ≡ all
next_piece P refs i x out out₁ all piece piece₁ c lt at is outs pieces h = rw add-one (one_more P refs i out out₁ all piece piece₁ c lt is
    (outs ∙ ap (λ y. cond c (out ++ (piece ++ y ∷ []) ∷ []) out) at) (pieces ∙ ap (λ y. cond c (y ∷ []) (piece ++ y ∷ [])) at) h)

-- The set of a way's nodes.

same_node : (a b : ℤ) → is_key (node a) (node b) ≡ int_eq a b
same_node a b = sym (rank_ties (node a) (node b))

-- a node is among the keys of nodes where its id is among the ids
pub named_nodes : (ids : List ℤ) (id : ℤ) → is_named (map node ids) (node id) ≡ is_among ids id
named_nodes [] id = refl
named_nodes (x ∷ ids) id = λ i. same_node id x i || named_nodes ids id i

-- The tests of the named nodes.

tests_cases : (a b c : Bool) (k : Key) (rest : Option Refusal) → option_or (when a (NamedTwice k)) (option_or (when (not b) (WrongKind k)) (option_or (when (not c) (NotInWay k)) rest))
    ≡ option_or (option_or (when a (NamedTwice k)) (option_or (when (not b) (WrongKind k)) (when (not c) (NotInWay k)))) rest
tests_cases true b c k rest = refl
tests_cases false false c k rest = refl
tests_cases false true false k rest = refl
tests_cases false true true k rest = refl

module _ (refs : List ℤ) (in_way : List Key) (in_refs : (id : ℤ) → is_named in_way (node id) ≡ is_among refs id) where
  tests_one : (seen : List Key) (k : Key) (ks : List Key) → node_tests refs seen (k ∷ ks) ≡ option_or (one_test in_way seen k) (node_tests refs (seen ++ k ∷ []) ks)
  tests_one seen k ks =
      tests_cases (is_named seen k) (takes Nodes k.kind) (is_among refs k.id) k (node_tests refs (seen ++ k ∷ []) ks)
      ∙ ap (λ b. option_or (option_or (when (is_named seen k) (NamedTwice k)) (option_or (when (not (takes Nodes k.kind)) (WrongKind k)) (when (not b) (NotInWay k)))) (node_tests refs (seen ++ k ∷ []) ks)) (sym (in_refs k.id))

  tests_at : (seen nodes : List Key) (i : ℕ) (none : Key) → i < length nodes → node_tests refs seen (drop i nodes) ≡ option_or (one_test in_way seen (get_or nodes i none)) (node_tests refs (seen ++ get_or nodes i none ∷ []) (drop (i + 1) nodes))
  tests_at seen nodes i none lt = (let e : drop i nodes ≡ get_or nodes i none ∷ drop (i + 1) nodes = rw add-one (drop-cons nodes i none lt) in ap (node_tests refs seen) e) ∙ tests_one seen (get_or nodes i none) (drop (i + 1) nodes)

  pub test_refuses : (seen nodes : List Key) (i : ℕ) (none : Key) (r : Refusal) (all : Option Refusal) → i < length nodes → Some r ≡ one_test in_way seen (get_or nodes i none) → node_tests refs seen (drop i nodes) ≡ all → Some r ≡ all
  test_refuses seen nodes i none r all lt is before =
      ap (λ (o : Option Refusal). option_or o (node_tests refs (seen ++ get_or nodes i none ∷ []) (drop (i + 1) nodes))) is ∙ sym (tests_at seen nodes i none lt) ∙ before

  not_seen : (a : Bool) (k : Key) (rest : Option Refusal) → ◌≡◌ {A = Option Refusal} None (option_or (when a (NamedTwice k)) rest) → a ≡ false
  not_seen true k rest e = cc
  not_seen false k rest e = refl

  pub test_step : (seen seen₁ nodes : List Key) (i : ℕ) (none : Key) (all : Option Refusal) → i < length nodes → ◌≡◌ {A = Option Refusal} None (one_test in_way seen (get_or nodes i none))
      → seen₁ ≡ cond (is_named seen (get_or nodes i none)) seen (seen ++ get_or nodes i none ∷ []) → (seen ≡ take i nodes) × (node_tests refs seen (drop i nodes) ≡ all)
      → (seen₁ ≡ take (i + 1) nodes) × (node_tests refs seen₁ (drop (i + 1) nodes) ≡ all)
  test_step seen seen₁ nodes i none all lt passed put before =
      let k = get_or nodes i none in
      let new : is_named seen k ≡ false = not_seen (is_named seen k) k (option_or (when (not (takes Nodes k.kind)) (WrongKind k)) (when (not (is_named in_way (node k.id))) (NotInWay k))) passed in
      let longer : seen₁ ≡ seen ++ k ∷ [] = put ∙ ap (λ b. cond b seen (seen ++ k ∷ [])) new in
      let all_seen : take (i + 1) nodes ≡ take i nodes ++ k ∷ [] = rw add-one (take-suc nodes i none lt) in (
        longer ∙ ap (λ (ks : List Key). ks ++ k ∷ []) before.0 ∙ sym all_seen,
        ap (λ (ks : List Key). node_tests refs ks (drop (i + 1) nodes)) longer ∙ ap (λ (o : Option Refusal). option_or o (node_tests refs (seen ++ k ∷ []) (drop (i + 1) nodes))) passed ∙ sym (tests_at seen nodes i none lt) ∙ before.1,
      )

-- The first of a list.

first_got : (xs : List ℤ) → first_in xs ≡ slice_get xs 0
first_got [] = refl
first_got (x ∷ xs) = refl

-- A way is closed.

closed_case : (first last : Option ℤ) (x y : ℤ) → first ≡ Some x → last ≡ Some y → option_map_or (λ a. option_map_or (λ b. int_eq a b) last false) first false ≡ int_eq x y
closed_case first last x y e f = (λ i. option_map_or (λ a. option_map_or (λ b. int_eq a b) (f i) false) (e i) false)

pub closed_got : (refs : List ℤ) (j k : Key) (b : Bool) → 3 ≤ length refs → j ≡ node (get_or refs 0 (pos 0)) → k ≡ node (get_or refs (length refs - 1) (pos 0)) → b ≡ is_key j k → b ≡ is_closed refs
closed_got refs j k b more first last is =
    let x = get_or refs 0 (pos 0) in
    let y = get_or refs (length refs - 1) (pos 0) in
    let long : nat_le 3 (length refs) ≡ true = grind (arith, nat_tests) in
    let lt : 0 < length refs = omega arith in
    let lt₁ : length refs - 1 < length refs = omega arith in
    is ∙ (λ i. is_key (first i) (last i)) ∙ same_node x y
    ∙ sym (closed_case (first_in refs) (last_or None refs) x y (first_got refs ∙ slice_get-get_or refs 0 (pos 0) lt) (sym (last_got refs) ∙ slice_get-get_or refs (length refs - 1) (pos 0) lt₁))
    ∙ sym (ap (λ b. b && option_map_or (λ a. option_map_or (λ b. int_eq a b) (last_or None refs) false) (first_in refs) false) long)

-- The first cut.

past_case : (b : Bool) (n m : ℕ) → nat_lt m n ≡ b → m ≤ n → ◌≡◌ {A = Option ℕ} None (cond b (Some m) None) → n ≡ m
past_case true n m test le e = cc
past_case false n m test le e = let h : n ≤ m = grind (arith, nat_tests) in omega arith

at_case : (b : Bool) (i m : ℕ) → Some i ≡ cond b (Some m) None → i ≡ m
at_case true i m e = ap (λ (o : Option ℕ). unwrap_or o i) e
at_case false i m e = cc

pub none_place : (P : ℤ → Bool) (xs : List ℤ) → ◌≡◌ {A = Option ℕ} None (position P xs) → length xs ≡ position_or_len P xs
none_place P xs e = past_case (nat_lt (position_or_len P xs) (length xs)) (length xs) (position_or_len P xs) refl (prefix_len-le-length _ xs) e

pub some_place : (P : ℤ → Bool) (xs : List ℤ) (i : ℕ) → Some i ≡ position P xs → i ≡ position_or_len P xs
some_place P xs i e = at_case (nat_lt (position_or_len P xs) (length xs)) i (position_or_len P xs) e

pub place_within : (P : ℤ → Bool) (xs : List ℤ) (i : ℕ) → i ≡ position_or_len P xs → i ≤ length xs
place_within P xs i e = subst (λ n. n ≤ length xs) (sym e) (prefix_len-le-length _ xs)

-- A piece and its ends.

pub piece_got : (way : Key) (p : Key × List ℤ) (ids : List ℤ) (a b : Option ℤ) (first last : ℤ) (kept : Bool) → ids ≡ p.1 → a ≡ slice_get ids 0 → b ≡ slice_get ids (length ids - 1) → first ≡ unwrap_or a (pos 0) → last ≡ unwrap_or b (pos 0)
    → kept ≡ is_key way p.0 → record { key = p.0; first = first; last = last; kept = kept } ≡ piece_of way p
piece_got way p ids a b first last kept same is_first is_last one other k =
    let x : first ≡ unwrap_or (first_in p.1) (pos 0) = one ∙ ap (λ (o : Option ℤ). unwrap_or o (pos 0)) (is_first ∙ sym (first_got ids) ∙ ap first_in same) in
    let y : last ≡ unwrap_or (last_or None p.1) (pos 0) = other ∙ ap (λ (o : Option ℤ). unwrap_or o (pos 0)) (is_last ∙ last_got ids ∙ ap (last_or None) same) in
    λ i. record { key = p.0; first = x i; last = y i; kept = k i }
