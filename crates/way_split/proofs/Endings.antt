-- The tests of a split in order, and how it ends.
use Rattle.std.proofs.Common.{◌≡◌, ◌<◌, ◌≤◌, ℕ, ℤ, true, false, nat_lt, List, [], ◌∷◌, length, map, Option, Some, None, Err, refl, sym, ap, ◌∙◌, subst, arith}
use Rattle.std.specs.Prelude.{Result}
use Rattle.std.specs.Option.{option_or}
use Rattle.std.proofs.lemmas.Bool.Decides.{nat_tests}
use Rattle.osm_base.specs.Content.{node}
use Rattle.osm_base.specs.declared.key.Key.{Key}
use Rattle.osm_table.specs.Table.{TableValue}
use Rattle.dataset.specs.Sound.{IsSound}
use Rattle.tool_api.specs.declared.kinds.Kinds.TheVariants.{Ways}
use Rattle.tool_api.specs.declared.refusal.Refusal.{Refusal}
use Rattle.tool_api.specs.declared.refusal.Refusal.TheVariants.{NothingToSplit}
use Rattle.tool_api.specs.Checks.{◌>>◌, when, is_named, target_test}
use Rattle.tool_api.specs.Changes.{Outcome, content_of}
use Rattle.tool_api.specs.Closing.{closing, closing_tests}
use Rattle.tool_api.specs.Split.{way_refs, node_tests, complete_test, all_pieces, kept_number, keyed, others, split_table, split_into, split_pieces, split}
use Rattle.tool_api.proofs.Passed.{both_none}
use Rattle.way_split.specs.NodeChecks.{split_tests}
use Rattle.way_split.proofs.Sounds.{split_sound, way_lives}

-- The tests.

few : (n : ℕ) → n < 2 → nat_lt n 2 ≡ true
few n h = grind (arith, nat_tests)

enough : (n : ℕ) → 2 ≤ n → nat_lt n 2 ≡ false
enough n h = grind (arith, nat_tests)

pub target_refuses : (t : TableValue) (way : Key) (nodes : List Key) (r : Refusal) → Some r ≡ target_test t Ways way → split_tests t way nodes ≡ Some r
target_refuses t way nodes r e =
    ap (λ (o : Option Refusal). option_or o (option_or (node_tests (way_refs (content_of t way)) [] nodes) (option_or (complete_test t (way_refs (content_of t way))) (when (nat_lt (length (split_pieces t way nodes)) 2) (NothingToSplit way))))) (sym e)

module _ (t : TableValue) (way : Key) (nodes : List Key) (refs : List ℤ) (same : refs ≡ way_refs (content_of t way)) (target : target_test t Ways way ≡ None) where
  abbrev last : Option Refusal
  last = when (nat_lt (length (split_pieces t way nodes)) 2) (NothingToSplit way)

  from_nodes : split_tests t way nodes ≡ option_or (node_tests refs [] nodes) (option_or (complete_test t refs) last)
  from_nodes = λ i. option_or (target i) (option_or (node_tests (sym same i) [] nodes) (option_or (complete_test t (sym same i)) last))

  pub nodes_refuse : (r : Refusal) → Some r ≡ node_tests refs [] nodes → split_tests t way nodes ≡ Some r
  nodes_refuse r e = from_nodes ∙ ap (λ (o : Option Refusal). option_or o (option_or (complete_test t refs) last)) (sym e)

  pub incomplete_refuses : (r : Refusal) → None ≡ node_tests refs [] nodes → Some r ≡ complete_test t refs → split_tests t way nodes ≡ Some r
  incomplete_refuses r n e = from_nodes ∙ (λ i. option_or (sym n i) (option_or (sym e i) last))

  all_cut : (cuts : List Key) (ps : List (List ℤ)) → cuts ≡ nodes → ps ≡ all_pieces (λ n. is_named cuts (node n)) refs → ps ≡ split_pieces t way nodes
  all_cut cuts ps cut piece = piece ∙ (λ i. all_pieces (λ n. is_named (cut i) (node n)) (same i))

  pub few_refuse : (cuts : List Key) (ps : List (List ℤ)) → None ≡ node_tests refs [] nodes → None ≡ complete_test t refs → cuts ≡ nodes → ps ≡ all_pieces (λ n. is_named cuts (node n)) refs → length ps < 2 → split_tests t way nodes ≡ Some (NothingToSplit way)
  few_refuse cuts ps n c cut piece less =
      from_nodes ∙ (λ i. option_or (sym n i) (option_or (sym c i) last))
      ∙ ap (λ b. when b (NothingToSplit way)) (ap (λ (xs : List (List ℤ)). nat_lt (length xs) 2) (sym (all_cut cuts ps cut piece)) ∙ few (length ps) less)

  pub pieces_pass : (cuts : List Key) (ps : List (List ℤ)) → None ≡ node_tests refs [] nodes → None ≡ complete_test t refs → cuts ≡ nodes → ps ≡ all_pieces (λ n. is_named cuts (node n)) refs → 2 ≤ length ps
      → (split_tests t way nodes ≡ None) × (ps ≡ split_pieces t way nodes)
  pieces_pass cuts ps n c cut piece more = (
    from_nodes ∙ (λ i. option_or (sym n i) (option_or (sym c i) last))
        ∙ ap (λ b. when b (NothingToSplit way)) (ap (λ (xs : List (List ℤ)). nat_lt (length xs) 2) (sym (all_cut cuts ps cut piece)) ∙ enough (length ps) more),
    all_cut cuts ps cut piece,
  )

-- The end.

or_then : {A : Type 0} (a b : Option Refusal) (next : Result A Refusal) → (a >> (b >> next)) ≡ (option_or a b >> next)
or_then None b next = refl
or_then (Some r) b next = refl

abbrev split_end : TableValue → ℕ → Key → List Key → Result Outcome Refusal
split_end t limit way nodes = closing t limit (way ∷ nodes) (split_into t way (keyed way (kept_number (split_pieces t way nodes)) 0 t.next (split_pieces t way nodes)))

split_by_tests : (t : TableValue) (limit : ℕ) (way : Key) (nodes : List Key) → split t limit way nodes ≡ (split_tests t way nodes >> split_end t limit way nodes)
split_by_tests t limit way nodes =
    let a = target_test t Ways way in
    let b = node_tests (way_refs (content_of t way)) [] nodes in
    let c = complete_test t (way_refs (content_of t way)) in
    let d = when (nat_lt (length (split_pieces t way nodes)) 2) (NothingToSplit way) in
    let e = split_end t limit way nodes in
    ap (λ (x : Result Outcome Refusal). a >> (b >> x)) (or_then c d e) ∙ ap (λ (x : Result Outcome Refusal). a >> x) (or_then b (option_or c d) e) ∙ or_then a (option_or b (option_or c d)) e

-- a refusal of the tests refuses
pub split_refused : (t : TableValue) (limit : ℕ) (way : Key) (nodes : List Key) (r : Refusal) → split_tests t way nodes ≡ Some r → split t limit way nodes ≡ Err r
split_refused t limit way nodes r e = split_by_tests t limit way nodes ∙ ap (λ (o : Option Refusal). o >> split_end t limit way nodes) e

module _ (t u : TableValue) (limit : ℕ) (way : Key) (nodes named : List Key) (pieces : List (List ℤ)) (parts : List (Key × List ℤ)) (kept next : ℕ)
    (passed : split_tests t way nodes ≡ None) (piece : pieces ≡ split_pieces t way nodes) (keep : kept ≡ kept_number pieces) (number : next ≡ t.next) (part : parts ≡ keyed way kept 0 next pieces)
    (names : named ≡ way ∷ nodes) (is : u ≡ split_table t way parts) where
  parts_are : parts ≡ keyed way (kept_number (split_pieces t way nodes)) 0 t.next (split_pieces t way nodes)
  parts_are = part ∙ (λ i. keyed way (keep i) 0 (number i) pieces) ∙ ap (λ (xs : List (List ℤ)). keyed way (kept_number xs) 0 t.next xs) piece

  -- what a split that passes its tests comes to
  pub split_ends : (keys : List Key) → keys ≡ map (λ p. p.0) (others way parts) → closing t limit named (record { keys = keys; table = u }) ≡ split t limit way nodes
  split_ends keys key =
      (λ i. closing t limit (names i) (record { keys = key i; table = is i }))
      ∙ (λ i. closing t limit (way ∷ nodes) (split_into t way (parts_are i)))
      ∙ sym (split_by_tests t limit way nodes ∙ ap (λ (o : Option Refusal). o >> split_end t limit way nodes) passed)

  -- its table is sound
  pub split_keeps : IsSound t → closing_tests t limit named u ≡ None → IsSound u
  split_keeps s closed =
      let p = both_none (target_test t Ways way) (option_or (node_tests (way_refs (content_of t way)) [] nodes) (option_or (complete_test t (way_refs (content_of t way))) (when (nat_lt (length (split_pieces t way nodes)) 2) (NothingToSplit way)))) passed in
      let q = both_none (node_tests (way_refs (content_of t way)) [] nodes) (option_or (complete_test t (way_refs (content_of t way))) (when (nat_lt (length (split_pieces t way nodes)) 2) (NothingToSplit way))) p.1 in
      let whole : u ≡ split_table t way (keyed way (kept_number (split_pieces t way nodes)) 0 t.next (split_pieces t way nodes)) = is ∙ ap (split_table t way) parts_are in
      subst IsSound (sym whole)
      (split_sound t limit way nodes (kept_number (split_pieces t way nodes))
      (record { sound = s; lives = way_lives t way s p.0; tested = q.0; closing = (λ i. closing_tests t limit (sym names i) (sym whole i)) ∙ closed }))
