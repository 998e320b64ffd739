-- Steps of the loops over pieces and members.
use Rattle.std.proofs.Common.{◌≡◌, ℤ, ℕ, zero, suc, ◌+◌, ◌≤◌, Bool, true, false, cond, List, [], ◌∷◌, ◌++◌, length, map, reverse, drop, slice_get, Option, Some, None, refl, sym, ap, ◌∙◌, append_assoc, add-one, drop-cons, Bor, ◌||◌, ◌-◌, pos}
use Rattle.std.proofs.lemmas.List.{append-nil, drop_all, length-reverse, length-map}
use Rattle.std.proofs.lemmas.Option.{get_or_from_slice_get, slice_get_past, slice_get_read, slice_get_within}
use Rattle.std.specs.Slice.{IsItemAt}
use Rattle.std.specs.List.{find, last_or}
use Rattle.std.specs.Ordering.{int_eq}
use Rattle.std.proofs.lemmas.Bool.Decides.{Decides-int_eq}
use Rattle.osm_base.specs.Content.{node}
use Rattle.osm_base.proofs.SameLaws.{is_key_decides}
use Rattle.tool_api.specs.Checks.{is_named}
use Rattle.std.specs.Option.{unwrap_or, option_map, option_map_or, option_or, option_copied}
use Rattle.osm_base.specs.Rank.{is_key}
use Rattle.osm_base.specs.declared.key.Key.{Key}
use Rattle.osm_base.specs.declared.members.Member.{Member}
use Rattle.osm_base.specs.declared.content.Content.TheVariants as content
use Rattle.osm_table.specs.Table.{TableValue}
use Rattle.tool_api.specs.Upkeep.{PieceValue, ends, is_among, restricted_piece, first_in, stand_ins, replaced_from, touches, is_backward, in_order, first_node, last_node}
use Rattle.relation_upkeep.specs.declared.replace.Piece.{Piece}
use Rattle.relation_upkeep.specs.Replace.{piece_value, piece_values, turn_of, stood}
use Rattle.tool_api.proofs.Lasts.{last_got}

-- the next of a list
next_item : {A : Type 0} (xs : List A) (i : ℕ) (x : A) → slice_get xs i ≡ Some x → drop i xs ≡ x ∷ drop (i + 1) xs
next_item {A = A} xs i x e = rw add-one (drop-cons xs i x (slice_get_within xs i x e) ∙ ap (λ (y : A). y ∷ drop (suc i) xs) (get_or_from_slice_get xs i x x e))

-- the ends of a way by its first and last reference
pub ends_got : (ids : List ℤ) (a b : ℤ) → Some a ≡ slice_get ids 0 → Some b ≡ slice_get ids (length ids - 1) → a ∷ b ∷ [] ≡ ends (content.Way [] ids)
ends_got [] a b first last = cc
ends_got (n ∷ ns) a b first last =
    let x : a ≡ n = ap (λ (o : Option ℤ). unwrap_or o a) first in
    let y : b ≡ unwrap_or (last_or (Some n) ns) n = ap (λ (o : Option ℤ). unwrap_or o n) (last ∙ last_got (n ∷ ns)) in
    λ i. x i ∷ y i ∷ []

last_piece : (p : Piece) (ps : List Piece) → last_node (piece_values (p ∷ ps)) ≡ option_map_or (λ (p : Piece). p.last) (last_or (Some p) ps) (pos 0)
last_piece p [] = refl
last_piece p (q ∷ ps) = last_piece q ps

pub last_node_got : (ps : List Piece) (p : Piece) → Some p ≡ slice_get ps (length ps - 1) → p.last ≡ last_node (piece_values ps)
last_node_got [] p e = cc
last_node_got (q ∷ ps) p e = ap (λ (o : Option Piece). option_map_or (λ (p : Piece). p.last) o (pos 0)) (e ∙ last_got (q ∷ ps)) ∙ sym (last_piece q ps)

-- a search among pieces
found_step : (b : Bool) (p : Piece) (o : Option Piece) (v : Option PieceValue) → option_map piece_value o ≡ v → option_map piece_value (cond b (Some p) o) ≡ cond b (Some (piece_value p)) v
found_step true p o v e = refl
found_step false p o v e = e

found_value : (test : PieceValue → Bool) (ps : List Piece) → option_map piece_value (find (λ p. test (piece_value p)) ps) ≡ find test (piece_values ps)
found_value test [] = refl
found_value test (p ∷ ps) = found_step (test (piece_value p)) p (find (λ p. test (piece_value p)) ps) (find test (piece_values ps)) (found_value test ps)

pub restricted_found : (via : List ℤ) (ps : List Piece) (p : Piece) → Some p ≡ find (λ (p : Piece). is_among via p.first || is_among via p.last) ps → Some (piece_value p) ≡ restricted_piece via (piece_values ps)
restricted_found via ps p e =
    let f : Some (piece_value p) ≡ find (λ (p : PieceValue). is_among via p.first || is_among via p.last) (piece_values ps) =
    ap (option_map piece_value) e ∙ found_value (λ (p : PieceValue). is_among via p.first || is_among via p.last) ps in
    ap (λ (o : Option PieceValue). option_or o (find (λ (p : PieceValue). p.kept) (piece_values ps))) f

pub restricted_kept : (via : List ℤ) (ps : List Piece) (o : Option Piece) → ◌≡◌ {A = Option Piece} None (find (λ (p : Piece). is_among via p.first || is_among via p.last) ps) → o ≡ find (λ (p : Piece). p.kept) ps → option_map piece_value o ≡ restricted_piece via (piece_values ps)
restricted_kept via ps o none e =
    let f : ◌≡◌ {A = Option PieceValue} None (find (λ (p : PieceValue). is_among via p.first || is_among via p.last) (piece_values ps)) =
    ap (option_map piece_value) none ∙ found_value (λ (p : PieceValue). is_among via p.first || is_among via p.last) ps in
    ap (option_map piece_value) e ∙ found_value (λ (p : PieceValue). p.kept) ps ∙ ap (λ (o : Option PieceValue). option_or o (find (λ (p : PieceValue). p.kept) (piece_values ps))) f

-- the key of a node is that of another where the ids are one
node_case : (n m : ℤ) (b : Bool) → int_eq n m ≡ b → is_key (node n) (node m) ≡ b
node_case n m true is = (is_key_decides (node n) (node m)).1 (ap node ((Decides-int_eq n m).0 is))
node_case n m false is = other (is_key (node n) (node m)) refl
  where
    other : (b : Bool) → is_key (node n) (node m) ≡ b → is_key (node n) (node m) ≡ false
    other true e = let one : int_eq n m ≡ true = (Decides-int_eq n m).1 (ap (λ (k : Key). k.id) ((is_key_decides (node n) (node m)).0 e)) in (let bad : ⊥ = cc in absurd bad)
    other false e = e

among_nodes : (via : List ℤ) (n : ℤ) → is_named (map node via) (node n) ≡ is_among via n
among_nodes [] n = refl
among_nodes (m ∷ via) n = λ i. node_case n m (int_eq n m) refl i || among_nodes via n i

-- the same search by keys
pub by_keys : (via : List ℤ) (keys : List Key) (ps : List Piece) (o : Option Piece) → keys ≡ map node via → o ≡ find (λ (p : Piece). is_named keys (node p.first) || is_named keys (node p.last)) ps
    → o ≡ find (λ (p : Piece). is_among via p.first || is_among via p.last) ps
by_keys via keys ps o are is =
    is ∙ (λ i. find (λ (p : Piece). is_named (are i) (node p.first) || is_named (are i) (node p.last)) ps)
    ∙ (λ i. find (λ (p : Piece). among_nodes via p.first i || among_nodes via p.last i) ps)

-- what stands next
pub first_left : {A : Type 0} (xs : List A) (i : ℕ) → first_in (drop i xs) ≡ slice_get xs i
first_left [] zero = refl
first_left [] (suc i) = refl
first_left (x ∷ xs) zero = refl
first_left (x ∷ xs) (suc i) = first_left xs i

-- what a look-up by a place gives
pub got : {A : Type 0} (xs : List A) (i : ℕ) (r : Option (Bor A)) → IsItemAt xs i r → option_copied r ≡ slice_get xs i
got xs i None h = sym (slice_get_past xs i h.3)
got xs i (Some x) h = sym (slice_get_read xs (length xs) i x.now refl h.3.0 h.1)

-- one item more of a mapped list
pub one_mapped : {A B : Type 0} (f : A → B) (xs : List A) (i : ℕ) (x : A) (out new all : List B) → slice_get xs i ≡ Some x → new ≡ out ++ f x ∷ [] → out ++ map f (drop i xs) ≡ all → new ++ map f (drop (i + 1) xs) ≡ all
one_mapped {A = A} {B = B} f xs i x out new all at put before =
    ap (λ (ys : List B). ys ++ map f (drop (i + 1) xs)) put ∙ append_assoc out (f x ∷ []) (map f (drop (i + 1) xs))
    ∙ sym (ap (λ (ys : List A). out ++ map f ys) (next_item xs i x at)) ∙ before

pub all_mapped : {A B : Type 0} (f : A → B) (xs : List A) (i : ℕ) (out all : List B) → length xs ≤ i → out ++ map f (drop i xs) ≡ all → out ≡ all
all_mapped {A = A} {B = B} f xs i out all h before = sym (append-nil out) ∙ sym (ap (λ (ys : List A). out ++ map f ys) (drop_all i xs h)) ∙ before

-- the pieces in either order are as many
length_cases : (b : Bool) (ps : List PieceValue) → length (reverse ps) ≡ length ps → length (in_order b ps) ≡ length ps
length_cases true ps h = h
length_cases false ps h = refl

pub piece_count : (b : Bool) (ps : List Piece) → length (in_order b (piece_values ps)) ≡ length ps
piece_count b ps = length_cases b (piece_values ps) (length-reverse (piece_values ps)) ∙ length-map ps piece_value

-- what stands for a member, by the direction
stand_stood : (t : TableValue) (way : Key) (ps : List PieceValue) (v : Option (List ℤ)) (before : Option Member) (m : Member) (after : Option Member)
    → stand_ins t way ps v before m after
    ≡ stood (turn_of v ps) ps m.role (is_backward (touches t way (first_node ps) before) (touches t way (last_node ps) before) (touches t way (first_node ps) after) (touches t way (last_node ps) after))
stand_stood t way ps (Some v) before m after = refl
stand_stood t way ps None before m after = refl

module _ (t : TableValue) (way : Key) (ps : List PieceValue) (v : Option (List ℤ)) where
  one_step : (before : Option Member) (m : Member) (ms : List Member) (out new all : List Member) → new ≡ out ++ cond (is_key way m.key) (stand_ins t way ps v before m (first_in ms)) (m ∷ [])
      → out ++ replaced_from t way ps v before (m ∷ ms) ≡ all → new ++ replaced_from t way ps v (Some m) ms ≡ all
  one_step before m ms out new all put is =
      ap (λ (ys : List Member). ys ++ replaced_from t way ps v (Some m) ms) put
      ∙ append_assoc out (cond (is_key way m.key) (stand_ins t way ps v before m (first_in ms)) (m ∷ [])) (replaced_from t way ps v (Some m) ms) ∙ is

  step : (before : Option Member) (ms : List Member) (i : ℕ) (m : Member) (out new all : List Member) → slice_get ms i ≡ Some m → new ≡ out ++ cond (is_key way m.key) (stand_ins t way ps v before m (slice_get ms (i + 1))) (m ∷ [])
      → out ++ replaced_from t way ps v before (drop i ms) ≡ all → new ++ replaced_from t way ps v (Some m) (drop (i + 1) ms) ≡ all
  step before ms i m out new all at put is =
      one_step before m (drop (i + 1) ms) out new all
      (put ∙ ap (λ (o : Option Member). out ++ cond (is_key way m.key) (stand_ins t way ps v before m o) (m ∷ [])) (sym (first_left ms (i + 1))))
      (sym (ap (λ (ys : List Member). out ++ replaced_from t way ps v before ys) (next_item ms i m at)) ∙ is)

  -- a member that names the way
  pub stood_step : (before : Option Member) (ms : List Member) (i : ℕ) (m : Member) (turn : Option (Option PieceValue)) (out new all : List Member) (backward : Bool) → slice_get ms i ≡ Some m → is_key way m.key ≡ true → turn ≡ turn_of v ps
      → backward ≡ is_backward (touches t way (first_node ps) before) (touches t way (last_node ps) before) (touches t way (first_node ps) (slice_get ms (i + 1))) (touches t way (last_node ps) (slice_get ms (i + 1)))
      → new ≡ out ++ stood turn ps m.role backward
      → out ++ replaced_from t way ps v before (drop i ms) ≡ all → new ++ replaced_from t way ps v (Some m) (drop (i + 1) ms) ≡ all
  stood_step before ms i m turn out new all backward at named is_turn way_round put is =
      step before ms i m out new all at
      (put ∙ (λ j. out ++ stood (is_turn j) ps m.role (way_round j)) ∙ ap (λ (xs : List Member). out ++ xs) (sym (stand_stood t way ps v before m (slice_get ms (i + 1))))
      ∙ ap (λ b. out ++ cond b (stand_ins t way ps v before m (slice_get ms (i + 1))) (m ∷ [])) (sym named)) is

  -- another
  pub kept_step : (before : Option Member) (ms : List Member) (i : ℕ) (m : Member) (out new all : List Member) → slice_get ms i ≡ Some m → is_key way m.key ≡ false → new ≡ out ++ m ∷ []
      → out ++ replaced_from t way ps v before (drop i ms) ≡ all → new ++ replaced_from t way ps v (Some m) (drop (i + 1) ms) ≡ all
  kept_step before ms i m out new all at other put is =
      step before ms i m out new all at (put ∙ ap (λ b. out ++ cond b (stand_ins t way ps v before m (slice_get ms (i + 1))) (m ∷ [])) (sym other)) is

  pub all_steps : (before : Option Member) (ms : List Member) (i : ℕ) (out all : List Member) → length ms ≤ i → out ++ replaced_from t way ps v before (drop i ms) ≡ all → out ≡ all
  all_steps before ms i out all h is = sym (append-nil out) ∙ sym (ap (λ (ys : List Member). out ++ replaced_from t way ps v before ys) (drop_all i ms h)) ∙ is
