-- The members after a split are old ones, or name a piece.
use Rattle.std.proofs.Common.{◌≡◌, ◌||◌, ℤ, ℕ, Bool, true, false, cond, List, [], ◌∷◌, ◌++◌, map, reverse, Option, Some, None, refl, sym, ap, ◌∙◌}
use mathlib.Core.Logic.{◌⊎◌, inl, inr}
use mathlib.Core.List.{reverse-cons}
use Rattle.std.specs.List.{list_any, find}
use Rattle.std.specs.Option.{option_or, option_map_or}
use Rattle.std.proofs.Math.Bool.{or-false, or_comm}
use Rattle.std.proofs.lemmas.List.Folds.{list_any-append}
use Rattle.std.proofs.lemmas.Bool.{or_right, or_cases}
use Rattle.osm_base.specs.Rank.{is_key}
use Rattle.osm_base.specs.Content.{refers, kind_of_content}
use Rattle.osm_base.specs.declared.key.Key.{Key}
use Rattle.osm_base.specs.declared.members.Member.{Member}
use Rattle.osm_base.specs.declared.content.Content.{Content}
use Rattle.osm_base.specs.declared.content.Content.TheVariants as content
use Rattle.osm_table.specs.Table.{TableValue}
use Rattle.tool_api.specs.Upkeep.{PieceValue, first_in, member_of, restricted_piece, is_among, in_order, is_turn, pieces_between, first_node, last_node, stand_ins, replaced_from, replaced}

-- whether a member names the key
abbrev among : Key → List Member → Bool
among r ms = list_any (is_key r) (map (λ m. m.key) ms)

-- whether a piece has it
abbrev pub has_piece : Key → List PieceValue → Bool
has_piece r ps = list_any (λ (p : PieceValue). is_key r p.key) ps

map_joined : (xs ys : List Member) → map (λ (m : Member). m.key) (xs ++ ys) ≡ map (λ (m : Member). m.key) xs ++ map (λ (m : Member). m.key) ys
map_joined [] ys = refl
map_joined (x ∷ xs) ys = ap (λ (ks : List Key). x.key ∷ ks) (map_joined xs ys)

among_joined : (r : Key) (xs ys : List Member) → among r (xs ++ ys) ≡ (among r xs || among r ys)
among_joined r xs ys = ap (list_any (is_key r)) (map_joined xs ys) ∙ list_any-append (is_key r) (map (λ m. m.key) xs) (map (λ m. m.key) ys)

-- pieces as members
among_pieces : (r : Key) (role : List ℕ) (ps : List PieceValue) → among r (map (λ p. member_of p role) ps) ≡ has_piece r ps
among_pieces r role [] = refl
among_pieces r role (p ∷ ps) = ap (λ b. is_key r p.key || b) (among_pieces r role ps)

has_reversed : (r : Key) (ps : List PieceValue) → has_piece r (reverse ps) ≡ has_piece r ps
has_reversed r [] = refl
has_reversed r (p ∷ ps) =
    ap (has_piece r) (reverse-cons p ps) ∙ list_any-append (λ (p : PieceValue). is_key r p.key) (reverse ps) (p ∷ [])
    ∙ ap (λ b. b || (is_key r p.key || false)) (has_reversed r ps) ∙ ap (λ b. has_piece r ps || b) (or-false (is_key r p.key)) ∙ or_comm (has_piece r ps) (is_key r p.key)

order_case : (r : Key) (b : Bool) (ps : List PieceValue) → has_piece r (reverse ps) ≡ has_piece r ps → has_piece r (in_order b ps) ≡ has_piece r ps
order_case r true ps e = e
order_case r false ps e = refl

found_case : (r : Key) (b : Bool) (p q : PieceValue) (ps : List PieceValue) (o : Option PieceValue) → cond b (Some p) o ≡ Some q → is_key r q.key ≡ true → (o ≡ Some q → has_piece r ps ≡ true) → (is_key r p.key || has_piece r ps) ≡ true
found_case r true p q ps o e is rest = let same : is_key r p.key ≡ is_key r q.key = ap (λ (x : Option PieceValue). option_map_or (λ (y : PieceValue). is_key r y.key) x false) e in ap (λ b. b || has_piece r ps) (same ∙ is)
found_case r false p q ps o e is rest = or_right (is_key r p.key) (has_piece r ps) (rest e)

found_piece : (r : Key) (test : PieceValue → Bool) (ps : List PieceValue) (q : PieceValue) → find test ps ≡ Some q → is_key r q.key ≡ true → has_piece r ps ≡ true
found_piece r test [] q e is = cc
found_piece r test (p ∷ ps) q e is = found_case r (test p) p q ps (find test ps) e is (λ f. found_piece r test ps q f is)

one_case : (r : Key) (role : List ℕ) (o : Option PieceValue) (P : Type 0) → ((q : PieceValue) → o ≡ Some q → is_key r q.key ≡ true → P) → among r (option_map_or (λ (p : PieceValue). member_of p role ∷ []) o []) ≡ true → P
one_case r role None P there e = let f : false ≡ true = e in cc
one_case r role (Some q) P there e = elim (or_cases (is_key r q.key) false e) [
  | inl is ↦ there q refl is
  | inr never ↦ (let f : false ≡ true = never in cc)
]

either_found : (r : Key) (ps : List PieceValue) (a b : Option PieceValue) (q : PieceValue) → option_or a b ≡ Some q → (a ≡ Some q → has_piece r ps ≡ true) → (b ≡ Some q → has_piece r ps ≡ true) → has_piece r ps ≡ true
either_found r ps (Some p) b q e left right = left e
either_found r ps None b q e left right = right e

restricted_has : (r : Key) (v : List ℤ) (ps : List PieceValue) (q : PieceValue) → restricted_piece v ps ≡ Some q → is_key r q.key ≡ true → has_piece r ps ≡ true
restricted_has r v ps q e is =
    either_found r ps (find (λ (p : PieceValue). is_among v p.first || is_among v p.last) ps) (find (λ (p : PieceValue). p.kept) ps) q e
    (λ f. found_piece r (λ (p : PieceValue). is_among v p.first || is_among v p.last) ps q f is) (λ f. found_piece r (λ (p : PieceValue). p.kept) ps q f is)

either_stands : (r : Key) (ps : List PieceValue) (b : Bool) (xs ys : List Member) → (among r xs ≡ true → has_piece r ps ≡ true) → (among r ys ≡ true → has_piece r ps ≡ true) → among r (cond b xs ys) ≡ true → has_piece r ps ≡ true
either_stands r ps true xs ys left right e = left e
either_stands r ps false xs ys left right e = right e

module _ (t : TableValue) (way : Key) (ps : List PieceValue) where
  among_all : (r : Key) (role : List ℕ) (before after : Option Member) → among r (map (λ p. member_of p role) (pieces_between t way ps (first_node ps) (last_node ps) before after)) ≡ true → has_piece r ps ≡ true
  among_all r role before after e =
      sym (among_pieces r role (pieces_between t way ps (first_node ps) (last_node ps) before after) ∙ order_case r _ ps (has_reversed r ps)) ∙ e

  stands_for : (r : Key) (v : Option (List ℤ)) (before : Option Member) (m : Member) (after : Option Member) → among r (stand_ins t way ps v before m after) ≡ true → has_piece r ps ≡ true
  stands_for r (Some v) before m after e =
      either_stands r ps (is_turn m.role) (option_map_or (λ (p : PieceValue). member_of p m.role ∷ []) (restricted_piece v ps) []) (map (λ p. member_of p m.role) (pieces_between t way ps (first_node ps) (last_node ps) before after))
      (λ f. one_case r m.role (restricted_piece v ps) (has_piece r ps ≡ true) (λ q is named. restricted_has r v ps q is named) f) (among_all r m.role before after) e
  stands_for r None before m after e = among_all r m.role before after e

  one_member : (r : Key) (b : Bool) (m : Member) (xs : List Member) → among r (cond b xs (m ∷ [])) ≡ true → (among r xs ≡ true → has_piece r ps ≡ true) → (is_key r m.key ≡ true) ⊎ (has_piece r ps ≡ true)
  one_member r true m xs e there = inr (there e)
  one_member r false m xs e there = elim (or_cases (is_key r m.key) false e) [
    | inl is ↦ inl is
    | inr never ↦ (let f : false ≡ true = never in cc)
  ]

  left_or : (a b : Bool) (P : Type 0) → (a ≡ true) ⊎ P → ((a || b) ≡ true) ⊎ P
  left_or a b P (inl e) = inl (ap (λ x. x || b) e)
  left_or a b P (inr p) = inr p

  right_or : (a b : Bool) (P : Type 0) → (b ≡ true) ⊎ P → ((a || b) ≡ true) ⊎ P
  right_or a b P (inl e) = inl (or_right a b e)
  right_or a b P (inr p) = inr p

  members_from : (r : Key) (v : Option (List ℤ)) (before : Option Member) (ms : List Member) → among r (replaced_from t way ps v before ms) ≡ true → (among r ms ≡ true) ⊎ (has_piece r ps ≡ true)
  members_from r v before [] e = inl e
  members_from r v before (m ∷ ms) e =
      let here = cond (is_key way m.key) (stand_ins t way ps v before m (first_in ms)) (m ∷ []) in
      let rest = replaced_from t way ps v (Some m) ms in
      elim (or_cases (among r here) (among r rest) (sym (among_joined r here rest) ∙ e)) [
        | inl a ↦ left_or (is_key r m.key) (among r ms) (has_piece r ps ≡ true) (one_member r (is_key way m.key) m (stand_ins t way ps v before m (first_in ms)) a (stands_for r v before m (first_in ms)))
        | inr b ↦ right_or (is_key r m.key) (among r ms) (has_piece r ps ≡ true) (members_from r v (Some m) ms b)
      ]

  -- a reference after the split is an old one, or a piece
  pub replaced_refers : (c : Content) (r : Key) → refers (replaced t way ps c) r ≡ true → (refers c r ≡ true) ⊎ (has_piece r ps ≡ true)
  replaced_refers (content.Node tags at) r e = inl e
  replaced_refers (content.Way tags refs) r e = inl e
  replaced_refers (content.Relation tags members) r e = members_from r _ None members e

  pub replaced_kind : (c : Content) → kind_of_content (replaced t way ps c) ≡ kind_of_content c
  replaced_kind (content.Node tags at) = refl
  replaced_kind (content.Way tags refs) = refl
  replaced_kind (content.Relation tags members) = refl
