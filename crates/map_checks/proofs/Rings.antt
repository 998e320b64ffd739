-- Of two nodes at one place the one of higher rank is doubled, so the ends of an open ring are sought among the doubled nodes.
use Rattle.std.proofs.Common.{◌≡◌, ℤ, ◌&&◌, ◌||◌, Bool, true, false, not, cond, is_some, List, [], ◌∷◌, Option, Some, None, refl, sym, ap, ◌∙◌, Ordering}
use Rattle.std.specs.declared.cmp.Ordering.TheVariants.{Less, Equal, Greater}
use Rattle.std.specs.List.{cons_option, find, filter_map}
use Rattle.std.specs.Option.{option_map, option_and_then}
use Rattle.std.specs.Ordering.{int_eq, is_eq, is_lt, ordering_reverse}
use Rattle.std.proofs.Math.Bool.{and-false}
use Rattle.std.proofs.lemmas.Bool.{and_from, or_left, or_right}
use Rattle.std.proofs.lemmas.Bool.Decides.{Decides-int_eq}
use Rattle.std.proofs.lemmas.Cmp.{int_eq_equiv}
use Rattle.osm_base.specs.Content.{node}
use Rattle.osm_base.specs.Rank.{rank_cmp, is_key}
use Rattle.osm_base.specs.RankLaws.{rank_total}
use Rattle.osm_base.specs.RisingKeys.{is_in}
use Rattle.osm_base.specs.declared.coord.Coord.{Coord}
use Rattle.osm_base.specs.declared.key.Key.{Key}
use Rattle.osm_base.proofs.RisingKeys.{one_key}
use Rattle.osm_table.specs.declared.entry.Entry.{Entry}
use Rattle.osm_table.specs.Table.{TableValue, entry_of, keys_by_rank, mine_of}
use Rattle.tool_api.specs.Checks.{is_named}
use Rattle.tool_api.specs.Findings.{are_together, doubled_of, place_at, place_of, same_place}
use Rattle.tool_api.proofs.Least.{has_key}
use Rattle.map_checks.specs.Findings.{doubled_finding, doubled_key, HasDoubled}
use Rattle.map_checks.specs.declared.finding.Finding.{Finding}
use Rattle.map_checks.specs.declared.finding.Finding.TheVariants.{Doubled}

-- a key that passes a test lets one be found
some_case : (p : Key → Bool) (k x : Key) (xs : List Key) (b c : Bool) → is_key k x ≡ b → p x ≡ c → (b || is_in k xs) ≡ true → p k ≡ true
    → (is_in k xs ≡ true → is_some (find p xs) ≡ true) → is_some (cond c (Some x) (find p xs)) ≡ true
some_case p k x xs b true is passed there passes rest = refl
some_case p k x xs true false is fails there passes rest = (let e : true ≡ false = sym passes ∙ ap p (one_key k x is) ∙ fails in cc)
some_case p k x xs false false is fails there passes rest = rest there

some_found : (p : Key → Bool) (k : Key) (ks : List Key) → is_in k ks ≡ true → p k ≡ true → is_some (find p ks) ≡ true
some_found p k [] there passes = cc
some_found p k (x ∷ xs) there passes = some_case p k x xs (is_key k x) (p x) refl refl there passes (λ h. some_found p k xs h passes)

-- a node at a place is in the table
placed_case : (o : Option Entry) → is_some (place_of (option_and_then mine_of o)) ≡ true → is_some o ≡ true
placed_case None h = cc
placed_case (Some e) h = refl

in_table : (t : TableValue) (k : Key) → is_some (place_at t k) ≡ true → is_in k (keys_by_rank t) ≡ true
in_table t k h = has_key t k (placed_case (entry_of t k) h)

both_placed : (a b : Option Coord) → same_place a b ≡ true → (is_some a ≡ true) × (is_some b ≡ true)
both_placed None None h = cc
both_placed None (Some b) h = cc
both_placed (Some a) None h = cc
both_placed (Some a) (Some b) h = (refl, refl)

same_turned : (a b : Option Coord) → same_place a b ≡ same_place b a
same_turned None None = refl
same_turned None (Some b) = refl
same_turned (Some a) None = refl
same_turned (Some a) (Some b) = λ i. int_eq_equiv.symm a.lon b.lon i && int_eq_equiv.symm a.lat b.lat i

-- nodes of two ids are two
two_nodes : (a b : ℤ) (c : Bool) → int_eq a b ≡ false → is_key (node a) (node b) ≡ c → c ≡ false
two_nodes a b true apart is =
    let one : a ≡ b = ap (λ (k : Key). k.id) (one_key (node a) (node b) is) in
    let e : false ≡ true = sym apart ∙ (Decides-int_eq a b).1 one in
    cc
two_nodes a b false apart is = refl

only_case : (same some here : Bool) → (same ≡ false → here ≡ true → some ≡ true) → (not same && (some && here)) ≡ (not same && here)
only_case true some here h = refl
only_case false some true h = ap (λ b. b && true) (h refl refl)
only_case false some false h = and-false some

module _ (t : TableValue) (doubled : List Key) (has : HasDoubled t doubled) where
  one_doubled : (a b : Key) (o : Ordering) → rank_cmp a b ≡ o → is_key a b ≡ false → are_together t a b ≡ true → (is_named doubled a || is_named doubled b) ≡ true
  one_doubled a b Less is apart h =
      let both = both_placed (place_at t a) (place_at t b) h in
      let found : is_some (doubled_of t b) ≡ true = some_found (λ j. is_lt (rank_cmp j b) && are_together t j b) a (keys_by_rank t) (in_table t a both.0) (and_from _ _ (ap is_lt is) h) in
      or_right (is_named doubled a) (is_named doubled b) (has b (in_table t b both.1) found)
  one_doubled a b Greater is apart h =
      let both = both_placed (place_at t a) (place_at t b) h in
      let less : is_lt (rank_cmp b a) ≡ true = ap is_lt (rank_total.antisymm b a ∙ ap ordering_reverse is) in
      let found : is_some (doubled_of t a) ≡ true = some_found (λ j. is_lt (rank_cmp j a) && are_together t j a) b (keys_by_rank t) (in_table t b both.1) (and_from _ _ less (same_turned (place_at t b) (place_at t a) ∙ h)) in
      or_left (is_named doubled a) (is_named doubled b) (has a (in_table t a both.0) found)
  one_doubled a b Equal is apart h = (let e : true ≡ false = sym (ap is_eq is) ∙ apart in cc)

  pub only_doubled : (a b : ℤ) → (not (int_eq a b) && ((is_named doubled (node a) || is_named doubled (node b)) && are_together t (node a) (node b))) ≡ (not (int_eq a b) && are_together t (node a) (node b))
  only_doubled a b =
      only_case (int_eq a b) (is_named doubled (node a) || is_named doubled (node b)) (are_together t (node a) (node b))
      (λ apart. one_doubled (node a) (node b) (rank_cmp (node a) (node b)) refl (two_nodes a b (is_key (node a) (node b)) apart refl))

-- the keys of what was found doubled are those of all doubled nodes
named_case : (t : TableValue) (k x : Key) (xs : List Key) (rest : List Finding) (o : Option Key) (b : Bool) → is_key k x ≡ b → doubled_of t x ≡ o → (b || is_in k xs) ≡ true → is_some (doubled_of t k) ≡ true
    → (is_in k xs ≡ true → is_named (filter_map doubled_key rest) k ≡ true) → is_named (filter_map doubled_key (cons_option (option_map (λ of. Doubled x of) o) rest)) k ≡ true
named_case t k x xs rest (Some of) true is one there some more = or_left (is_key k x) (is_named (filter_map doubled_key rest) k) is
named_case t k x xs rest (Some of) false is one there some more = or_right (is_key k x) (is_named (filter_map doubled_key rest) k) (more there)
named_case t k x xs rest None true is none there some more = (let e : true ≡ false = sym some ∙ ap (λ j. is_some (doubled_of t j)) (one_key k x is) ∙ ap is_some none in cc)
named_case t k x xs rest None false is none there some more = more there

named_doubled : (t : TableValue) (k : Key) (ks : List Key) → is_in k ks ≡ true → is_some (doubled_of t k) ≡ true → is_named (filter_map doubled_key (filter_map (doubled_finding t) ks)) k ≡ true
named_doubled t k [] there some = cc
named_doubled t k (x ∷ xs) there some = named_case t k x xs (filter_map (doubled_finding t) xs) (doubled_of t x) (is_key k x) refl refl there some (λ h. named_doubled t k xs h some)

pub has_doubled : (t : TableValue) (ks : List Key) (found : List Finding) (keys set : List Key) → ks ≡ keys_by_rank t → found ≡ filter_map (doubled_finding t) ks → keys ≡ filter_map doubled_key found → set ≡ keys → HasDoubled t set
has_doubled t ks found keys set all are those is k there some =
    ap (λ (l : List Key). is_named l k) (is ∙ those ∙ ap (filter_map doubled_key) are)
    ∙ named_doubled t k ks (ap (λ (l : List Key). is_in k l) all ∙ there) some
