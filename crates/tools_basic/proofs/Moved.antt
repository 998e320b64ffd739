-- The nodes that move with the objects named are those of the definition, and they are there.
use Rattle.std.proofs.Common.{◌≡◌, ◌&&◌, ◌||◌, Bool, true, false, is_some, List, [], ◌∷◌, Option, Some, None, refl, sym, ap, ◌∙◌, subst}
use Rattle.std.specs.List.{list_any}
use Rattle.std.specs.Option.{option_map_or, option_and_then}
use Rattle.std.specs.FinMap as fin
use Rattle.std.proofs.lemmas.List.Folds.{list_any-append}
use Rattle.std.proofs.Math.Bool.{or-true}
use Rattle.osm_base.specs.Rank.{is_key}
use Rattle.osm_base.specs.Content.{node, refers, kind_of_content}
use Rattle.osm_base.proofs.RisingKeys.{one_key}
use Rattle.osm_base.specs.declared.key.Key.{Key}
use Rattle.osm_base.specs.declared.key.Kind.TheVariants as kind
use Rattle.osm_base.specs.declared.content.Content.{Content}
use Rattle.osm_base.specs.declared.content.Content.TheVariants.{Node, Way, Relation}
use Rattle.osm_table.specs.declared.entry.Entry.{Entry}
use Rattle.osm_table.specs.declared.entry.Entry.TheVariants.{Incomplete, Known}
use Rattle.osm_table.specs.Table.{TableValue, entry_of, mine_of, IsThere}
use Rattle.dataset.specs.Sound.{IsSound}
use Rattle.tool_api.specs.declared.kinds.Kinds.TheVariants.{Nodes, NodesAndWays}
use Rattle.tool_api.specs.Basic.{has_node, is_moved, moved_nodes}
use Rattle.osm_base.specs.Order.{ranked}
use Rattle.tool_api.specs.Checks.{first_of, is_named, takes, entry_test, target_test, list_tests, twice_test}
use Rattle.osm_base.proofs.RankedKeys.{named_ranked}
use Rattle.osm_base.proofs.Tests.{by_either, passed_where_none}
use Rattle.tool_api.proofs.Bridge.{ranked_filter}
use Rattle.tool_api.proofs.Passed.{both_none}
use Rattle.tools_basic.specs.Moves.{moved_with, all_moved_with}
use Rattle.tool_api.proofs.Bools.{false_between}
use Rattle.tool_api.proofs.Named.{node_kind}

-- what is there has an entry
there_some : (o : Option Entry) → IsThere o → is_some o ≡ true
there_some None h = absurd h
there_some (Some e) h = refl

-- whether a key is a node that moves with an object, and has an entry
abbrev moves_with : TableValue → Key → Key → Option Content → Bool
moves_with t q k o = (takes Nodes q.kind && (is_key q k || option_map_or (λ c. refers c q) o false)) && is_some (entry_of t q)

by_itself : (t : TableValue) (q k : Key) (b : Bool) → is_key q k ≡ b → k.kind ≡ kind.Node → is_some (entry_of t k) ≡ true → (b || false) ≡ ((takes Nodes q.kind && (b || false)) && is_some (entry_of t q))
by_itself t q k true is node some =
    let one = one_key q k is in
    let takes_it : takes Nodes q.kind ≡ true = ap (λ (j : Key). takes Nodes j.kind) one ∙ ap (takes Nodes) node in
    let has : is_some (entry_of t q) ≡ true = ap (λ (j : Key). is_some (entry_of t j)) one ∙ some in
    rw (takes_it, has) refl
by_itself t q k false is node some = false_between (takes Nodes q.kind) (is_some (entry_of t q))

not_itself : (q k : Key) (b y : Bool) → is_key q k ≡ b → k.kind ≡ kind.Way → false ≡ ((takes Nodes q.kind && (b || false)) && y)
not_itself q k true y is way =
    let refuses : takes Nodes q.kind ≡ false = ap (λ (j : Key). takes Nodes j.kind) (one_key q k is) ∙ ap (takes Nodes) way in
    rw refuses refl
not_itself q k false y is way = false_between (takes Nodes q.kind) y

by_way : (t : TableValue) (q k : Key) (r : Bool) → k.kind ≡ kind.Way → (r ≡ true → q.kind ≡ kind.Node) → (r ≡ true → IsThere (entry_of t q)) → r ≡ ((takes Nodes q.kind && (is_key q k || r)) && is_some (entry_of t q))
by_way t q k true way node there =
    let takes_it : takes Nodes q.kind ≡ true = ap (takes Nodes) (node refl) in
    let has = there_some (entry_of t q) (there refl) in
    let or = or-true (is_key q k) in
    rw (takes_it, has, or) refl
by_way t q k false way node there = not_itself q k (is_key q k) (is_some (entry_of t q)) refl way

-- the nodes that move with an object of a kind that is moved
of_content : (t : TableValue) (q k : Key) (c : Content) → takes NodesAndWays k.kind ≡ true → kind_of_content c ≡ k.kind → is_some (entry_of t k) ≡ true → (refers c q ≡ true → IsThere (entry_of t q))
    → is_named (moved_with k (Some c)) q ≡ moves_with t q k (Some c)
of_content t q k (Node tags at) taken kinds some there = by_itself t q k (is_key q k) refl (sym kinds) some
of_content t q k (Way tags refs) taken kinds some there = by_way t q k (refers (Way tags refs) q) (sym kinds) (node_kind q refs) there
of_content t q k (Relation tags members) taken kinds some there = let never : takes NodesAndWays kind.Relation ≡ true = ap (takes NodesAndWays) kinds ∙ taken in cc

of_entry : (t : TableValue) (q k : Key) (o : Option Entry) → IsSound t → entry_of t k ≡ o → entry_test NodesAndWays k o ≡ None → is_named (moved_with k (option_and_then mine_of o)) q ≡ moves_with t q k (option_and_then mine_of o)
of_entry t q k None s is passed = cc
of_entry t q k (Some Incomplete) s is passed = cc
of_entry t q k (Some (Known base None conflict)) s is passed = cc
of_entry t q k (Some (Known base (Some c) conflict)) s is passed =
    of_content t q k c (passed_where_none (takes NodesAndWays k.kind) _ _ passed) (s.entries k _ is).kinds.1 (ap is_some is) (s.closed k _ is q)

together : (n s a b x y : Bool) → (((n && (a || x)) && s) || ((n && (b || y)) && s)) ≡ ((n && ((a || b) || (x || y))) && s)
together false s a b x y = refl
together true true true b x y = refl
together true true false true true y = refl
together true true false true false y = refl
together true true false false true y = refl
together true true false false false true = refl
together true true false false false false = refl
together true false true true x y = refl
together true false true false x true = refl
together true false true false x false = refl
together true false false true true y = refl
together true false false true false y = refl
together true false false false true true = refl
together true false false false true false = refl
together true false false false false true = refl
together true false false false false false = refl

-- the nodes that move with objects that passed their tests
named_moved : (t : TableValue) (keys : List Key) (q : Key) → IsSound t → first_of (target_test t NodesAndWays) keys ≡ None → is_named (all_moved_with t keys) q ≡ (is_moved t keys q && is_some (entry_of t q))
named_moved t [] q s passed = false_between (takes Nodes q.kind) (is_some (entry_of t q))
named_moved t (k ∷ ks) q s passed =
    let p = both_none (target_test t NodesAndWays k) (first_of (target_test t NodesAndWays) ks) passed in
    list_any-append (is_key q) (moved_with k (option_and_then mine_of (entry_of t k))) (all_moved_with t ks)
    ∙ ap (λ b. b || is_named (all_moved_with t ks) q) (of_entry t q k (entry_of t k) s refl p.0)
    ∙ ap (λ b. moves_with t q k (option_and_then mine_of (entry_of t k)) || b) (named_moved t ks q s p.1)
    ∙ together (takes Nodes q.kind) (is_some (entry_of t q)) (is_key q k) (is_named ks q) (has_node t q k) (list_any (has_node t q) ks)

-- The nodes collected, by rank, are the nodes to be moved.
pub moved_is : (t : TableValue) (keys : List Key) → IsSound t → list_tests t NodesAndWays keys ≡ None → ranked (all_moved_with t keys) ≡ moved_nodes t keys
moved_is t keys s passed =
    let p = both_none (twice_test [] keys) (first_of (target_test t NodesAndWays) keys) passed in
    ranked_filter (is_moved t keys) t (all_moved_with t keys) (λ q. named_moved t keys q s p.1 ∙ ap (λ b. is_moved t keys q && b) (fin.contains_key-keys t.entries q))

-- Each of them lives, or is Incomplete.

itself_there : (t : TableValue) (q k : Key) (b : Bool) → is_key q k ≡ b → (b || false) ≡ true → IsThere (entry_of t k) → IsThere (entry_of t q)
itself_there t q k true is h there = subst (λ (j : Key). IsThere (entry_of t j)) (sym (one_key q k is)) there
itself_there t q k false is h there = cc

content_there : (t : TableValue) (q k : Key) (c : Content) → IsThere (entry_of t k) → (refers c q ≡ true → IsThere (entry_of t q)) → is_named (moved_with k (Some c)) q ≡ true → IsThere (entry_of t q)
content_there t q k (Node tags at) here there h = itself_there t q k (is_key q k) refl h here
content_there t q k (Way tags refs) here there h = there h
content_there t q k (Relation tags members) here there h = cc

entry_there : (t : TableValue) (q k : Key) (o : Option Entry) → IsSound t → entry_of t k ≡ o → is_named (moved_with k (option_and_then mine_of o)) q ≡ true → IsThere (entry_of t q)
entry_there t q k None s is h = cc
entry_there t q k (Some Incomplete) s is h = cc
entry_there t q k (Some (Known base None conflict)) s is h = cc
entry_there t q k (Some (Known base (Some c) conflict)) s is h = content_there t q k c (subst IsThere (sym is) refl) (s.closed k _ is q) h

collected_there : (t : TableValue) (keys : List Key) (q : Key) → IsSound t → is_named (all_moved_with t keys) q ≡ true → IsThere (entry_of t q)
collected_there t [] q s h = cc
collected_there t (k ∷ ks) q s h =
    by_either _ _ (sym (list_any-append (is_key q) (moved_with k (option_and_then mine_of (entry_of t k))) (all_moved_with t ks)) ∙ h)
    (entry_there t q k (entry_of t k) s refl) (collected_there t ks q s)

pub moved_there : (t : TableValue) (keys : List Key) (q : Key) → IsSound t → list_tests t NodesAndWays keys ≡ None → is_named (moved_nodes t keys) q ≡ true → IsThere (entry_of t q)
moved_there t keys q s passed h =
    collected_there t keys q s (sym (named_ranked (all_moved_with t keys) q) ∙ ap (λ (ks : List Key). is_named ks q) (moved_is t keys s passed) ∙ h)
