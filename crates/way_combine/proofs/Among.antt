-- The relations with a member among ways are the users of the ways.
use Rattle.std.proofs.Common.{◌≡◌, ◌||◌, ◌&&◌, ℤ, pos, Bool, true, false, cond, is_some, List, [], ◌∷◌, Option, Some, None, refl, sym, ap, ◌∙◌, map}
use Rattle.std.specs.List.{filter, find, list_any, flat_map}
use Rattle.std.specs.Option.{option_map, option_map_or, option_and_then, is_none}
use Rattle.std.proofs.Math.Bool.{or-true}
use Rattle.osm_base.specs.Content.{refers, node}
use Rattle.osm_base.specs.Rank.{is_key}
use Rattle.osm_base.specs.RisingKeys.{is_in}
use Rattle.osm_base.proofs.AnyMap.{list_any_map}
use Rattle.osm_base.proofs.RisingKeys.{one_key, key_itself}
use Rattle.osm_base.specs.declared.key.Key.{Key}
use Rattle.osm_base.specs.declared.key.Kind.{Kind}
use Rattle.osm_base.specs.declared.key.Kind.TheVariants as kind
use Rattle.osm_base.specs.declared.members.Member.{Member}
use Rattle.osm_base.specs.declared.content.Content.{Content}
use Rattle.osm_base.specs.declared.content.Content.TheVariants as content
use Rattle.osm_table.specs.declared.entry.Entry.{Entry}
use Rattle.osm_table.specs.declared.entry.Entry.TheVariants.{Incomplete, Known}
use Rattle.osm_table.specs.Table.{TableValue, entry_of, keys_by_rank, users, uses, mine_of}
use Rattle.dataset.proofs.Listed.{user_uses}
use Rattle.tool_api.specs.declared.kinds.Kinds.TheVariants.{Ways}
use Rattle.tool_api.specs.declared.refusal.Refusal.{Refusal}
use Rattle.tool_api.specs.declared.refusal.Refusal.TheVariants.{MemberClash, WrongKind}
use Rattle.tool_api.specs.Checks.{is_named, first_of, target_test, entry_test, conflict_test, takes}
use Rattle.tool_api.specs.Changes.{content_of}
use Rattle.tool_api.specs.Gone.{is_relation}
use Rattle.tool_api.specs.Combine.{relations_among, member_test, clashes}
use Rattle.osm_base.specs.Order.{ranked}
use Rattle.tool_api.proofs.Bridge.{ranked_filter}
use Rattle.tool_api.proofs.Least.{has_key}
use Rattle.tool_api.proofs.Passed.{passes}
use Rattle.way_combine.proofs.Runs.{unfolded_names}
use Rattle.tool_api.proofs.Bools.{false_between}
use Rattle.tool_api.proofs.Named.{uses_one, some_user, in_users}

-- What passed the target tests of ways is a way.

kind_case : (k : Kind) (o : Option Refusal) (r : Refusal) → cond (takes Ways k) o (Some r) ≡ None → k ≡ kind.Way
kind_case kind.Node o r e = cc
kind_case kind.Way o r e = refl
kind_case kind.Relation o r e = cc

entry_kind : (k : Key) (o : Option Entry) → entry_test Ways k o ≡ None → k.kind ≡ kind.Way
entry_kind k None e = cc
entry_kind k (Some Incomplete) e = cc
entry_kind k (Some (Known base None conflict)) e = cc
entry_kind k (Some (Known base (Some c) conflict)) e = kind_case k.kind (conflict_test k conflict) (WrongKind k) e

pub way_kind : (t : TableValue) (ways : List Key) (k : Key) → first_of (target_test t Ways) ways ≡ None → is_named ways k ≡ true → k.kind ≡ kind.Way
way_kind t ways k passed named = entry_kind k (entry_of t k) (passes (target_test t Ways) ways k passed named)

-- Who refers to a way is a relation.

no_node : (k : Key) (id : ℤ) (b : Bool) → is_key k (node id) ≡ b → k.kind ≡ kind.Way → b ≡ false
no_node k id true is way = (let e : kind.Way ≡ kind.Node = sym way ∙ ap (λ (j : Key). j.kind) (one_key k (node id) is) in cc)
no_node k id false is way = refl

no_nodes : (k : Key) (refs : List ℤ) → k.kind ≡ kind.Way → list_any (is_key k) (map node refs) ≡ false
no_nodes k [] way = refl
no_nodes k (id ∷ ids) way = (let a = no_node k id (is_key k (node id)) refl way in let b = no_nodes k ids way in λ i. a i || b i)

pub relation_refers : (c : Content) (k : Key) → refers c k ≡ true → k.kind ≡ kind.Way → is_relation c ≡ true
relation_refers (content.Node tags at) k h way = cc
relation_refers (content.Way tags refs) k h way = (let e = no_nodes k refs way in cc)
relation_refers (content.Relation tags members) k h way = refl

-- what uses a way lives, and is a relation
pub user_is : (k : Key) (o : Option Entry) → k.kind ≡ kind.Way → option_map_or (λ e. uses e k) o false ≡ true → (is_some o ≡ true) × (option_map_or is_relation (option_and_then mine_of o) false ≡ true)
user_is k None way h = cc
user_is k (Some Incomplete) way h = cc
user_is k (Some (Known base None conflict)) way h = cc
user_is k (Some (Known base (Some c) conflict)) way h = (refl, relation_refers c k h way)

abbrev pub UsesOne : TableValue → List Key → Key → Type 0
UsesOne t ways k = (w : Key) × (is_named ways w ≡ true) × (is_named (users t w) k ≡ true)

one_case : (t : TableValue) (v : Key) (ways : List Key) (k : Key) (b : Bool) → is_named (users t v) k ≡ b → (b || uses_one t ways k) ≡ true → (uses_one t ways k ≡ true → UsesOne t ways k) → UsesOne t (v ∷ ways) k
one_case t v ways k true is h rest = (v, ap (λ b. b || is_named ways v) (key_itself v), is)
one_case t v ways k false is h rest = let r = rest h in (r.0, ap (λ b. is_key r.0 v || b) r.1 ∙ or-true (is_key r.0 v), r.2)

one_used : (t : TableValue) (ways : List Key) (k : Key) → uses_one t ways k ≡ true → UsesOne t ways k
one_used t [] k h = cc
one_used t (v ∷ ways) k h = one_case t v ways k (is_named (users t v) k) refl h (one_used t ways k)

-- The users of the ways, by the index, are the relations that the definition finds by a search.

is_among : (t : TableValue) (ways : List Key) (k : Key) (b : Bool) → uses_one t ways k ≡ b → first_of (target_test t Ways) ways ≡ None → b ≡ ((option_map_or is_relation (content_of t k) false && b) && is_in k (keys_by_rank t))
is_among t ways k false is passed = false_between (option_map_or is_relation (content_of t k) false) (is_in k (keys_by_rank t))
is_among t ways k true is passed =
    let u = one_used t ways k is in
    let h = user_is u.0 (entry_of t k) (way_kind t ways u.0 passed u.1) (sym (user_uses t u.0 k) ∙ u.2) in
    let a : true ≡ option_map_or is_relation (content_of t k) false = sym h.1 in
    let b : true ≡ is_in k (keys_by_rank t) = sym (has_key t k h.0) in
    λ i. (a i && true) && b i

pub among_users : (t : TableValue) (ways : List Key) → first_of (target_test t Ways) ways ≡ None → ranked (flat_map (users t) ways) ≡ relations_among t ways
among_users t ways passed =
    ranked_filter (λ k. option_map_or is_relation (content_of t k) false && uses_one t ways k) t (flat_map (users t) ways)
    (λ k. in_users t ways k ∙ is_among t ways k (uses_one t ways k) refl passed)

-- MemberClash comes from one of them alone.

none_is : {A : Type 0} (o : Option A) → is_none o ≡ true → o ≡ None
none_is None e = refl
none_is (Some x) e = cc

names_relation : (t : TableValue) (ways : List Key) (k : Key) (o : Option Entry) → entry_of t k ≡ o → clashes ways (option_and_then mine_of o) ≡ true → (option_map_or is_relation (option_and_then mine_of o) false && uses_one t ways k) ≡ true
names_relation t ways k None is h = cc
names_relation t ways k (Some Incomplete) is h = cc
names_relation t ways k (Some (Known base None conflict)) is h = cc
names_relation t ways k (Some (Known base (Some (content.Node tags at)) conflict)) is h = cc
names_relation t ways k (Some (Known base (Some (content.Way tags refs)) conflict)) is h = cc
names_relation t ways k (Some (Known base (Some (content.Relation tags members)) conflict)) is h =
    let n = unfolded_names ways (record { kind = kind.Way; id = pos 0 }) members (none_is _ h) in
    some_user t ways k n.0 n.1 (user_uses t n.0 k ∙ ap (λ (o : Option Entry). option_map_or (λ e. uses e n.0) o false) is ∙ list_any_map (is_key n.0) (λ (m : Member). m.key) members ∙ n.2)

find_case : (p q : Key → Bool) (k : Key) (ks : List Key) (a b : Bool) → q k ≡ a → p k ≡ b → (p k ≡ true → q k ≡ true) → find p (filter q ks) ≡ find p ks → find p (cond a (k ∷ filter q ks) (filter q ks)) ≡ cond b (Some k) (find p ks)
find_case p q k ks true true qk pk h rest = ap (λ c. cond c (Some k) (find p (filter q ks))) pk
find_case p q k ks true false qk pk h rest = ap (λ c. cond c (Some k) (find p (filter q ks))) pk ∙ rest
find_case p q k ks false true qk pk h rest = (let e : q k ≡ true = h pk in cc)
find_case p q k ks false false qk pk h rest = rest

find_filter : (p q : Key → Bool) (ks : List Key) → ((k : Key) → p k ≡ true → q k ≡ true) → find p (filter q ks) ≡ find p ks
find_filter p q [] h = refl
find_filter p q (k ∷ ks) h = find_case p q k ks (q k) (p k) refl refl (h k) (find_filter p q ks h)

pub clash_among : (t : TableValue) (ways ks : List Key) (o : Option Key) → ks ≡ relations_among t ways → o ≡ find (λ k. clashes ways (content_of t k)) ks → option_map MemberClash o ≡ member_test t ways
clash_among t ways ks o is found =
    ap (option_map MemberClash) (found ∙ ap (find (λ k. clashes ways (content_of t k))) is
    ∙ find_filter (λ k. clashes ways (content_of t k)) (λ k. option_map_or is_relation (content_of t k) false && uses_one t ways k) (keys_by_rank t) (λ k h. names_relation t ways k (entry_of t k) refl h))
