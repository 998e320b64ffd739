-- What erasing touches is found by the index.
use Rattle.std.proofs.Common.{◌≡◌, ◌&&◌, ◌||◌, Bool, true, false, not, List, ◌++◌, map, filter, Option, Some, None, refl, sym, ap, ◌∙◌}
use Rattle.std.specs.List.{flat_map, list_all, list_any}
use Rattle.std.specs.Option.{option_map_or, option_and_then}
use Rattle.std.proofs.Math.Bool.{and_assoc, and-true, and-false}
use Rattle.std.proofs.lemmas.List.Folds.{list_any-append}
use Rattle.osm_base.specs.Rank.{is_key}
use Rattle.osm_base.specs.Content.{refers, node}
use Rattle.osm_base.proofs.AnyMap.{list_any_map}
use Rattle.osm_base.proofs.RisingKeys.{in_filter}
use Rattle.osm_base.specs.declared.key.Key.{Key}
use Rattle.osm_base.specs.declared.members.Member.{Member}
use Rattle.osm_base.specs.declared.content.Content.{Content}
use Rattle.osm_base.specs.declared.content.Content.TheVariants as content
use Rattle.osm_table.specs.declared.entry.Entry.{Entry}
use Rattle.osm_table.specs.Table.{TableValue, entry_of, mine_of, uses, users}
use Rattle.dataset.proofs.Listed.{user_uses}
use Rattle.tool_api.specs.Checks.{is_named}
use Rattle.tool_api.specs.Distinct.{distinct}
use Rattle.tool_api.specs.Changes.{content_of}
use Rattle.tool_api.specs.Gone.{is_bare, is_mended, is_mended_content, is_relation, is_way}
use Rattle.tool_api.proofs.Distincts.{in_distinct}
use Rattle.tools_delete.specs.Touched.{falls_short, has_gone, is_free, is_left_by, lives_as_relation, lives_as_way, loses_members, way_nodes}
use Rattle.tools_delete.proofs.Anys.{common, common_passing, named_flat}

entry_refers : (r : Key) (o : Option Entry) → option_map_or (λ e. uses e r) o false ≡ option_map_or (λ c. refers c r) (option_and_then mine_of o) false
entry_refers r None = refl
entry_refers r (Some e) = refl

-- who lives and refers to a key is one of its users
user_refers : (t : TableValue) (r k : Key) → is_named (users t r) k ≡ option_map_or (λ c. refers c r) (content_of t k) false
user_refers t r k = user_uses t r k ∙ entry_refers r (entry_of t k)

-- keys from several lists that pass, each once
once_among : (p : Key → Bool) (f : Key → List Key) (ks : List Key) (q : Key) → is_named (distinct (filter p (flat_map f ks))) q ≡ (p q && list_any (λ k. is_named (f k) q) ks)
once_among p f ks q = in_distinct q (filter p (flat_map f ks)) ∙ in_filter p q (flat_map f ks) ∙ ap (λ b. p q && b) (named_flat f ks q)

-- Mended ways.

names : (named : List Key) (o : Option Content) → (option_map_or is_way o false && list_any (λ k. option_map_or (λ c. refers c k) o false) named) ≡ option_map_or (is_mended_content named) o false
names named None = refl
names named (Some (content.Node tags at)) = refl
names named (Some (content.Way tags refs)) = common named (map node refs) ∙ list_any_map (is_named named) node refs
names named (Some (content.Relation tags members)) = refl

pub mended_found : (t : TableValue) (named ways : List Key) → ways ≡ distinct (filter (λ u. not (is_named named u) && lives_as_way t u) (flat_map (users t) named)) → (q : Key) → is_named ways q ≡ is_mended t named q
mended_found t named ways is q =
    ap (λ ks. is_named ks q) is
    ∙ once_among (λ u. not (is_named named u) && lives_as_way t u) (users t) named q
    ∙ and_assoc (not (is_named named q)) (lives_as_way t q) _
    ∙ ap (λ b. not (is_named named q) && b) ((λ i. lives_as_way t q && list_any (λ k. user_refers t k q i) named) ∙ names named (content_of t q))

-- What falls.

pub falling_found : (t : TableValue) (named ways falling : List Key) → falling ≡ named ++ filter (falls_short t named) ways → (q : Key) → is_named falling q ≡ (is_named named q || (falls_short t named q && is_named ways q))
falling_found t named ways falling is q =
    ap (λ ks. is_named ks q) is ∙ list_any-append (is_key q) named (filter (falls_short t named) ways) ∙ ap (λ b. is_named named q || b) (in_filter (falls_short t named) q ways)

-- Nodes left.

node_of : (q : Key) (o : Option Content) → is_named (way_nodes o) q ≡ (option_map_or (λ c. refers c q) o false && option_map_or is_way o false)
node_of q None = refl
node_of q (Some (content.Node tags at)) = refl
node_of q (Some (content.Way tags refs)) = sym (and-true (is_named (map node refs) q))
node_of q (Some (content.Relation tags members)) = sym (and-false (refers (content.Relation tags members) q))

nodes_found : (t : TableValue) (falling : List Key) (q : Key) → list_any (λ k. is_named (way_nodes (content_of t k)) q) falling ≡ list_any (λ u. is_named falling u && lives_as_way t u) (users t q)
nodes_found t falling q =
    (λ i. list_any (λ k. node_of q (content_of t k) i) falling)
    ∙ (λ i. list_any (λ k. sym (user_refers t q k) i && lives_as_way t k) falling)
    ∙ common_passing (lives_as_way t) falling (users t q)

between : (a b c : Bool) → ((a && c) && b) ≡ ((a && b) && c)
between true true true = refl
between true true false = refl
between true false true = refl
between true false false = refl
between false b c = refl

pub going_found : (t : TableValue) (falling going : List Key) → going ≡ falling ++ filter (is_free t falling) (distinct (flat_map (λ k. way_nodes (content_of t k)) falling)) → (q : Key) → is_named going q ≡ (is_named falling q || is_left_by t falling q)
going_found t falling going is q =
    let nodes = flat_map (λ k. way_nodes (content_of t k)) falling in
    ap (λ ks. is_named ks q) is ∙ list_any-append (is_key q) falling (filter (is_free t falling) (distinct nodes))
    ∙ ap (λ b. is_named falling q || b)
    (in_filter (is_free t falling) q (distinct nodes)
    ∙ ap (λ b. is_free t falling q && b) (in_distinct q nodes ∙ named_flat (λ k. way_nodes (content_of t k)) falling q ∙ nodes_found t falling q)
    ∙ between (is_bare (entry_of t q)) _ (list_all (is_named falling) (users t q)))

-- Relations that lose members.

loses : (going : List Key) (o : Option Content) → (option_map_or is_relation o false && list_any (λ k. option_map_or (λ c. refers c k) o false) going) ≡ option_map_or (has_gone going) o false
loses going None = refl
loses going (Some (content.Node tags at)) = refl
loses going (Some (content.Way tags refs)) = refl
loses going (Some (content.Relation tags members)) = common going (map (λ (m : Member). m.key) members) ∙ list_any_map (is_named going) (λ (m : Member). m.key) members

pub losing_found : (t : TableValue) (falling going relations : List Key) → relations ≡ distinct (filter (λ u. not (is_named falling u) && lives_as_relation t u) (flat_map (users t) going)) → (q : Key) → is_named relations q ≡ loses_members t falling going q
losing_found t falling going relations is q =
    ap (λ ks. is_named ks q) is
    ∙ once_among (λ u. not (is_named falling u) && lives_as_relation t u) (users t) going q
    ∙ and_assoc (not (is_named falling q)) (lives_as_relation t q) _
    ∙ ap (λ b. not (is_named falling q) && b) ((λ i. lives_as_relation t q && list_any (λ k. user_refers t k q i) going) ∙ loses going (content_of t q))
