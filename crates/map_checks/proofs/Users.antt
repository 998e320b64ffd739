-- Those that refer to one of some nodes are the users of the nodes, by the index.
use Rattle.std.proofs.Common.{◌≡◌, ◌||◌, ◌&&◌, Bool, true, false, cond, is_some, List, [], ◌∷◌, Option, Some, None, refl, sym, ◌∙◌}
use Rattle.std.specs.List.{flat_map}
use Rattle.std.specs.Option.{option_map_or}
use Rattle.std.proofs.lemmas.Bool.{and_from}
use Rattle.osm_base.specs.Order.{ranked}
use Rattle.osm_base.specs.RisingKeys.{is_in}
use Rattle.osm_base.proofs.RisingKeys.{in_filter}
use Rattle.osm_base.specs.declared.key.Key.{Key}
use Rattle.osm_base.specs.declared.key.Kind.{Kind}
use Rattle.osm_base.specs.declared.key.Kind.TheVariants as kind
use Rattle.osm_table.specs.declared.entry.Entry.{Entry}
use Rattle.osm_table.specs.declared.entry.Entry.TheVariants.{Incomplete, Known}
use Rattle.osm_table.specs.Table.{TableValue, entry_of, keys_by_rank, users, uses}
use Rattle.dataset.proofs.Listed.{user_uses}
use Rattle.tool_api.specs.declared.kinds.Kinds.TheVariants.{Nodes}
use Rattle.tool_api.specs.declared.refusal.Refusal.{Refusal}
use Rattle.tool_api.specs.declared.refusal.Refusal.TheVariants.{WrongKind}
use Rattle.tool_api.specs.Checks.{is_named, first_of, target_test, entry_test, conflict_test, takes}
use Rattle.tool_api.specs.Fuse.{users_among}
use Rattle.tool_api.proofs.Bridge.{ranked_filter}
use Rattle.tool_api.proofs.Least.{has_key}
use Rattle.tool_api.proofs.Passed.{passes}
use Rattle.tool_api.proofs.Named.{uses_one, some_user, in_users}

-- What passed the target tests of nodes is a node.

kind_case : (k : Kind) (o : Option Refusal) (r : Refusal) → cond (takes Nodes k) o (Some r) ≡ None → k ≡ kind.Node
kind_case kind.Node o r e = refl
kind_case kind.Way o r e = cc
kind_case kind.Relation o r e = cc

entry_kind : (k : Key) (o : Option Entry) → entry_test Nodes k o ≡ None → k.kind ≡ kind.Node
entry_kind k None e = cc
entry_kind k (Some Incomplete) e = cc
entry_kind k (Some (Known base None conflict)) e = cc
entry_kind k (Some (Known base (Some c) conflict)) e = kind_case k.kind (conflict_test k conflict) (WrongKind k) e

pub node_kind : (t : TableValue) (nodes : List Key) (k : Key) → first_of (target_test t Nodes) nodes ≡ None → is_named nodes k ≡ true → k.kind ≡ kind.Node
node_kind t nodes k passed named = entry_kind k (entry_of t k) (passes (target_test t Nodes) nodes k passed named)

user_some : (k : Key) (o : Option Entry) → option_map_or (λ e. uses e k) o false ≡ true → is_some o ≡ true
user_some k None h = cc
user_some k (Some e) h = refl

-- who uses one of the nodes has an entry
has_case : (t : TableValue) (v : Key) (nodes : List Key) (k : Key) (b : Bool) → is_named (users t v) k ≡ b → (b || uses_one t nodes k) ≡ true → (uses_one t nodes k ≡ true → is_some (entry_of t k) ≡ true) → is_some (entry_of t k) ≡ true
has_case t v nodes k true is h rest = user_some v (entry_of t k) (sym (user_uses t v k) ∙ is)
has_case t v nodes k false is h rest = rest h

has_entry : (t : TableValue) (nodes : List Key) (k : Key) → uses_one t nodes k ≡ true → is_some (entry_of t k) ≡ true
has_entry t [] k h = cc
has_entry t (v ∷ nodes) k h = has_case t v nodes k (is_named (users t v) k) refl h (has_entry t nodes k)

there : (t : TableValue) (nodes : List Key) (k : Key) (b : Bool) → uses_one t nodes k ≡ b → b ≡ (b && is_in k (keys_by_rank t))
there t nodes k true is = sym (has_key t k (has_entry t nodes k is))
there t nodes k false is = refl

pub users_ranked : (t : TableValue) (nodes : List Key) → ranked (flat_map (users t) nodes) ≡ users_among t nodes
users_ranked t nodes = ranked_filter (uses_one t nodes) t (flat_map (users t) nodes) (λ k. in_users t nodes k ∙ there t nodes k (uses_one t nodes k) refl)

-- who refers to one of the nodes is among them
pub user_among : (t : TableValue) (nodes : List Key) (k n : Key) → is_named nodes n ≡ true → option_map_or (λ (e : Entry). uses e n) (entry_of t k) false ≡ true → is_named (users_among t nodes) k ≡ true
user_among t nodes k n named used =
    in_filter (uses_one t nodes) k (keys_by_rank t)
    ∙ and_from _ _ (some_user t nodes k n named (user_uses t n k ∙ used)) (has_key t k (user_some n (entry_of t k) used))
