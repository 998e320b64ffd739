-- To what refers a content that refers to the kept node in place of others.
use Rattle.std.proofs.Common.{◌≡◌, ℤ, ◌||◌, ◌&&◌, Bool, true, false, cond, List, [], ◌∷◌, refl, sym, ap, ◌∙◌, map}
use Rattle.std.proofs.Math.Bool.{or-true}
use mathlib.Core.Logic.{◌⊎◌, inl, inr}
use Rattle.std.specs.List.{list_any}
use Rattle.std.specs.Ordering.{int_eq}
use Rattle.osm_base.specs.Content.{refers, node, kind_of_content}
use Rattle.osm_base.specs.Rank.{is_key}
use Rattle.osm_base.proofs.AnyMap.{list_any_map}
use Rattle.osm_base.proofs.RisingKeys.{one_key}
use Rattle.osm_base.specs.declared.key.Key.{Key}
use Rattle.osm_base.specs.declared.key.Kind.TheVariants as kind
use Rattle.osm_base.specs.declared.members.Member.{Member}
use Rattle.osm_base.specs.declared.content.Content.{Content}
use Rattle.osm_base.specs.declared.content.Content.TheVariants.{Node, Way, Relation}
use Rattle.osm_base.proofs.Lists.{any_dedup}
use Rattle.tool_api.specs.Checks.{is_named}
use Rattle.tool_api.specs.Fuse.{fused_key, fused_content, without_runs}

module _ (nodes : List Key) (kept : Key) where
  pub same_kind : (c : Content) → kind_of_content (fused_content nodes kept c) ≡ kind_of_content c
  same_kind (Node tags at) = refl
  same_kind (Way tags refs) = refl
  same_kind (Relation tags members) = refl

  -- a reference is the kept node, or one of the old ones that isn't named
  abbrev pub Moves : List Key → Key → Type 0
  Moves ks r = (r ≡ kept) ⊎ ((is_named nodes r ≡ false) × (list_any (is_key r) ks ≡ true))

  abbrev any_moved : List Key → Key → Bool
  any_moved ks r = list_any (λ (k : Key). is_key r (fused_key nodes kept k)) ks

  longer : (k : Key) (ks : List Key) (r : Key) → Moves ks r → Moves (k ∷ ks) r
  longer k ks r (inl e) = inl e
  longer k ks r (inr h) = inr (h.0, ap (λ b. is_key r k || b) h.1 ∙ or-true (is_key r k))

  moved_case : (k : Key) (ks : List Key) (r : Key) (b c : Bool) → is_named nodes k ≡ b → is_key r (cond b kept k) ≡ c → (c || any_moved ks r) ≡ true → (any_moved ks r ≡ true → Moves ks r) → Moves (k ∷ ks) r
  moved_case k ks r true true named is h rest = inl (one_key r kept is)
  moved_case k ks r false true named is h rest = inr (ap (is_named nodes) (one_key r k is) ∙ named, ap (λ b. b || list_any (is_key r) ks) is)
  moved_case k ks r true false named is h rest = longer k ks r (rest h)
  moved_case k ks r false false named is h rest = longer k ks r (rest h)

  moved : (ks : List Key) (r : Key) → any_moved ks r ≡ true → Moves ks r
  moved [] r h = cc
  moved (k ∷ ks) r h = moved_case k ks r (is_named nodes k) (is_key r (fused_key nodes kept k)) refl refl h (moved ks r)

  -- what a node is called is a node
  still_node : (k : Key) (b : Bool) → kept.kind ≡ kind.Node → k.kind ≡ kind.Node → node (cond b kept k).id ≡ cond b kept k
  still_node k true is own = λ i. record { kind = sym is i; id = kept.id }
  still_node k false is own = λ i. record { kind = sym own i; id = k.id }

  node_again : (id : ℤ) → kept.kind ≡ kind.Node → node (fused_key nodes kept (node id)).id ≡ fused_key nodes kept (node id)
  node_again id is = still_node (node id) (is_named nodes (node id)) is refl

  way_moved : (refs : List ℤ) (r : Key) → kept.kind ≡ kind.Node → list_any (is_key r) (map node (without_runs kept.id (map (λ (i : ℤ). (fused_key nodes kept (node i)).id) refs))) ≡ true → any_moved (map node refs) r ≡ true
  way_moved refs r is used =
      let ids = map (λ (i : ℤ). (fused_key nodes kept (node i)).id) refs in
      list_any_map (λ (k : Key). is_key r (fused_key nodes kept k)) node refs
      ∙ (λ j. list_any (λ (i : ℤ). is_key r (sym (node_again i is) j)) refs)
      ∙ sym (list_any_map (λ (id : ℤ). is_key r (node id)) (λ (i : ℤ). (fused_key nodes kept (node i)).id) refs)
      ∙ any_dedup (λ (id : ℤ). is_key r (node id)) (λ a b. int_eq a kept.id && int_eq b kept.id) ids (sym (list_any_map (is_key r) node (without_runs kept.id ids)) ∙ used)

  members_moved : (members : List Member) (r : Key) → list_any (is_key r) (map (λ (m : Member). m.key) (map (λ (m : Member). record { key = fused_key nodes kept m.key; role = m.role }) members)) ≡ true → any_moved (map (λ (m : Member). m.key) members) r ≡ true
  members_moved members r used =
      list_any_map (λ (k : Key). is_key r (fused_key nodes kept k)) (λ (m : Member). m.key) members
      ∙ sym (list_any_map (λ (m : Member). is_key r m.key) (λ (m : Member). record { key = fused_key nodes kept m.key; role = m.role }) members)
      ∙ sym (list_any_map (is_key r) (λ (m : Member). m.key) (map (λ (m : Member). record { key = fused_key nodes kept m.key; role = m.role }) members))
      ∙ used

  abbrev pub RefersMoved : Content → Key → Type 0
  RefersMoved c r = (r ≡ kept) ⊎ ((is_named nodes r ≡ false) × (refers c r ≡ true))

  pub refers_moved : (c : Content) (r : Key) → kept.kind ≡ kind.Node → refers (fused_content nodes kept c) r ≡ true → RefersMoved c r
  refers_moved (Node tags at) r is used = cc
  refers_moved (Way tags refs) r is used = moved (map node refs) r (way_moved refs r is used)
  refers_moved (Relation tags members) r is used = moved (map (λ (m : Member). m.key) members) r (members_moved members r used)
