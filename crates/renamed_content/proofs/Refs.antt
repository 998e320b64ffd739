-- What a renamed content refers to.
use Rattle.std.proofs.Common.{◌≡◌, ◌||◌, ℤ, Bool, true, false, List, [], ◌∷◌, map, refl, sym, ◌∙◌, ap, subst}
use Rattle.std.proofs.lemmas.Bool.{or_right}
use Rattle.std.specs.List.{list_any}
use Rattle.osm_base.specs.Rank.{is_key}
use Rattle.osm_base.specs.Content.{node, refs_of, refers, kind_of_content}
use Rattle.osm_base.specs.declared.key.Key.{Key}
use Rattle.osm_base.specs.declared.members.Member.{Member}
use Rattle.osm_base.specs.declared.content.Content.{Content}
use Rattle.osm_base.specs.declared.content.Content.TheVariants.{Node, Way, Relation}
use Rattle.osm_base.proofs.RisingKeys.{one_key, key_itself}
use Rattle.renamed_content.specs.Renamed.{renamed}

-- it has its kind
pub renamed_kind : (f : Key → Key) (c : Content) → kind_of_content (renamed f c) ≡ kind_of_content c
renamed_kind f (Node tags at) = refl
renamed_kind f (Way tags refs) = refl
renamed_kind f (Relation tags members) = refl

-- and refers to what its references are called, where kinds stay
module _ (f : Key → Key) (kinds : (k : Key) → (f k).kind ≡ k.kind) where
  nodes_called : (is : List ℤ) → map node (map (λ i. (f (node i)).id) is) ≡ map f (map node is)
  nodes_called [] = refl
  nodes_called (i ∷ is) = λ j. (record { kind = sym (kinds (node i)) j; id = (f (node i)).id }) ∷ nodes_called is j

  members_called : (ms : List Member) → map (λ m. m.key) (map (λ m. let n : Member = record { key = f m.key; role = m.role } in n) ms) ≡ map f (map (λ m. m.key) ms)
  members_called [] = refl
  members_called (m ∷ ms) = ap (λ (ks : List Key). f m.key ∷ ks) (members_called ms)

  pub refs_renamed : (c : Content) → refs_of (renamed f c) ≡ map f (refs_of c)
  refs_renamed (Node tags at) = refl
  refs_renamed (Way tags refs) = nodes_called refs
  refs_renamed (Relation tags members) = members_called members

  first_or_rest : (P : Key → Type 0) (r q : Key) (b rest : Bool) → is_key r (f q) ≡ b → (b || rest) ≡ true → P (f q) → (rest ≡ true → P r) → P r
  first_or_rest P r q true rest is e here there = subst P (sym (one_key r (f q) is)) here
  first_or_rest P r q false rest is e here there = there e

  any_called : (P : Key → Type 0) (ks : List Key) → ((q : Key) → list_any (is_key q) ks ≡ true → P (f q)) → (r : Key) → list_any (is_key r) (map f ks) ≡ true → P r
  any_called P [] all r e = let h : false ≡ true = e in cc
  any_called P (k ∷ ks) all r e =
      first_or_rest P r k (is_key r (f k)) (list_any (is_key r) (map f ks)) refl e (all k (ap (λ b. b || list_any (is_key k) ks) (key_itself k)))
      (any_called P ks (λ q h. all q (or_right (is_key q k) (list_any (is_key q) ks) h)) r)

  -- what holds of what each reference is called holds of each reference of the renamed content
  pub renamed_refers : (P : Key → Type 0) (c : Content) → ((q : Key) → refers c q ≡ true → P (f q)) → (r : Key) → refers (renamed f c) r ≡ true → P r
  renamed_refers P c all r e = any_called P (refs_of c) all r (ap (list_any (is_key r)) (sym (refs_renamed c)) ∙ e)
