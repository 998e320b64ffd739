-- The passes of the filter, one after the other, leave what is kept.
use Rattle.std.proofs.Common.{◌≡◌, ◌&&◌, ◌||◌, Bool, true, false, cond, List, [], ◌∷◌, Option, None, Some, is_none, refl, ap, ◌∙◌}
use Rattle.std.specs.Prelude.{filter}
use Rattle.osm_base.specs.Tags.{Pair}
use Rattle.osm_base.specs.declared.key.Key.{Key}
use Rattle.osm_base.specs.declared.area.Area.{Area}
use Rattle.osm_base.specs.declared.content.Content.{Content}
use Rattle.osm_base.specs.declared.content.Content.TheVariants.{Node, Way, Relation}
use Rattle.opl_line.specs.declared.object.OplObject.{OplObject}
use Rattle.opl_file.specs.Objects.{keys_of}
use Rattle.download.specs.Tell.{references, IsTellable, AreTellable}
use Rattle.download.specs.Filter.{among, on_side, near, is_kept_way, is_kept_node, is_kept_place, nodes_of_ways, kept_places, is_related, relations, is_kept, is_whole, keeps, kept}
use Rattle.download.specs.FilterCode.{key_set, is_way, is_place, way_left, node_left, is_left, relation_left}
use Rattle.download.proofs.Sets.{set_of}

-- What is filtered twice.

both_ways : {X : Type 0} (p q : X → Bool) (x : X) (a : Bool) (xs ys : List X) → filter q xs ≡ ys → filter q (cond a (x ∷ xs) xs) ≡ cond (a && q x) (x ∷ ys) ys
both_ways p q x true xs ys e = ap (λ l. cond (q x) (x ∷ l) l) e
both_ways p q x false xs ys e = e

filter_twice : {X : Type 0} (p q : X → Bool) (xs : List X) → filter q (filter p xs) ≡ filter (λ x. p x && q x) xs
filter_twice p q [] = refl
filter_twice p q (x ∷ xs) = both_ways p q x (p x) (filter p xs) (filter (λ x. p x && q x) xs) (filter_twice p q xs)

filter_alike : {X : Type 0} (p q : X → Bool) → ((x : X) → p x ≡ q x) → (xs : List X) → filter p xs ≡ filter q xs
filter_alike p q same xs = λ i. filter (λ x. same x i) xs

-- Each object by its side.

and_true : (b : Bool) → (b && true) ≡ b
and_true true = refl
and_true false = refl

and_false : (b : Bool) → (b && false) ≡ false
and_false true = refl
and_false false = refl

way_case : (b : Bool) → ((b && true) && true) ≡ (b || false)
way_case true = refl
way_case false = refl

kept_case : (b : Bool) → (b && true) ≡ ((b || false) || false)
kept_case true = refl
kept_case false = refl

kept_way_case : (b : Bool) → ((b && true) && true) ≡ (((b || false) || false) || false)
kept_way_case true = refl
kept_way_case false = refl

no_case : (b : Bool) → ((b && true) && false) ≡ false
no_case true = refl
no_case false = refl

module _ (area : Option Area) (wanted : List Pair) (n : Option (Key → Bool)) where
  way_side : (side : Option Content) → (way_left wanted n side && is_way side) ≡ is_kept_way wanted n side
  way_side None = refl
  way_side (Some (Node tags at)) = refl
  way_side (Some (Way tags refs)) = and_true (is_kept_way wanted n (Some (Way tags refs)))
  way_side (Some (Relation tags members)) = refl

  place_side : (u : Bool) (side : Option Content) → ((way_left wanted n side && node_left area wanted u side) && is_place side) ≡ (is_kept_way wanted n side || is_kept_node area wanted u side)
  place_side u None = refl
  place_side u (Some (Node tags at)) = and_true (is_kept_node area wanted u (Some (Node tags at)))
  place_side u (Some (Way tags refs)) = way_case (is_kept_way wanted n (Some (Way tags refs)))
  place_side u (Some (Relation tags members)) = refl

  related_side : (u : Bool) (p : Key → Bool) (side : Option Content) → ((way_left wanted n side && node_left area wanted u side) && is_related p side) ≡ is_related p side
  related_side u p None = refl
  related_side u p (Some (Node tags at)) = and_false (is_kept_node area wanted u (Some (Node tags at)))
  related_side u p (Some (Way tags refs)) = no_case (is_kept_way wanted n (Some (Way tags refs)))
  related_side u p (Some (Relation tags members)) = refl

  kept_object : (u p r : Key → Bool) (key : Key) (side : Option Content)
      → ((way_left wanted n side && node_left area wanted (u key) side) && relation_left p r side)
      ≡ (((is_none side || (is_kept_way wanted n side || is_kept_node area wanted (u key) side)) || is_related p side) || is_related r side)
  kept_object u p r key None = refl
  kept_object u p r key (Some (Node tags at)) = kept_case (is_kept_node area wanted (u key) (Some (Node tags at)))
  kept_object u p r key (Some (Way tags refs)) = kept_way_case (is_kept_way wanted n (Some (Way tags refs)))
  kept_object u p r key (Some (Relation tags members)) = refl

  module _ (objects : List OplObject) where
    -- the ways that the first pass leaves
    ways_left : filter (on_side is_way) (filter (on_side (way_left wanted n)) objects) ≡ filter (on_side (is_kept_way wanted n)) objects
    ways_left = filter_twice (on_side (way_left wanted n)) (on_side is_way) objects
        ∙ filter_alike (λ o. way_left wanted n o.side && is_way o.side) (on_side (is_kept_way wanted n)) (λ o. way_side o.side) objects

    -- what the first two passes leave, and what passes a test of it
    module _ (u : Key → Bool) where
      two_passes : (q : OplObject → Bool) → filter q (filter (is_left area wanted u) (filter (on_side (way_left wanted n)) objects))
          ≡ filter (λ o. (way_left wanted n o.side && node_left area wanted (u o.key) o.side) && q o) objects
      two_passes q = ap (filter q) (filter_twice (on_side (way_left wanted n)) (is_left area wanted u) objects)
          ∙ filter_twice (λ o. way_left wanted n o.side && node_left area wanted (u o.key) o.side) q objects

      places_left : filter (on_side is_place) (filter (is_left area wanted u) (filter (on_side (way_left wanted n)) objects)) ≡ filter (is_kept_place area wanted n u) objects
      places_left = two_passes (on_side is_place) ∙ filter_alike (λ o. (way_left wanted n o.side && node_left area wanted (u o.key) o.side) && is_place o.side) (is_kept_place area wanted n u) (λ o. place_side (u o.key) o.side) objects

      related_left : (p : Key → Bool) → filter (on_side (is_related p)) (filter (is_left area wanted u) (filter (on_side (way_left wanted n)) objects)) ≡ filter (on_side (is_related p)) objects
      related_left p = two_passes (on_side (is_related p)) ∙ filter_alike (λ o. (way_left wanted n o.side && node_left area wanted (u o.key) o.side) && is_related p o.side) (on_side (is_related p)) (λ o. related_side (u o.key) p o.side) objects

      all_left : (p r : Key → Bool) → filter (on_side (relation_left p r)) (filter (is_left area wanted u) (filter (on_side (way_left wanted n)) objects)) ≡ filter (is_kept area wanted n u p r) objects
      all_left p r = two_passes (on_side (relation_left p r)) ∙ filter_alike (λ o. (way_left wanted n o.side && node_left area wanted (u o.key) o.side) && relation_left p r o.side) (is_kept area wanted n u p r) (λ o. kept_object u p r o.key o.side) objects

-- The passes, each over what the one before left.
module _ (area : Option Area) (wanted : List Pair) (objects : List OplObject) where
  abbrev used : Option (Key → Bool) → Key → Bool
  used n = among (references (filter (on_side (is_kept_way wanted n)) objects))

  abbrev placed : Option (Key → Bool) → (Key → Bool) → Key → Bool
  placed n u = among (keys_of (filter (is_kept_place area wanted n u) objects))

  abbrev led : (Key → Bool) → Key → Bool
  led p = among (keys_of (filter (on_side (is_related p)) objects))

  abbrev result : Option (Key → Bool) → (Key → Bool) → (Key → Bool) → (Key → Bool) → List OplObject
  result n u p r = filter (is_kept area wanted n u p r) objects

  together : (n : Option (Key → Bool)) (u p r : Key → Bool) → n ≡ near area objects → u ≡ used n → p ≡ placed n u → r ≡ led p
      → result n u p r ≡ result (near area objects) (nodes_of_ways area wanted objects) (kept_places area wanted objects) (relations area wanted objects)
  together n u p r en eu ep er =
      let u-is : u ≡ nodes_of_ways area wanted objects = eu ∙ ap used en in
      let p-is : p ≡ kept_places area wanted objects = ep ∙ (λ i. placed (en i) (u-is i)) in
      let r-is : r ≡ relations area wanted objects = er ∙ ap led p-is in
      λ i. result (en i) (u-is i) (p-is i) (r-is i)

  pub passes : (ways nodes left : List OplObject) (n : Option (Key → Bool)) (u p r : Key → Bool)
      → n ≡ near area objects
      → ways ≡ filter (on_side (way_left wanted n)) objects
      → u ≡ among (key_set (references (filter (on_side is_way) ways)))
      → nodes ≡ filter (is_left area wanted u) ways
      → p ≡ among (key_set (keys_of (filter (on_side is_place) nodes)))
      → r ≡ among (key_set (keys_of (filter (on_side (is_related p)) nodes)))
      → left ≡ filter (on_side (relation_left p r)) nodes
      → left ≡ filter (keeps objects area wanted) objects
  passes ways nodes left n u p r en ew eu enodes ep er el =
      let nodes-are : nodes ≡ filter (is_left area wanted u) (filter (on_side (way_left wanted n)) objects) = enodes ∙ ap (filter (is_left area wanted u)) ew in
      let u-is : u ≡ used n = eu ∙ set_of (references (filter (on_side is_way) ways)) ∙ ap (λ l. among (references l)) (ap (filter (on_side is_way)) ew ∙ ways_left area wanted n objects) in
      let p-is : p ≡ placed n u = ep ∙ set_of (keys_of (filter (on_side is_place) nodes)) ∙ ap (λ l. among (keys_of l)) (ap (filter (on_side is_place)) nodes-are ∙ places_left area wanted n objects u) in
      let r-is : r ≡ led p = er ∙ set_of (keys_of (filter (on_side (is_related p)) nodes)) ∙ ap (λ l. among (keys_of l)) (ap (filter (on_side (is_related p))) nodes-are ∙ related_left area wanted n objects u p) in
      el ∙ ap (filter (on_side (relation_left p r))) nodes-are ∙ all_left area wanted n objects u p r
      ∙ together n u p r en u-is p-is r-is

-- What is kept of what may be told may be told.

tellable_if : (b : Bool) (o : OplObject) (os : List OplObject) → IsTellable o → AreTellable os → AreTellable (cond b (o ∷ os) os)
tellable_if true o os here may = (here, may)
tellable_if false o os here may = may

tellable_of : (test : OplObject → Bool) (os : List OplObject) → AreTellable os → AreTellable (filter test os)
tellable_of test [] may = tt
tellable_of test (o ∷ os) may = tellable_if (test o) o (filter test os) may.0 (tellable_of test os may.1)

kept_if : (b : Bool) (test : OplObject → Bool) (os : List OplObject) → AreTellable os → AreTellable (cond b os (filter test os))
kept_if true test os may = may
kept_if false test os may = tellable_of test os may

pub kept_tellable : (objects : List OplObject) (area : Option Area) (wanted : List Pair) → AreTellable objects → AreTellable (kept objects area wanted)
kept_tellable objects area wanted may =
    kept_if (is_whole area wanted) (keeps objects area wanted) objects may
