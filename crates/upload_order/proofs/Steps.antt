-- The parts of an upload are the objects of a kind that rise or fall.
use Rattle.std.proofs.Common.{◌≡◌, false, List, ◌++◌, Option, Some, None, refl, sym, ◌∙◌}
use Rattle.std.specs.Prelude.{◌↔◌, ◌==◌, ◌&&◌}
use Rattle.std.specs.List.{filter}
use Rattle.std.specs.Option.{option_map_or}
use Rattle.osm_base.specs.Rank.{kind_place}
use Rattle.osm_base.specs.declared.key.Key.{Key}
use Rattle.osm_base.specs.declared.key.Kind.{Kind}
use Rattle.osm_base.specs.declared.key.Kind.TheVariants.{Node, Way, Relation}
use Rattle.osm_table.specs.declared.entry.Entry.{Entry}
use Rattle.osm_table.specs.Table.{TableValue, entry_of, keys_by_rank}
use Rattle.upload_order.specs.declared.down.Down.{Down}
use Rattle.upload_order.specs.declared.part.Part.TheVariants.{RisingNodes, RisingWays, RisingRelations, Updates, FallingRelations, FallingWays, FallingNodes}
use Rattle.upload_order.specs.Fall.{falls}
use Rattle.upload_order.specs.Kinds.{at_key, held_refers, is_falling, is_rising, is_update, mine_refers}
use Rattle.upload_order.specs.Order.{Peeled, peeled}
use Rattle.upload_order.specs.Part.{is_part, keys_in}
use Rattle.upload_order.specs.Plan.{downs, made, plain_removes, ups}
use Rattle.upload_order.specs.Steps.{those_of}

in_rising_nodes : (kind : Kind) (o : Option Entry) → option_map_or (is_part RisingNodes kind) o false ≡ (kind_place kind == kind_place Node && option_map_or is_rising o false)
in_rising_nodes Node None = refl
in_rising_nodes Node (Some e) = refl
in_rising_nodes Way None = refl
in_rising_nodes Way (Some e) = refl
in_rising_nodes Relation None = refl
in_rising_nodes Relation (Some e) = refl

rising_nodes : (t : TableValue) → keys_in t RisingNodes ≡ those_of t Node is_rising
rising_nodes t = λ i. filter (λ k. in_rising_nodes k.kind (entry_of t k) i) (keys_by_rank t)

in_rising_ways : (kind : Kind) (o : Option Entry) → option_map_or (is_part RisingWays kind) o false ≡ (kind_place kind == kind_place Way && option_map_or is_rising o false)
in_rising_ways Node None = refl
in_rising_ways Node (Some e) = refl
in_rising_ways Way None = refl
in_rising_ways Way (Some e) = refl
in_rising_ways Relation None = refl
in_rising_ways Relation (Some e) = refl

rising_ways : (t : TableValue) → keys_in t RisingWays ≡ those_of t Way is_rising
rising_ways t = λ i. filter (λ k. in_rising_ways k.kind (entry_of t k) i) (keys_by_rank t)

in_rising_relations : (kind : Kind) (o : Option Entry) → option_map_or (is_part RisingRelations kind) o false ≡ (kind_place kind == kind_place Relation && option_map_or is_rising o false)
in_rising_relations Node None = refl
in_rising_relations Node (Some e) = refl
in_rising_relations Way None = refl
in_rising_relations Way (Some e) = refl
in_rising_relations Relation None = refl
in_rising_relations Relation (Some e) = refl

rising_relations : (t : TableValue) → keys_in t RisingRelations ≡ those_of t Relation is_rising
rising_relations t = λ i. filter (λ k. in_rising_relations k.kind (entry_of t k) i) (keys_by_rank t)

in_falling_nodes : (kind : Kind) (o : Option Entry) → option_map_or (is_part FallingNodes kind) o false ≡ (kind_place kind == kind_place Node && option_map_or is_falling o false)
in_falling_nodes Node None = refl
in_falling_nodes Node (Some e) = refl
in_falling_nodes Way None = refl
in_falling_nodes Way (Some e) = refl
in_falling_nodes Relation None = refl
in_falling_nodes Relation (Some e) = refl

falling_nodes : (t : TableValue) → keys_in t FallingNodes ≡ those_of t Node is_falling
falling_nodes t = λ i. filter (λ k. in_falling_nodes k.kind (entry_of t k) i) (keys_by_rank t)

in_falling_ways : (kind : Kind) (o : Option Entry) → option_map_or (is_part FallingWays kind) o false ≡ (kind_place kind == kind_place Way && option_map_or is_falling o false)
in_falling_ways Node None = refl
in_falling_ways Node (Some e) = refl
in_falling_ways Way None = refl
in_falling_ways Way (Some e) = refl
in_falling_ways Relation None = refl
in_falling_ways Relation (Some e) = refl

falling_ways : (t : TableValue) → keys_in t FallingWays ≡ those_of t Way is_falling
falling_ways t = λ i. filter (λ k. in_falling_ways k.kind (entry_of t k) i) (keys_by_rank t)

in_falling_relations : (kind : Kind) (o : Option Entry) → option_map_or (is_part FallingRelations kind) o false ≡ (kind_place kind == kind_place Relation && option_map_or is_falling o false)
in_falling_relations Node None = refl
in_falling_relations Node (Some e) = refl
in_falling_relations Way None = refl
in_falling_relations Way (Some e) = refl
in_falling_relations Relation None = refl
in_falling_relations Relation (Some e) = refl

falling_relations : (t : TableValue) → keys_in t FallingRelations ≡ those_of t Relation is_falling
falling_relations t = λ i. filter (λ k. in_falling_relations k.kind (entry_of t k) i) (keys_by_rank t)

pub made_told : (t : TableValue) (answer : Peeled) → (made t ≡ answer) ↔ (peeled (mine_refers t) (those_of t Relation is_rising) ≡ answer)
made_told t answer =
    let is : made t ≡ peeled (mine_refers t) (those_of t Relation is_rising) = λ i. peeled (mine_refers t) (rising_relations t i) in
    (λ e. sym is ∙ e, λ e. is ∙ e)

pub ups_told : (t : TableValue) (answer : List Key) → (ups t ≡ answer) ↔ (those_of t Node is_rising ++ (those_of t Way is_rising ++ ((made t).order ++ filter (at_key t is_update) (keys_by_rank t))) ≡ answer)
ups_told t answer =
    let is : ups t ≡ those_of t Node is_rising ++ (those_of t Way is_rising ++ ((made t).order ++ filter (at_key t is_update) (keys_by_rank t))) =
    λ i. rising_nodes t i ++ (rising_ways t i ++ ((made t).order ++ keys_in t Updates)) in
    (λ e. sym is ∙ e, λ e. is ∙ e)

pub downs_told : (t : TableValue) (answer : List Down) → (downs t ≡ answer) ↔ (falls (held_refers t) (those_of t Relation is_falling) ++ (plain_removes (those_of t Way is_falling) ++ plain_removes (those_of t Node is_falling)) ≡ answer)
downs_told t answer =
    let is : downs t ≡ falls (held_refers t) (those_of t Relation is_falling) ++ (plain_removes (those_of t Way is_falling) ++ plain_removes (those_of t Node is_falling)) =
    λ i. falls (held_refers t) (falling_relations t i) ++ (plain_removes (falling_ways t i) ++ plain_removes (falling_nodes t i)) in
    (λ e. sym is ∙ e, λ e. is ∙ e)
