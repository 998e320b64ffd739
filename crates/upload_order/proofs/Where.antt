-- The keys of a part, by a test of their entries.
use Rattle.std.proofs.Common.{◌≡◌, Bool, true, false, is_some, List, [], ◌∷◌, map, Option, Some, refl, sym, ◌∙◌, ap}
use Rattle.std.specs.Prelude.{T}
use Rattle.std.specs.List.{filter}
use Rattle.std.specs.Option.{option_map_or}
use Rattle.std.specs.FinMap as fin
use Rattle.osm_base.specs.RisingKeys.{rises}
use Rattle.osm_base.proofs.ByRank.{rises_keys}
use Rattle.osm_base.specs.declared.key.Key.{Key}
use Rattle.osm_base.specs.declared.key.Kind.{Kind}
use Rattle.osm_base.specs.declared.key.Kind.TheVariants as kind
use Rattle.osm_base.proofs.Tests.{some_passed}
use Rattle.osm_table.specs.declared.entry.Entry.{Entry}
use Rattle.osm_table.specs.Table.{TableValue, entry_of, keys_by_rank}
use Rattle.upload_order.specs.declared.part.Part.{Part}
use Rattle.upload_order.specs.declared.part.Part.TheVariants.{RisingNodes, RisingWays, RisingRelations, FallingRelations, FallingWays, FallingNodes}
use Rattle.upload_order.specs.Part.{is_part}
use Rattle.upload_order.specs.Fall.{Item}
use Rattle.upload_order.specs.Pieces.{whole}
use Rattle.upload_order.proofs.Keys.{head_once, rises_tail}
use Rattle.upload_order.proofs.Entries.{IsIn, in_filter, filter_in, any_in, in_any}
use Rattle.upload_order.proofs.Lists.{AreDistinct, distinct_filter}
use Rattle.upload_order.specs.Kinds.{is_rising, is_falling}

abbrev pub keys_where : TableValue → (Key → Entry → Bool) → List Key
keys_where t test = filter (λ k. option_map_or (test k) (entry_of t k) false) (keys_by_rank t)

abbrev pub rising_part : Kind → Part
rising_part kind.Node = RisingNodes
rising_part kind.Way = RisingWays
rising_part kind.Relation = RisingRelations

abbrev pub falling_part : Kind → Part
falling_part kind.Node = FallingNodes
falling_part kind.Way = FallingWays
falling_part kind.Relation = FallingRelations

abbrev pub rising_of : Kind → Key → Entry → Bool
rising_of kd k e = is_part (rising_part kd) k.kind e

abbrev pub falling_of : Kind → Key → Entry → Bool
falling_of kd k e = is_part (falling_part kd) k.kind e

abbrev pub falling_items : TableValue → List Item
falling_items t = map whole (keys_where t (falling_of kind.Relation))

pub rising_both : (kd a : Kind) (e : Entry) → is_part (rising_part kd) a e ≡ true → (a ≡ kd) × (is_rising e ≡ true)
rising_both kind.Node kind.Node e h = (refl, h)
rising_both kind.Node kind.Way e h = cc
rising_both kind.Node kind.Relation e h = cc
rising_both kind.Way kind.Node e h = cc
rising_both kind.Way kind.Way e h = (refl, h)
rising_both kind.Way kind.Relation e h = cc
rising_both kind.Relation kind.Node e h = cc
rising_both kind.Relation kind.Way e h = cc
rising_both kind.Relation kind.Relation e h = (refl, h)

pub falling_both : (kd a : Kind) (e : Entry) → is_part (falling_part kd) a e ≡ true → (a ≡ kd) × (is_falling e ≡ true)
falling_both kind.Node kind.Node e h = (refl, h)
falling_both kind.Node kind.Way e h = cc
falling_both kind.Node kind.Relation e h = cc
falling_both kind.Way kind.Node e h = cc
falling_both kind.Way kind.Way e h = (refl, h)
falling_both kind.Way kind.Relation e h = cc
falling_both kind.Relation kind.Node e h = cc
falling_both kind.Relation kind.Way e h = cc
falling_both kind.Relation kind.Relation e h = (refl, h)

pub rising_self : (kd : Kind) (e : Entry) → is_rising e ≡ true → is_part (rising_part kd) kd e ≡ true
rising_self kind.Node e h = h
rising_self kind.Way e h = h
rising_self kind.Relation e h = h

pub falling_self : (kd : Kind) (e : Entry) → is_falling e ≡ true → is_part (falling_part kd) kd e ≡ true
falling_self kind.Node e h = h
falling_self kind.Way e h = h
falling_self kind.Relation e h = h

pub distinct_rising : (ks : List Key) → T (rises ks) → AreDistinct ks
distinct_rising [] r = tt
distinct_rising (k ∷ ks) r = (λ i. let e : false ≡ true = sym (head_once k ks r) ∙ in_any ks k i in cc, distinct_rising ks (rises_tail k ks r))

pub distinct_where : (t : TableValue) (test : Key → Entry → Bool) → AreDistinct (keys_where t test)
distinct_where t test = distinct_filter (λ k. option_map_or (test k) (entry_of t k) false) (keys_by_rank t) (distinct_rising (keys_by_rank t) (rises_keys t.entries))

-- the keys where the entry passes a test
pub in_where : (t : TableValue) (test : Key → Entry → Bool) (k : Key) → IsIn k (keys_where t test) → (e : Entry) × (entry_of t k ≡ Some e) × (test k e ≡ true)
in_where t test k i = some_passed (test k) (entry_of t k) (in_filter (λ k. option_map_or (test k) (entry_of t k) false) (keys_by_rank t) k i).1

pub where_in : (t : TableValue) (test : Key → Entry → Bool) (k : Key) (e : Entry) → entry_of t k ≡ Some e → test k e ≡ true → IsIn k (keys_where t test)
where_in t test k e h p =
    filter_in (λ k. option_map_or (test k) (entry_of t k) false) (keys_by_rank t) k
    (any_in (keys_by_rank t) k (sym (fin.contains_key-keys t.entries k) ∙ ap is_some h))
    (ap (λ (o : Option Entry). option_map_or (test k) o false) h ∙ p)
