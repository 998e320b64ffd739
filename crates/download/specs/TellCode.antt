-- What is kept of the objects until all are told, and what is mentioned of it.
use Rattle.std.specs.Prelude.{◌≡◌, Bool, true, List, map}
use Rattle.std.specs.List.{AllByRecursion, flat_map, fold}
use Rattle.osm_base.specs.Content.{node}
use Rattle.osm_base.specs.declared.key.Key.{Key}
use Rattle.osm_table.specs.Table.{IsPositive}
use Rattle.osm_table.specs.Told.{ToldValue, told_at, with_mention, is_told_there}
use Rattle.download.specs.declared.telling.ReferenceList.{ReferenceList}
use Rattle.download.specs.declared.telling.ReferenceList.TheVariants.{Way, Relation}

-- the keys of a way's nodes, or of a relation's members
abbrev pub keys_of_list : ReferenceList → List Key
keys_of_list (Way refs) = map node refs
keys_of_list (Relation members) = map (λ m. m.key) members

-- the keys of lists, one list behind the other
abbrev pub keys_in : List ReferenceList → List Key
keys_in lists = flat_map keys_of_list lists

abbrev pub ArePositive : List Key → Type 0
ArePositive keys = AllByRecursion (λ key. IsPositive key.id) keys

abbrev pub AreThereIn : ToldValue → List Key → Type 0
AreThereIn m keys = AllByRecursion (λ r. is_told_there (told_at m r) ≡ true) keys

-- The keys were mentioned, one after the other, and are told of as there if the answer says so.
pub record AreMentioned (old new : ToldValue) (keys : List Key) (there : Bool) : Type 0 where
  pub told : new ≡ fold with_mention old keys
  pub all_there : there ≡ true → AreThereIn new keys
