-- What importing the new objects of a file does.
--
-- A file has ids of its own for objects that no server knows yet, which are negative; by them its objects refer to each
-- other. In the table each object gets the next number, in the order of the file.
--
-- For example the objects n-7 and w-2 Nn-7,n1 become n-4 and w-5 Nn-4,n1 in a table with n1 whose next number is 4, and
-- the reply has n-4 and w-5. Alone w-2 is refused as Absent n-7, also where the table has an n-7: no id of a file
-- means an object of the table that no server knows.
use Rattle.std.specs.Prelude.{◌≡◌, ℕ, ℤ, pos, negsuc, ◌+◌, Bool, true, false, not, if◌then◌else◌, List, [], ◌∷◌, map, Option, Some, None, Result}
use Rattle.std.specs.List.{flat_map, AllByRecursion}
use Rattle.std.specs.Option.{unwrap_or}
use Rattle.osm_base.specs.Rank.{is_key}
use Rattle.osm_base.specs.Number.{IsId}
use Rattle.osm_base.specs.Content.{refs_of, kind_of_content}
use Rattle.osm_base.specs.declared.key.Key.{Key}
use Rattle.osm_base.specs.declared.content.Content.{Content}
use Rattle.osm_table.specs.Table.{TableValue, entry_of}
use Rattle.renamed_content.specs.Renamed.{renamed}
use Rattle.tool_api.specs.declared.new_objects.NewObject.{NewObject}
use Rattle.tool_api.specs.declared.refusal.Refusal.{Refusal}
use Rattle.tool_api.specs.declared.refusal.Refusal.TheVariants.{Absent}
use Rattle.tool_api.specs.Checks.{◌>>◌, first_of, when, is_named, ref_entry_test}
use Rattle.tool_api.specs.Changes.{Outcome, new_key, all_added}
use Rattle.tool_api.specs.Closing.{closing}

abbrev pub is_negative : ℤ → Bool
is_negative (pos n) = false
is_negative (negsuc n) = true

-- their keys in the file
abbrev pub file_keys : List NewObject → List Key
file_keys objects = map (λ o. o.key) objects

-- all that they refer to, object by object
abbrev pub references : List NewObject → List Key
references objects = flat_map (λ o. refs_of o.content) objects

-- One reference: a negative id is that of one of the file's own objects, else Absent; a positive one has the reference
-- test.
abbrev pub file_reference_test : TableValue → (Key → Bool) → Key → Option Refusal
file_reference_test t own r = if is_negative r.id then when (not (own r)) (Absent r) else ref_entry_test r (entry_of t r)

-- the keys that the objects get, from a number on
abbrev pub new_keys : ℕ → List NewObject → List Key
new_keys next [] = []
new_keys next (o ∷ os) = new_key (kind_of_content o.content) next ∷ new_keys (next + 1) os

-- the new key of the object that has a key in the file
abbrev pub new_key_of : ℕ → List NewObject → Key → Option Key
new_key_of next [] key = None
new_key_of next (o ∷ os) key = if is_key key o.key then Some (new_key (kind_of_content o.content) next) else new_key_of (next + 1) os key

-- what a key of the file is called in the table; one that isn't the file's own stays
abbrev pub key_named : ℕ → List NewObject → Key → Key
key_named next objects key = unwrap_or (new_key_of next objects key) key

-- their contents with the new keys in place of the file's
abbrev pub new_contents : ℕ → List NewObject → List Content
new_contents next objects = map (λ o. renamed (key_named next objects) o.content) objects

-- Reference tests object by object, closing tests. All look at the table as it was, and at the whole list. The reply
-- has the new keys in order.
abbrev pub import : TableValue → ℕ → List NewObject → Result Outcome Refusal
import t limit objects = do
  first_of (file_reference_test t (is_named (file_keys objects))) (references objects)
  closing t limit [] (record { keys = new_keys t.next objects; table = all_added t (new_contents t.next objects) })

-- A new object of a file: its id is negative, its content of its key's kind, and what it refers to are ids.
pub record IsNewObject (o : NewObject) : Type 0 where
  pub id : IsId o.key.id × (is_negative o.key.id ≡ true)
  pub kind : kind_of_content o.content ≡ o.key.kind
  pub refs : AllByRecursion (λ (r : Key). IsId r.id) (refs_of o.content)

-- no key repeats one behind it
abbrev pub AreDistinct : List Key → Type 0
AreDistinct [] = Unit {0}
AreDistinct (k ∷ ks) = (is_named ks k ≡ false) × AreDistinct ks

-- New objects of one file, each key once.
pub record AreNewObjects (objects : List NewObject) : Type 0 where
  pub distinct : AreDistinct (file_keys objects)
  pub each : AllByRecursion IsNewObject objects
