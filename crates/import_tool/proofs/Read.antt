-- The new objects of a file that was read to be imported can be imported.
use Rattle.std.proofs.Common.{◌≡◌, ℕ, ℤ, Bool, true, false, cond, List, [], ◌∷◌, map, Option, Some, None, Ok, refl, ap, ◌∙◌}
use Rattle.std.specs.List.{All, AllByRecursion, cons_option}
use Rattle.std.specs.Option.{option_map}
use Rattle.std.proofs.lemmas.List.Elements.{All-head, All-tail}
use Rattle.std.proofs.lemmas.Bool.{or_parts, or_from}
use Rattle.osm_base.specs.Rank.{is_key}
use Rattle.osm_base.specs.Number.{IsId}
use Rattle.osm_base.specs.Content.{refs_of, node}
use Rattle.osm_base.specs.declared.key.Key.{Key}
use Rattle.osm_base.specs.declared.members.Member.{Member}
use Rattle.osm_base.specs.declared.content.Content.{Content}
use Rattle.osm_base.specs.declared.content.Content.TheVariants as content
use Rattle.opl_line.specs.declared.mode.Mode.TheVariants.{Import}
use Rattle.opl_line.specs.declared.object.LineKind.TheVariants.{Object}
use Rattle.opl_line.specs.declared.object.OplObject.{OplObject}
use Rattle.opl_line.specs.Writable.{IsMember, IsContent, IsSide, IsReadObject}
use Rattle.opl_file.specs.Objects.{has_key}
use Rattle.opl_file.specs.Reading.{objects_of}
use Rattle.opl_file.proofs.ReadObjects.{are_read, AreRead, Once}
use Rattle.tool_api.specs.declared.new_objects.NewObject.{NewObject}
use Rattle.tool_api.specs.Checks.{is_named}
use Rattle.tool_api.specs.Import.{is_negative, file_keys, IsNewObject, AreDistinct, AreNewObjects}
use Rattle.import_tool.specs.Counted.{new_object, new_objects_of}

abbrev pub IsRead : OplObject → Type 0
IsRead o = IsReadObject Import (Object o)

-- Of one object.

ids_of_nodes : (ids : List ℤ) → All IsId ids → AllByRecursion (λ (r : Key). IsId r.id) (map node ids)
ids_of_nodes [] h = tt
ids_of_nodes (id ∷ ids) h = (All-head IsId id ids h, ids_of_nodes ids (All-tail IsId id ids h))

ids_of_members : (ms : List Member) → All IsMember ms → AllByRecursion (λ (r : Key). IsId r.id) (map (λ m. m.key) ms)
ids_of_members [] h = tt
ids_of_members (m ∷ ms) h = ((All-head IsMember m ms h).0, ids_of_members ms (All-tail IsMember m ms h))

ids_of_content : (c : Content) → IsContent c → AllByRecursion (λ (r : Key). IsId r.id) (refs_of c)
ids_of_content (content.Node tags at) h = tt
ids_of_content (content.Way tags refs) h = ids_of_nodes refs h.1
ids_of_content (content.Relation tags members) h = ids_of_members members h.1

abbrev IfNew : Option NewObject → (NewObject → Type 0) → Type 0
IfNew None P = Unit {0}
IfNew (Some o) P = P o

new_side : (key : Key) (side : Option Content) (negative : Bool) → IsId key.id → IsSide key side → is_negative key.id ≡ negative
    → IfNew (cond negative (option_map (λ c. let n : NewObject = record { key = key; content = c } in n) side) None) IsNewObject
new_side key side false id fits is = tt
new_side key None true id fits is = tt
new_side key (Some c) true id fits is = record { id = (id, is); kind = fits.0; refs = ids_of_content c fits.1 }

new_is : (o : OplObject) → IsRead o → IfNew (new_object o) IsNewObject
new_is o h = new_side o.key o.side (is_negative o.key.id) h.0.id h.0.content refl

-- Of all.

cons_new : (o : Option NewObject) (rest : List NewObject) → IfNew o IsNewObject → AllByRecursion IsNewObject rest → AllByRecursion IsNewObject (cons_option o rest)
cons_new None rest one all = all
cons_new (Some n) rest one all = (one, all)

each_new : (os : List OplObject) → AllByRecursion IsRead os → AllByRecursion IsNewObject (new_objects_of os)
each_new [] all = tt
each_new (o ∷ os) all = cons_new (new_object o) (new_objects_of os) (new_is o all.0) (each_new os all.1)

-- a key that no object of the file has is no new one's
new_key_is : (o : OplObject) (negative : Bool) (side : Option Content) → IfNew (cond negative (option_map (λ c. let n : NewObject = record { key = o.key; content = c } in n) side) None) (λ n. n.key ≡ o.key)
new_key_is o false side = tt
new_key_is o true None = tt
new_key_is o true (Some c) = refl

cons_apart : (o : Option NewObject) (rest : List NewObject) (k j : Key) → IfNew o (λ n. n.key ≡ j) → is_key k j ≡ false → is_named (file_keys rest) k ≡ false → is_named (file_keys (cons_option o rest)) k ≡ false
cons_apart None rest k j is apart out = out
cons_apart (Some n) rest k j is apart out = or_from (is_key k n.key) (is_named (file_keys rest) k) (ap (is_key k) is ∙ apart) out

new_apart : (os : List OplObject) (k : Key) → has_key os k ≡ false → is_named (file_keys (new_objects_of os)) k ≡ false
new_apart [] k out = refl
new_apart (o ∷ os) k out =
    let p = or_parts (is_key k o.key) (has_key os k) out in
    cons_apart (new_object o) (new_objects_of os) k o.key (new_key_is o (is_negative o.key.id) o.side) p.0 (new_apart os k p.1)

cons_distinct : (o : Option NewObject) (rest : List NewObject) (j : Key) → IfNew o (λ n. n.key ≡ j) → is_named (file_keys rest) j ≡ false → AreDistinct (file_keys rest) → AreDistinct (file_keys (cons_option o rest))
cons_distinct None rest j is out all = all
cons_distinct (Some n) rest j is out all = (ap (is_named (file_keys rest)) is ∙ out, all)

new_distinct : (os : List OplObject) → Once os → AreDistinct (file_keys (new_objects_of os))
new_distinct [] once = tt
new_distinct (o ∷ os) once = cons_distinct (new_object o) (new_objects_of os) o.key (new_key_is o (is_negative o.key.id) o.side) (new_apart os o.key once.0) (new_distinct os once.1)

can_import : (os : List OplObject) → AreRead Import os → AreNewObjects (new_objects_of os)
can_import os are = record { distinct = new_distinct os are.once; each = each_new os are.each }

-- The new objects of a file that was read to be imported.
pub read_new : (limit : ℕ) (bytes : List ℕ) (objects : List OplObject) → objects_of Import limit bytes ≡ Ok objects → AreNewObjects (new_objects_of objects)
read_new limit bytes objects e = can_import objects (are_read Import limit bytes objects e)
