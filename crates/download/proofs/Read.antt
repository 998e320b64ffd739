-- What was read as a download may be told.
use Rattle.std.proofs.Common.{◌≡◌, ℕ, ℤ, pos, negsuc, ◌&&◌, Bool, true, false, nat_le, List, [], ◌∷◌, map, Option, Some, None, Ok, refl, arith}
use Rattle.std.specs.List.{All, AllByRecursion, list_all}
use Rattle.std.proofs.lemmas.Bool.Decides.{nat_tests}
use Rattle.std.proofs.lemmas.List.Elements.{All-head, All-tail}
use Rattle.osm_base.specs.Number.{IsId}
use Rattle.osm_base.specs.Content.{refs_of, node}
use Rattle.osm_base.specs.declared.key.Key.{Key}
use Rattle.osm_base.specs.declared.meta.Meta.{Meta}
use Rattle.osm_base.specs.declared.members.Member.{Member}
use Rattle.osm_base.specs.declared.content.Content.{Content}
use Rattle.osm_base.specs.declared.content.Content.TheVariants as content
use Rattle.osm_table.specs.Table.{IsPositive}
use Rattle.osm_table.specs.Told.{IsVersion, IsServerContent, IsTold}
use Rattle.opl_line.specs.declared.mode.Mode.TheVariants.{Download}
use Rattle.opl_line.specs.declared.object.LineKind.TheVariants.{Object}
use Rattle.opl_line.specs.declared.object.OplObject.{OplObject}
use Rattle.opl_line.specs.Field.{is_allowed}
use Rattle.opl_line.specs.Writable.{HasVersion, IsMember, IsSide, MayStand, IsReadObject}
use Rattle.opl_file.specs.Reading.{objects_of}
use Rattle.opl_file.proofs.ReadObjects.{each_read}
use Rattle.download.specs.Tell.{told_side, IsTellable, AreTellable}

and_first : (a b : Bool) → (a && b) ≡ true → a ≡ true
and_first true b e = refl
and_first false b e = e

and_second : (a b : Bool) → (a && b) ≡ true → b ≡ true
and_second true b e = e
and_second false b e = absurd cc

-- an id that may stand in a download is positive
positive : (id : ℤ) → IsId id → is_allowed Download id ≡ true → IsPositive id
positive (pos n) is may = grind (arith, nat_tests, and_first (nat_le 1 n) (nat_le n 1000000000000000000) is, and_second (nat_le 1 n) (nat_le n 1000000000000000000) is)
positive (negsuc n) is may = absurd cc

version_fits : (id : ℤ) (version : ℕ) → is_allowed Download id ≡ true → HasVersion id version → IsVersion version
version_fits (pos n) version may h = h
version_fits (negsuc n) version may h = absurd cc

-- those with an id that may stand there are positive
nodes_positive : (ids : List ℤ) → All IsId ids → list_all (λ (r : Key). is_allowed Download r.id) (map node ids) ≡ true → AllByRecursion (λ (r : Key). IsPositive r.id) (map node ids)
nodes_positive [] is may = tt
nodes_positive (id ∷ ids) is may = (positive id (All-head IsId id ids is) (and_first _ _ may), nodes_positive ids (All-tail IsId id ids is) (and_second (is_allowed Download id) _ may))

members_positive : (ms : List Member) → All IsMember ms → list_all (λ (r : Key). is_allowed Download r.id) (map (λ (m : Member). m.key) ms) ≡ true
    → AllByRecursion (λ (r : Key). IsPositive r.id) (map (λ (m : Member). m.key) ms)
members_positive [] is may = tt
members_positive (m ∷ ms) is may = (positive m.key.id (All-head IsMember m ms is).0 (and_first _ _ may), members_positive ms (All-tail IsMember m ms is) (and_second (is_allowed Download m.key.id) _ may))

content_fits : (key : Key) (c : Content) → IsSide key (Some c) → list_all (λ (r : Key). is_allowed Download r.id) (refs_of c) ≡ true → IsServerContent key c
content_fits key (content.Node tags at) is may = (is.0, tt)
content_fits key (content.Way tags refs) is may = (is.0, nodes_positive refs is.1.1 may)
content_fits key (content.Relation tags members) is may = (is.0, members_positive members is.1.1 may)

side_fits : (key : Key) (version : ℕ) (side : Option Content) (meta : Meta) → IsId key.id → HasVersion key.id version → IsSide key side → MayStand Download key side → IsTold key (told_side version side meta)
side_fits key version None meta id has is may =
    let here = and_first (is_allowed Download key.id) true may in
    (positive key.id id here, version_fits key.id version here has)
side_fits key version (Some c) meta id has is may =
    let here = and_first (is_allowed Download key.id) (list_all (λ (r : Key). is_allowed Download r.id) (refs_of c)) may in
    (positive key.id id here, version_fits key.id version here has, content_fits key c is (and_second (is_allowed Download key.id) (list_all (λ (r : Key). is_allowed Download r.id) (refs_of c)) may))

object_fits : (o : OplObject) → IsReadObject Download (Object o) → IsTellable o
object_fits o h = side_fits o.key o.version o.side o.meta h.0.id h.0.version_fits h.0.content h.1

-- The objects of a file that was read as a download may be told.
pub read_tellable : (limit : ℕ) (bytes : List ℕ) (objects : List OplObject) → objects_of Download limit bytes ≡ Ok objects → AreTellable objects
read_tellable limit bytes objects e = each_read Download IsTellable object_fits limit bytes objects e
