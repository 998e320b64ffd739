-- The written form of an object spells it.
use Rattle.std.proofs.Common.{◌≡◌, ℕ, ℤ, pos, negsuc, ◌<◌, ◌≤◌, ◌^◌, Bool, true, false, not, List, [], ◌∷◌, ◌++◌, Option, Some, None, Ok, subst, refl, sym, ap, ◌∙◌, arith, leb, append_assoc}
use Rattle.std.specs.Prelude.{map, ◌==◌, nat_le, unsigned_abs, is_some}
use Rattle.std.specs.List.{All, list_all}
use Rattle.std.specs.Fmt.{decimal}
use Rattle.std.proofs.lemmas.Bool.{and_parts}
use Rattle.std.proofs.lemmas.Bool.Decides.{nat_tests}
use Rattle.std.proofs.lemmas.List.Folds.{list_all-map}
use Rattle.osm_base.specs.Tags.{Pair}
use Rattle.osm_base.specs.Number.{IsId, number_text, key_written}
use Rattle.osm_base.specs.Coord.{coord_text, size_text, whole_text, coord_written}
use Rattle.osm_base.specs.Content.{refs_of, node}
use Rattle.osm_base.specs.OnMap.{is_longitude, is_latitude}
use Rattle.osm_base.proofs.KeyLaw.{number_again, id_again, letter_again}
use Rattle.osm_base.proofs.CoordLaw.{coord_again}
use Rattle.osm_base.proofs.PlaceLaws.{place_is}
use Rattle.osm_base.specs.declared.key.Kind.{Kind}
use Rattle.osm_base.specs.declared.key.Kind.TheVariants.{Node, Way, Relation}
use Rattle.osm_base.specs.declared.key.Key.{Key}
use Rattle.osm_base.specs.declared.coord.Coord.{Coord}
use Rattle.osm_base.specs.declared.meta.Meta.{Meta}
use Rattle.osm_base.specs.declared.members.Member.{Member}
use Rattle.osm_base.specs.declared.content.Content.{Content}
use Rattle.osm_base.specs.declared.content.Content.TheVariants as content
use Rattle.opl_text.specs.Ends.{ends_nothing}
use Rattle.opl_text.specs.Text.{unescaped, escaped}
use Rattle.opl_text.specs.Time.{time_text, time_written}
use Rattle.opl_line.specs.declared.mode.Mode.{Mode}
use Rattle.opl_line.specs.declared.mode.Mode.TheVariants.{Download, Import}
use Rattle.opl_line.specs.declared.fault.LineFault.TheVariants as faults
use Rattle.opl_line.specs.declared.letter.Letter.TheVariants as letters
use Rattle.opl_line.specs.declared.object.OplObject.{OplObject}
use Rattle.opl_line.specs.Reads.{or_fault}
use Rattle.opl_line.specs.Cut.{split}
use Rattle.opl_line.specs.Field.{is, is_allowed, letter_of as field_of, number_to, visible_text, place_text, tags_text, refs_text, members_text}
use Rattle.opl_line.specs.Line.{is_blank, key_at, id_at, version_of, location_of, content_of, side_of, completed, freed}
use Rattle.opl_line.specs.Spelling.{AreFields, Spells}
use Rattle.opl_line.specs.Written.{spaced, tag_written, ref_written, member_written, sight, front_pieces, back_pieces, content_pieces, side_pieces, pieces_of, written, object_with, IsOneLine}
use Rattle.opl_line.specs.Writable.{HasVersion, AreTags, IsContent, IsSide, IsMeta, IsWritable, MayStand}
use Rattle.opl_line.proofs.Forward.{Pieces}
use Rattle.opl_line.proofs.Unbroken.{Unbroken, AllUnbroken, unbroken_append, unbroken_from, unbroken_fewer, all_unbroken_fewer, all_unbroken_append, unbroken_spaced, unbroken_listed, cut_spaced, freed_same, decimal_unbroken, signed_unbroken, key_unbroken, coord_unbroken}
use Rattle.opl_line.proofs.ListsAgain.{text_unbroken, tags_again, refs_again, members_again}
use Rattle.opl_text.proofs.WrittenLaw.{text_again}
use Rattle.opl_text.proofs.TimeLaw.{time_again, time_plain}

-- ---- the values

number_to_again : (high n : ℕ) → n ≤ high → high < 10 ^ 10 → number_to high (decimal n) ≡ Some n
unfolding number_to
number_to_again high n h most =
    let le : leb n high ≡ true = grind (arith, nat_tests) in
    rw (number_again 10 n (omega arith) (omega arith) (omega arith), le) refl

place_again : (limit : ℕ) (z : ℤ) (text : List ℕ) → coord_text text ≡ Some z → leb (unsigned_abs z) limit ≡ true → place_text limit text ≡ Some (Some z)
unfolding place_text coord_text size_text whole_text number_text
place_again limit z [] e h = absurd cc
place_again limit z (b ∷ text) e h = rw (e, h) refl

lon_again : (at : Coord) → place_text 1800000000 (coord_written at.lon) ≡ Some (Some at.lon)
lon_again at =
    let h = (and_parts (is_longitude at.lon) (is_latitude at.lat) at.on_map).0 in
    place_again 1800000000 at.lon (coord_written at.lon) (coord_again at.lon (grind (arith, nat_tests, h))) h

lat_again : (at : Coord) → place_text 900000000 (coord_written at.lat) ≡ Some (Some at.lat)
lat_again at =
    let h = (and_parts (is_longitude at.lon) (is_latitude at.lat) at.on_map).1 in
    place_again 900000000 at.lat (coord_written at.lat) (coord_again at.lat (grind (arith, nat_tests, h))) h

location_again : (at : Coord) → location_of (Some (Some at.lon)) (Some (Some at.lat)) ≡ Ok at
unfolding location_of
location_again at = ap (or_fault faults.NoLocation) (sym (place_is at.lon at.lat at (refl, refl)))

version_again : (id : ℤ) (version : ℕ) → HasVersion id version → (version ≤ 2000000000) × (version_of id (Some version) ≡ Ok version)
unfolding version_of
version_again (pos n) version h =
    let some : (version == 0) ≡ false = grind (arith, nat_tests, h.0) in
    (h.1, rw some refl)
version_again (negsuc n) version h = (omega (arith, h), ap Ok (sym h))

sight_again : (visible : Bool) → visible_text (sight visible ∷ []) ≡ Some visible
unfolding visible_text
sight_again true = refl
sight_again false = refl

-- the key, and the fields that every object has
record FrontAgain (mode : Mode) (key : Key) (version : ℕ) (meta : Meta) : Type 0 where
  key_is : key_at mode (key_written key) ≡ Ok key
  version_is : number_to 2000000000 (decimal version) ≡ Some version
  version_kept : version_of key.id (Some version) ≡ Ok version
  changeset_is : number_to 4294967295 (decimal meta.changeset) ≡ Some meta.changeset
  time_is : time_text (time_written meta.time) ≡ Some meta.time
  uid_is : number_to 4294967295 (decimal meta.uid) ≡ Some meta.uid
  user_is : unescaped (escaped meta.user) ≡ Some meta.user

key_at_again : (mode : Mode) (key : Key) → IsId key.id → is_allowed mode key.id ≡ true → key_at mode (key_written key) ≡ Ok key
unfolding key_at id_at
key_at_again mode key id may = rw (letter_again key.kind, id_again key.id id, may) refl

front_again : (mode : Mode) (key : Key) (version : ℕ) (meta : Meta) → IsId key.id → is_allowed mode key.id ≡ true → HasVersion key.id version → IsMeta meta → FrontAgain mode key version meta
front_again mode key version meta id may fits known =
    let v = version_again key.id version fits in
    record {
      key_is = key_at_again mode key id may;
      version_is = number_to_again 2000000000 version v.0 (omega arith);
      version_kept = v.1;
      changeset_is = number_to_again 4294967295 meta.changeset (omega (arith, known.changeset)) (omega arith);
      time_is = time_again meta.time known.time;
      uid_is = number_to_again 4294967295 meta.uid (omega (arith, known.uid)) (omega arith);
      user_is = text_again meta.user known.user.0 known.user.1;
    }

-- from the last of them to the first
abbrev common_pieces : ℕ → Bool → Meta → List (List ℕ)
common_pieces version visible meta = (117 ∷ escaped meta.user) ∷ (105 ∷ decimal meta.uid) ∷ (116 ∷ time_written meta.time) ∷ (99 ∷ decimal meta.changeset) ∷ (100 ∷ sight visible ∷ []) ∷ (118 ∷ decimal version) ∷ []

common_fields : (mode : Mode) (key : Key) (version : ℕ) (visible : Bool) (meta : Meta) → FrontAgain mode key version meta → AreFields mode key.kind (common_pieces version visible meta)
unfolding field_of
common_fields mode key version visible meta f = (
  (letters.User, refl, refl, (meta.user, f.user_is)),
  refl,
  (
    (letters.Uid, refl, refl, (meta.uid, f.uid_is)),
    refl,
    (
      (letters.Time, refl, refl, (meta.time, f.time_is)),
      refl,
      (
        (letters.Changeset, refl, refl, (meta.changeset, f.changeset_is)),
        refl,
        (
          (letters.Visible, refl, refl, (visible, sight_again visible)),
          refl,
          ((letters.Version, refl, refl, (version, f.version_is)), refl, tt),
        ),
      ),
    ),
  ),
)

-- ---- the objects

abbrev object : Kind → ℤ → ℕ → Option Content → Meta → OplObject
object kind id version side meta = record { key = record { kind = kind; id = id }; version = version; side = side; meta = meta }

-- the pieces that are written of an object spell it
abbrev Again : Mode → Kind → ℤ → ℕ → Option Content → Meta → Type 0
Again mode kind id version side meta =
    FrontAgain mode (record { kind = kind; id = id }) version meta →
    Pieces mode (key_written (record { kind = kind; id = id })) (pieces_of (record { kind = kind; id = id }) version side meta) (object kind id version side meta)

node_again : (mode : Mode) (id : ℤ) (version : ℕ) (tags : List Pair) (at : Coord) (meta : Meta) → AreTags tags → Again mode Node id version (Some (content.Node tags at)) meta
unfolding field_of completed side_of content_of visible_text
node_again mode id version tags at meta good f =
    let t = tags_again tags good in
    let x = lon_again at in
    let y = lat_again at in
    record {
      key = f.key_is;
      fields = (
        (letters.Y, refl, refl, (Some at.lat, y)),
        refl,
        (
          (letters.X, refl, refl, (Some at.lon, x)),
          refl,
          ((letters.Tags, refl, refl, (tags, t)), refl, common_fields mode (record { kind = Node; id = id }) version true meta f),
        ),
      );
      values = rw (f.version_is, f.changeset_is, f.uid_is, f.time_is, f.user_is, t, x, y, location_again at, f.version_kept) refl;
    }

way_again : (mode : Mode) (id : ℤ) (version : ℕ) (tags : List Pair) (refs : List ℤ) (meta : Meta) → AreTags tags → All IsId refs → list_all (is_allowed mode) refs ≡ true → Again mode Way id version (Some (content.Way tags refs)) meta
unfolding field_of completed side_of content_of visible_text
way_again mode id version tags refs meta good ids may f =
    let t = tags_again tags good in
    let r = refs_again refs ids in
    record {
      key = f.key_is;
      fields = (
        (letters.Refs, refl, refl, (refs, r, may)),
        refl,
        ((letters.Tags, refl, refl, (tags, t)), refl, common_fields mode (record { kind = Way; id = id }) version true meta f),
      );
      values = rw (f.version_is, f.changeset_is, f.uid_is, f.time_is, f.user_is, t, r, f.version_kept) refl;
    }

relation_again : (mode : Mode) (id : ℤ) (version : ℕ) (tags : List Pair) (members : List Member) (meta : Meta) → AreTags tags → IsContent (content.Relation tags members) → list_all (λ (m : Member). is_allowed mode m.key.id) members ≡ true → Again mode Relation id version (Some (content.Relation tags members)) meta
unfolding field_of completed side_of content_of visible_text
relation_again mode id version tags members meta good ids may f =
    let t = tags_again tags good in
    let m = members_again members ids.1 in
    record {
      key = f.key_is;
      fields = (
        (letters.Members, refl, refl, (members, m, may)),
        refl,
        ((letters.Tags, refl, refl, (tags, t)), refl, common_fields mode (record { kind = Relation; id = id }) version true meta f),
      );
      values = rw (f.version_is, f.changeset_is, f.uid_is, f.time_is, f.user_is, t, m, f.version_kept) refl;
    }

deleted_again : (mode : Mode) (kind : Kind) (id : ℤ) (version : ℕ) (meta : Meta) → list_all (is_allowed mode) [] ≡ true → Again mode kind id version None meta
unfolding field_of completed side_of visible_text tags_text refs_text members_text place_text
deleted_again mode Node id version meta none f =
    record {
      key = f.key_is;
      fields = (
        (letters.Y, refl, refl, (None, refl)),
        refl,
        (
          (letters.X, refl, refl, (None, refl)),
          refl,
          ((letters.Tags, refl, refl, ([], refl)), refl, common_fields mode (record { kind = Node; id = id }) version false meta f),
        ),
      );
      values = rw (f.version_is, f.changeset_is, f.uid_is, f.time_is, f.user_is, f.version_kept) refl;
    }
deleted_again mode Way id version meta none f =
    record {
      key = f.key_is;
      fields = (
        (letters.Refs, refl, refl, ([], refl, refl)),
        refl,
        ((letters.Tags, refl, refl, ([], refl)), refl, common_fields mode (record { kind = Way; id = id }) version false meta f),
      );
      values = rw (f.version_is, f.changeset_is, f.uid_is, f.time_is, f.user_is, f.version_kept) refl;
    }
deleted_again mode Relation id version meta none f =
    record {
      key = f.key_is;
      fields = (
        (letters.Members, refl, refl, ([], refl, refl)),
        refl,
        ((letters.Tags, refl, refl, ([], refl)), refl, common_fields mode (record { kind = Relation; id = id }) version false meta f),
      );
      values = rw (f.version_is, f.changeset_is, f.uid_is, f.time_is, f.user_is, f.version_kept) refl;
    }

-- ---- the mode

all_import : (ids : List ℤ) → list_all (is_allowed Import) ids ≡ true
all_import [] = refl
all_import (id ∷ ids) = all_import ids

members_import : (members : List Member) → list_all (λ (m : Member). is_allowed Import m.key.id) members ≡ true
members_import [] = refl
members_import (m ∷ members) = members_import members

key_may : (mode : Mode) (key : Key) (side : Option Content) → MayStand mode key side → is_allowed mode key.id ≡ true
key_may Import key side h = refl
key_may Download key None h = (and_parts (is_allowed Download key.id) true h).0
key_may Download key (Some c) h = (and_parts (is_allowed Download key.id) (list_all (λ (k : Key). is_allowed Download k.id) (refs_of c)) h).0

refs_may : (mode : Mode) (key : Key) (tags : List Pair) (refs : List ℤ) → MayStand mode key (Some (content.Way tags refs)) → list_all (is_allowed mode) refs ≡ true
refs_may Import key tags refs h = all_import refs
refs_may Download key tags refs h =
    sym (list_all-map (λ (k : Key). is_allowed Download k.id) node refs) ∙ (and_parts (is_allowed Download key.id) (list_all (λ (k : Key). is_allowed Download k.id) (map node refs)) h).1

members_may : (mode : Mode) (key : Key) (tags : List Pair) (members : List Member) → MayStand mode key (Some (content.Relation tags members)) → list_all (λ (m : Member). is_allowed mode m.key.id) members ≡ true
members_may Import key tags members h = members_import members
members_may Download key tags members h =
    sym (list_all-map (λ (k : Key). is_allowed Download k.id) (λ (m : Member). m.key) members) ∙ (and_parts (is_allowed Download key.id) (list_all (λ (k : Key). is_allowed Download k.id) (map (λ (m : Member). m.key) members)) h).1

object_again : (mode : Mode) (kind : Kind) (id : ℤ) (version : ℕ) (side : Option Content) (meta : Meta) → IsSide (record { kind = kind; id = id }) side → MayStand mode (record { kind = kind; id = id }) side → Again mode kind id version side meta
object_again mode kind id version None meta good may = deleted_again mode kind id version meta refl
object_again mode kind id version (Some (content.Node tags at)) meta good may =
    subst (λ kind. Again mode kind id version (Some (content.Node tags at)) meta) good.0 (node_again mode id version tags at meta good.1)
object_again mode kind id version (Some (content.Way tags refs)) meta good may =
    subst (λ kind. Again mode kind id version (Some (content.Way tags refs)) meta) good.0 (way_again mode id version tags refs meta good.1.0 good.1.1 (refs_may mode (record { kind = kind; id = id }) tags refs may))
object_again mode kind id version (Some (content.Relation tags members)) meta good may =
    subst (λ kind. Again mode kind id version (Some (content.Relation tags members)) meta) good.0 (relation_again mode id version tags members meta good.1.0 good.1 (members_may mode (record { kind = kind; id = id }) tags members may))

-- ---- the bytes

-- a blank or a control character
abbrev is_low : ℕ → Bool
is_low b = nat_le b 32

low_digits : (b : ℕ) → 48 ≤ b → is_low b ≡ false
low_digits b h = grind (arith, nat_tests)

plain_high : (b : ℕ) → ends_nothing b ≡ true → is_low b ≡ false
plain_high b h = grind (arith, nat_tests)

high_decimal : (n : ℕ) → Unbroken is_low (decimal n)
high_decimal n = decimal_unbroken is_low n (λ b least most. low_digits b least)

high_coord : (z : ℤ) → Unbroken is_low (coord_written z)
high_coord z = coord_unbroken is_low z refl refl low_digits

high_text : (text : List ℕ) → Unbroken is_low (escaped text)
high_text text = text_unbroken is_low text plain_high

high_tag : (tag : Pair) → Unbroken is_low (tag_written tag)
high_tag tag = unbroken_append is_low (escaped tag.0) (61 ∷ escaped tag.1) (high_text tag.0) (refl, high_text tag.1)

high_ref : (id : ℤ) → Unbroken is_low (ref_written id)
high_ref id = (refl, signed_unbroken is_low id refl (λ b least most. low_digits b least))

high_member : (m : Member) → Unbroken is_low (member_written m)
high_member m = unbroken_append is_low (key_written m.key) (64 ∷ escaped m.role) (key_unbroken is_low m.key refl low_digits) (refl, high_text m.role)

high_sight : (visible : Bool) → is_low (sight visible) ≡ false
high_sight true = refl
high_sight false = refl

high_front : (version : ℕ) (visible : Bool) (changeset : ℕ) → AllUnbroken is_low (front_pieces version visible changeset)
high_front version visible changeset = ((refl, high_decimal version), ((refl, (high_sight visible, tt)), ((refl, high_decimal changeset), tt)))

high_back : (meta : Meta) → AllUnbroken is_low (back_pieces meta)
high_back meta = ((refl, unbroken_from ends_nothing is_low (time_written meta.time) plain_high (time_plain meta.time)), ((refl, high_decimal meta.uid), ((refl, high_text meta.user), tt)))

high_content : (c : Content) → AllUnbroken is_low (content_pieces c)
high_content (content.Node tags at) = ((refl, unbroken_listed is_low tag_written tags refl high_tag), ((refl, high_coord at.lon), ((refl, high_coord at.lat), tt)))
high_content (content.Way tags refs) = ((refl, unbroken_listed is_low tag_written tags refl high_tag), ((refl, unbroken_listed is_low ref_written refs refl high_ref), tt))
high_content (content.Relation tags members) = ((refl, unbroken_listed is_low tag_written tags refl high_tag), ((refl, unbroken_listed is_low member_written members refl high_member), tt))

high_side : (kind : Kind) (side : Option Content) → AllUnbroken is_low (side_pieces kind side)
high_side Node None = ((refl, tt), ((refl, tt), ((refl, tt), tt)))
high_side Way None = ((refl, tt), ((refl, tt), tt))
high_side Relation None = ((refl, tt), ((refl, tt), tt))
high_side kind (Some c) = high_content c

-- no piece has a blank or a control character
high_pieces : (key : Key) (version : ℕ) (side : Option Content) (meta : Meta) → AllUnbroken is_low (pieces_of key version side meta)
high_pieces key version side meta =
    all_unbroken_append is_low (front_pieces version (is_some side) meta.changeset) (back_pieces meta ++ side_pieces key.kind side) (high_front version (is_some side) meta.changeset)
    (all_unbroken_append is_low (back_pieces meta) (side_pieces key.kind side) (high_back meta) (high_side key.kind side))

spaced_append : (a b : List (List ℕ)) → spaced (a ++ b) ≡ spaced a ++ spaced b
spaced_append [] b = refl
spaced_append (p ∷ a) b = ap (λ (t : List ℕ). 32 ∷ (p ++ t)) (spaced_append a b) ∙ ap (λ (t : List ℕ). 32 ∷ t) (sym (append_assoc p (spaced a) (spaced b)))

written_is : (key : Key) (version : ℕ) (side : Option Content) (meta : Meta) → written key version side meta ≡ key_written key ++ spaced (pieces_of key version side meta)
unfolding written
written_is key version side meta =
    let front = front_pieces version (is_some side) meta.changeset in
    ap (λ (t : List ℕ). key_written key ++ t) (ap (λ (t : List ℕ). spaced front ++ t) (sym (spaced_append (back_pieces meta) (side_pieces key.kind side))) ∙ sym (spaced_append front (back_pieces meta ++ side_pieces key.kind side)))

-- no byte is one of these, where no blank and no byte from `!` on is
spares_written : (ends : ℕ → Bool) (key : Key) (version : ℕ) (side : Option Content) (meta : Meta) → ((b : ℕ) → is_low b ≡ false → ends b ≡ false) → ends 32 ≡ false →
    Unbroken ends (key_written key ++ spaced (pieces_of key version side meta))
spares_written ends key version side meta fewer space =
    unbroken_append ends (key_written key) (spaced (pieces_of key version side meta)) (unbroken_fewer is_low ends (key_written key) fewer (key_unbroken is_low key refl low_digits))
    (unbroken_spaced ends (pieces_of key version side meta) space (all_unbroken_fewer is_low ends (pieces_of key version side meta) fewer (high_pieces key version side meta)))

no_feed : (bytes : List ℕ) → Unbroken (is 10) bytes → list_all (λ b. not (b == 10)) bytes ≡ true
no_feed [] h = refl
no_feed (b ∷ bytes) h =
    let other : (b == 10) ≡ false = grind (arith, nat_tests, h.0) in
    rw (other, no_feed bytes h.1) refl

-- What is written has no LF.
pub written_is_a_line : (key : Key) (version : ℕ) (side : Option Content) (meta : Meta) → IsOneLine (written key version side meta)
written_is_a_line key version side meta =
    ap (list_all (λ b. not (b == 10))) (written_is key version side meta) ∙ no_feed (key_written key ++ spaced (pieces_of key version side meta)) (spares_written (is 10) key version side meta (λ b h. grind (arith, nat_tests)) refl)

-- What is written spells the object.
pub written_spells : (mode : Mode) (key : Key) (version : ℕ) (side : Option Content) (meta : Meta) → IsWritable key version side meta → MayStand mode key side →
    Spells mode (written key version side meta) (object_with key version side meta)
written_spells mode key version side meta good may =
    let ps = pieces_of key version side meta in
    let front = front_again mode key version meta good.id (key_may mode key side may) good.version_fits good.known in
    let p = object_again mode key.kind key.id version side meta good.content may front in
    let same = freed_same (key_written key ++ spaced ps) (spares_written (is 13) key version side meta (λ b h. grind (arith, nat_tests)) refl) in
    let blank = all_unbroken_fewer is_low is_blank ps (λ b h. grind (arith, nat_tests)) (high_pieces key version side meta) in
    let first = unbroken_fewer is_low is_blank (key_written key) (λ b h. grind (arith, nat_tests)) (key_unbroken is_low key refl low_digits) in
    record {
      first = key_written key;
      pieces = ps;
      cut = ap (λ t. split is_blank (freed t)) (written_is key version side meta) ∙ ap (split is_blank) same ∙ cut_spaced (key_written key) ps first blank;
      key = p.key;
      fields = p.fields;
      values = p.values;
    }
