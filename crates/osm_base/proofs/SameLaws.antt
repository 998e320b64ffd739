-- Each test of equality decides equality.
use Rattle.std.proofs.Common.{◌≡◌, ℕ, ℤ, ◌==◌, ◌&&◌, true, false, List, Option, Some, None, refl, ap, subst, Decides}
use Rattle.std.specs.Ordering.{int_eq, is_eq}
use Rattle.std.specs.Cmp.{signed_Decides, unsigned_Decides, Equal-is}
use Rattle.std.specs.Cmp.Lexicographic.{pointwise_decides}
use Rattle.std.specs.declared.cmp.Ordering.TheVariants.{Equal}
use Rattle.std.proofs.lemmas.Cmp.{tied_itself}
use Rattle.std.proofs.lemmas.Bool.Decides.{Decides-and, Decides-like}
use Rattle.osm_base.proofs.PlaceLaws.{coord_as}
use Rattle.osm_base.specs.Rank.{rank_cmp, is_key}
use Rattle.osm_base.specs.RankLaws.{rank_total, rank_exact}
use Rattle.osm_base.specs.Tags.{Pair}
use Rattle.osm_base.specs.Same.{same_text, same_tag, same_tags, same_refs, same_member, same_members, same_coord, same_content, same_stamp, same_time, same_meta}
use Rattle.osm_base.specs.declared.key.Key.{Key}
use Rattle.osm_base.specs.declared.coord.Coord.{Coord}
use Rattle.osm_base.specs.declared.meta.Stamp.{Stamp}
use Rattle.osm_base.specs.declared.meta.Meta.{Meta}
use Rattle.osm_base.specs.declared.members.Member.{Member}
use Rattle.osm_base.specs.declared.content.Content.{Content}
use Rattle.osm_base.specs.declared.content.Content.TheVariants.{Node, Way, Relation}

pub is_key_decides : (a b : Key) → Decides (is_key a b) (a ≡ b)
is_key_decides a b =
    (λ h. rank_exact a b ((Equal-is (rank_cmp a b)).0 h), λ e. ap is_eq (subst (λ (k : Key). rank_cmp a k ≡ Equal) e (tied_itself rank_total a)))

pub same_text_decides : (a b : List ℕ) → Decides (same_text a b) (a ≡ b)
same_text_decides a b = pointwise_decides unsigned_Decides a b

pub same_tag_decides : (a b : Pair) → Decides (same_tag a b) (a ≡ b)
same_tag_decides a b =
    Decides-like (same_tag a b) (λ h i. (h.0 i, h.1 i)) (λ e. (ap (λ (t : Pair). t.0) e, ap (λ (t : Pair). t.1) e))
    (Decides-and (same_text a.0 b.0) (same_text a.1 b.1) (same_text_decides a.0 b.0) (same_text_decides a.1 b.1))

pub same_tags_decides : (a b : List Pair) → Decides (same_tags a b) (a ≡ b)
same_tags_decides a b = pointwise_decides same_tag_decides a b

pub same_refs_decides : (a b : List ℤ) → Decides (same_refs a b) (a ≡ b)
same_refs_decides a b = pointwise_decides signed_Decides a b

member_as : (a b : Member) → (a.key ≡ b.key) × (a.role ≡ b.role) → a ≡ b
member_as a b h i = record { key = h.0 i; role = h.1 i }

pub same_member_decides : (a b : Member) → Decides (same_member a b) (a ≡ b)
same_member_decides a b =
    Decides-like (same_member a b) (member_as a b) (λ e. (ap (λ (m : Member). m.key) e, ap (λ (m : Member). m.role) e))
    (Decides-and (is_key a.key b.key) (same_text a.role b.role) (is_key_decides a.key b.key) (same_text_decides a.role b.role))

pub same_members_decides : (a b : List Member) → Decides (same_members a b) (a ≡ b)
same_members_decides a b = pointwise_decides same_member_decides a b

pub same_coord_decides : (a b : Coord) → Decides (same_coord a b) (a ≡ b)
same_coord_decides a b =
    Decides-like (same_coord a b) (coord_as a b) (λ e. (ap (λ (c : Coord). c.lon) e, ap (λ (c : Coord). c.lat) e))
    (Decides-and (int_eq a.lon b.lon) (int_eq a.lat b.lat) (signed_Decides a.lon b.lon) (signed_Decides a.lat b.lat))

-- a test that fails decides what never holds
pub never : {P : Type 0} → (P → false ≡ true) → Decides false P
never none = (λ h. cc, none)

pub same_content_decides : (a b : Content) → Decides (same_content a b) (a ≡ b)
same_content_decides (Node tags at) (Node others there) =
    Decides-like (same_tags tags others && same_coord at there) (λ h i. Node (h.0 i) (h.1 i)) (λ e. (cc, cc))
    (Decides-and (same_tags tags others) (same_coord at there) (same_tags_decides tags others) (same_coord_decides at there))
same_content_decides (Node tags at) (Way others theirs) = never (λ e. cc)
same_content_decides (Node tags at) (Relation others theirs) = never (λ e. cc)
same_content_decides (Way tags refs) (Node others there) = never (λ e. cc)
same_content_decides (Way tags refs) (Way others theirs) =
    Decides-like (same_tags tags others && same_refs refs theirs) (λ h i. Way (h.0 i) (h.1 i)) (λ e. (cc, cc))
    (Decides-and (same_tags tags others) (same_refs refs theirs) (same_tags_decides tags others) (same_refs_decides refs theirs))
same_content_decides (Way tags refs) (Relation others theirs) = never (λ e. cc)
same_content_decides (Relation tags members) (Node others there) = never (λ e. cc)
same_content_decides (Relation tags members) (Way others theirs) = never (λ e. cc)
same_content_decides (Relation tags members) (Relation others theirs) =
    Decides-like (same_tags tags others && same_members members theirs) (λ h i. Relation (h.0 i) (h.1 i)) (λ e. (cc, cc))
    (Decides-and (same_tags tags others) (same_members members theirs) (same_tags_decides tags others) (same_members_decides members theirs))

abbrev IsSameStamp : Stamp → Stamp → Type 0
IsSameStamp a b =
    (((((a.year ≡ b.year) × (a.month ≡ b.month)) × (a.day ≡ b.day)) × (a.hour ≡ b.hour)) × (a.minute ≡ b.minute)) × (a.second ≡ b.second)

stamp_as : (a b : Stamp) → IsSameStamp a b → a ≡ b
stamp_as a b h i = record { year = h.0.0.0.0.0 i; month = h.0.0.0.0.1 i; day = h.0.0.0.1 i; hour = h.0.0.1 i; minute = h.0.1 i; second = h.1 i }

stamp_parts : (a b : Stamp) → a ≡ b → IsSameStamp a b
stamp_parts a b e =
    (((((ap (λ (s : Stamp). s.year) e, ap (λ (s : Stamp). s.month) e), ap (λ (s : Stamp). s.day) e), ap (λ (s : Stamp). s.hour) e), ap (λ (s : Stamp). s.minute) e), ap (λ (s : Stamp). s.second) e)

pub same_stamp_decides : (a b : Stamp) → Decides (same_stamp a b) (a ≡ b)
same_stamp_decides a b =
    let date = Decides-and _ (a.day == b.day) (Decides-and (a.year == b.year) (a.month == b.month) (unsigned_Decides a.year b.year) (unsigned_Decides a.month b.month)) (unsigned_Decides a.day b.day) in
    let minute = Decides-and _ (a.minute == b.minute) (Decides-and _ (a.hour == b.hour) date (unsigned_Decides a.hour b.hour)) (unsigned_Decides a.minute b.minute) in
    Decides-like (same_stamp a b) (stamp_as a b) (stamp_parts a b) (Decides-and _ (a.second == b.second) minute (unsigned_Decides a.second b.second))

pub same_time_decides : (a b : Option Stamp) → Decides (same_time a b) (a ≡ b)
same_time_decides None None = (λ h. refl, λ e. refl)
same_time_decides None (Some b) = never (λ e. cc)
same_time_decides (Some a) None = never (λ e. cc)
same_time_decides (Some a) (Some b) = Decides-like (same_stamp a b) (λ e. ap Some e) (λ e. cc) (same_stamp_decides a b)

abbrev IsSameMeta : Meta → Meta → Type 0
IsSameMeta a b = (((a.changeset ≡ b.changeset) × (a.time ≡ b.time)) × (a.uid ≡ b.uid)) × (a.user ≡ b.user)

meta_as : (a b : Meta) → IsSameMeta a b → a ≡ b
meta_as a b h i = record { changeset = h.0.0.0 i; time = h.0.0.1 i; uid = h.0.1 i; user = h.1 i }

meta_parts : (a b : Meta) → a ≡ b → IsSameMeta a b
meta_parts a b e =
    (((ap (λ (m : Meta). m.changeset) e, ap (λ (m : Meta). m.time) e), ap (λ (m : Meta). m.uid) e), ap (λ (m : Meta). m.user) e)

pub same_meta_decides : (a b : Meta) → Decides (same_meta a b) (a ≡ b)
same_meta_decides a b =
    let change = Decides-and (a.changeset == b.changeset) (same_time a.time b.time) (unsigned_Decides a.changeset b.changeset) (same_time_decides a.time b.time) in
    Decides-like (same_meta a b) (meta_as a b) (meta_parts a b) (Decides-and _ (same_text a.user b.user) (Decides-and _ (a.uid == b.uid) change (unsigned_Decides a.uid b.uid)) (same_text_decides a.user b.user))
