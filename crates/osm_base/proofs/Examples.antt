-- Texts on which the grammars of keys, numbers and coordinates compute.
use Rattle.std.proofs.Common.{◌≡◌, ℤ, pos, negsuc, false, [], ◌∷◌, Some, None, refl}
use Rattle.std.specs.Prelude.{codes}
use Rattle.std.specs.Fmt.{digits}
use Rattle.std.specs.declared.cmp.Ordering.TheVariants.{Less, Equal, Greater}
use Rattle.osm_base.specs.declared.key.Kind.TheVariants.{Node, Way, Relation}
use Rattle.osm_base.specs.declared.key.Kind.{Kind}
use Rattle.osm_base.specs.declared.key.Key.{Key}
use Rattle.osm_base.specs.declared.coord.Coord.{Coord}
use Rattle.osm_base.specs.Rank.{rank_cmp}
use Rattle.osm_base.specs.Number.{number_text, id_text, kind_letter, key_text, key_written}
use Rattle.osm_base.specs.Coord.{part_text, whole_text, pointed_text, size_text, coord_text, places_of, size_written, coord_written}
use Rattle.osm_base.specs.Place.{place_at, shifted}
use Rattle.osm_base.specs.RisingKeys.{rises, with_key, without_key}

abbrev key : Kind → ℤ → Key
key kind id = record { kind = kind; id = id }

abbrev east : Coord
east = record { lon = pos 1800000000; lat = pos 0; on_map = refl }

-- ---- the rank order

-- nodes before ways before relations, whatever their ids
node_before_way : rank_cmp (key Node (negsuc 8)) (key Way (pos 1)) ≡ Less
node_before_way = refl

relation_after_way : rank_cmp (key Relation (pos 1)) (key Way (negsuc 8)) ≡ Greater
relation_after_way = refl

-- positive ids rise, then come -1, -2 and on
nine_before_ten : rank_cmp (key Node (pos 9)) (key Node (pos 10)) ≡ Less
nine_before_ten = refl

positive_before_negative : rank_cmp (key Node (pos 1000000000000000000)) (key Node (negsuc 0)) ≡ Less
positive_before_negative = refl

one_before_two_below_zero : rank_cmp (key Node (negsuc 0)) (key Node (negsuc 1)) ≡ Less
one_before_two_below_zero = refl

itself : rank_cmp (key Way (negsuc 11)) (key Way (negsuc 11)) ≡ Equal
itself = refl

-- ---- numbers

number_taken : number_text 3 (codes "042") ≡ Some 42
unfolding number_text
number_taken = refl

number_too_long : number_text 3 (codes "0042") ≡ None
unfolding number_text
number_too_long = refl

number_empty : number_text 3 [] ≡ None
unfolding number_text
number_empty = refl

number_signed : number_text 3 (codes "+42") ≡ None
unfolding number_text
number_signed = refl

-- ---- ids

id_negative : id_text (codes "-12") ≡ Some (negsuc 11)
unfolding id_text number_text
id_negative = refl

id_zero : id_text (codes "0") ≡ None
unfolding id_text number_text
id_zero = refl

id_minus_zero : id_text (codes "-0") ≡ None
unfolding id_text number_text
id_minus_zero = refl

id_bare_sign : id_text (codes "-") ≡ None
unfolding id_text number_text
id_bare_sign = refl

id_plus : id_text (codes "+1") ≡ None
unfolding id_text number_text
id_plus = refl

-- leading zeros to 19 digits
id_zeros : id_text (codes "0000000000000000012") ≡ Some (pos 12)
unfolding id_text number_text
id_zeros = refl

id_zeros_too_many : id_text (codes "00000000000000000012") ≡ None
unfolding id_text number_text
id_zeros_too_many = refl

id_least : id_text (codes "-1000000000000000000") ≡ Some (negsuc 999999999999999999)
unfolding id_text number_text
id_least = refl

-- ---- keys

key_way : key_text (codes "w-12") ≡ Some (key Way (negsuc 11))
unfolding key_text kind_letter id_text number_text
key_way = refl

key_zero : key_text (codes "n0") ≡ None
unfolding key_text kind_letter id_text number_text
key_zero = refl

key_greatest : key_text (codes "n1000000000000000000") ≡ Some (key Node (pos 1000000000000000000))
unfolding key_text kind_letter id_text number_text
key_greatest = refl

key_too_great : key_text (codes "n1000000000000000001") ≡ None
unfolding key_text kind_letter id_text number_text
key_too_great = refl

key_other_letter : key_text (codes "c1") ≡ None
unfolding key_text kind_letter id_text number_text
key_other_letter = refl

key_letter_alone : key_text (codes "r") ≡ None
unfolding key_text kind_letter id_text number_text
key_letter_alone = refl

key_empty : key_text [] ≡ None
unfolding key_text
key_empty = refl

relation_written : key_written (key Relation (negsuc 104)) ≡ codes "r-105"
unfolding digits
relation_written = refl

-- ---- coordinates read

coord_least_part : coord_text (codes "-0.0000001") ≡ Some (negsuc 0)
unfolding coord_text size_text pointed_text whole_text part_text number_text
coord_least_part = refl

coord_tenth : coord_text (codes "0.10") ≡ Some (pos 1000000)
unfolding coord_text size_text pointed_text whole_text part_text number_text
coord_tenth = refl

coord_whole : coord_text (codes "180") ≡ Some (pos 1800000000)
unfolding coord_text size_text pointed_text whole_text part_text number_text
coord_whole = refl

coord_zeros : coord_text (codes "007.5") ≡ Some (pos 75000000)
unfolding coord_text size_text pointed_text whole_text part_text number_text
coord_zeros = refl

coord_minus_zero : coord_text (codes "-0") ≡ Some (pos 0)
unfolding coord_text size_text pointed_text whole_text part_text number_text
coord_minus_zero = refl

-- a reader of coordinates tests no range
coord_beyond : coord_text (codes "-999.9999999") ≡ Some (negsuc 9999999998)
unfolding coord_text size_text pointed_text whole_text part_text number_text
coord_beyond = refl

coord_bare_point : coord_text (codes "1.") ≡ None
unfolding coord_text size_text pointed_text whole_text part_text number_text
coord_bare_point = refl

coord_no_whole : coord_text (codes ".5") ≡ None
unfolding coord_text size_text pointed_text whole_text part_text number_text
coord_no_whole = refl

coord_four_digits : coord_text (codes "1234") ≡ None
unfolding coord_text size_text pointed_text whole_text part_text number_text
coord_four_digits = refl

coord_eight_places : coord_text (codes "0.12345678") ≡ None
unfolding coord_text size_text pointed_text whole_text part_text number_text
coord_eight_places = refl

coord_two_points : coord_text (codes "1.2.3") ≡ None
unfolding coord_text size_text pointed_text whole_text part_text number_text
coord_two_points = refl

coord_empty : coord_text [] ≡ None
unfolding coord_text size_text pointed_text whole_text part_text number_text
coord_empty = refl

-- ---- coordinates written

written_half : coord_written (pos 135000000) ≡ codes "13.5"
unfolding size_written places_of digits
written_half = refl

written_least_part : coord_written (negsuc 0) ≡ codes "-0.0000001"
unfolding size_written places_of digits
written_least_part = refl

written_inner_zeros : coord_written (pos 10010000) ≡ codes "1.001"
unfolding size_written places_of digits
written_inner_zeros = refl

written_whole : coord_written (negsuc 1799999999) ≡ codes "-180"
unfolding size_written places_of digits
written_whole = refl

written_zero : coord_written (pos 0) ≡ codes "0"
unfolding size_written places_of digits
written_zero = refl

-- ---- places

at_the_edge : place_at (negsuc 1799999999) (pos 900000000) ≡ Some (record { lon = negsuc 1799999999; lat = pos 900000000; on_map = refl })
unfolding place_at
at_the_edge = refl

beyond_the_edge : place_at (pos 1800000001) (pos 0) ≡ None
unfolding place_at
beyond_the_edge = refl

beyond_the_pole : place_at (pos 0) (negsuc 900000000) ≡ None
unfolding place_at
beyond_the_pole = refl

moved_west : shifted east (negsuc 299999999) (pos 5) ≡ Some (record { lon = pos 1500000000; lat = pos 5; on_map = refl })
unfolding place_at
moved_west = refl

-- nothing goes round at 180 degrees
moved_too_far : shifted east (pos 1) (pos 0) ≡ None
unfolding place_at
moved_too_far = refl

-- ---- rising lists of keys

put_between : with_key (key Node (pos 2)) (key Node (pos 1) ∷ key Node (negsuc 0) ∷ []) ≡ key Node (pos 1) ∷ key Node (pos 2) ∷ key Node (negsuc 0) ∷ []
put_between = refl

put_again : with_key (key Node (pos 1)) (key Node (pos 1) ∷ key Way (pos 1) ∷ []) ≡ key Node (pos 1) ∷ key Way (pos 1) ∷ []
put_again = refl

taken_out : without_key (key Node (pos 1)) (key Node (pos 1) ∷ key Way (pos 1) ∷ []) ≡ key Way (pos 1) ∷ []
taken_out = refl

rises_once : rises (key Node (pos 1) ∷ key Node (pos 1) ∷ []) ≡ false
rises_once = refl
