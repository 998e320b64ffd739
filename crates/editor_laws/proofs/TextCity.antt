-- What a generated city brings.
use Rattle.std.proofs.Common.{◌≡◌, ◌<◌, ◌≤◌, ℕ, zero, suc, ◌&&◌, ◌*◌, ◌+◌, Bool, true, false, not, nat_lt, List, [], ◌∷◌, ◌++◌, map, refl, ap, arith}
use Rattle.std.specs.Prelude.{codes, slice_index}
use Rattle.std.specs.Fmt.{decimal}
use Rattle.std.specs.List.{AllByRecursion, list_all}
use Rattle.std.proofs.lemmas.Bool.{and_from, and_parts}
use Rattle.std.proofs.lemmas.Bool.Decides.{nat_tests}
use Rattle.std.proofs.lemmas.Str.{IsUtf8-from_ascii}
use Rattle.osm_base.specs.declared.key.Key.{Key}
use Rattle.osm_base.specs.declared.key.Kind.{Kind}
use Rattle.osm_base.specs.declared.key.Kind.TheVariants as kind
use Rattle.osm_base.specs.declared.content.Content.{Content}
use Rattle.osm_base.proofs.Lists.{all_joined}
use Rattle.osm_table.specs.Told.{ToldValue, with_told}
use Rattle.opl_text.specs.Time.{is_date}
use Rattle.opl_line.specs.Writable.{IsMeta, IsText}
use Rattle.opl_line.proofs.Unbroken.{Unbroken, decimal_unbroken}
use Rattle.sample_city.specs.City.{all_of, all_told, as_told, city, city_meta, junction, leg, numbered, objects, route, street, ten_from}
use Rattle.editor_laws.specs.Texts.{AreRoles, HasTexts, IsTextTold}
use Rattle.editor_laws.proofs.TextTags.{no_texts}
use Rattle.editor_laws.proofs.TextFiles.{nothing_texts, with_told_texts}

-- Plain ASCII.

abbrev is_plain : ℕ → Bool
is_plain b = nat_lt 0 b && nat_lt b 128

abbrev ArePlain : List ℕ → Type 0
ArePlain text = list_all is_plain text ≡ true

less_by : (b : ℕ) → nat_lt b 128 ≡ true → b < 128
less_by b e = grind (arith, nat_tests, e)

all_ascii : (text : List ℕ) → ArePlain text → (i : ℕ) → slice_index text i < 128
all_ascii [] h i = omega arith
all_ascii (b ∷ bs) h zero = less_by b (and_parts (nat_lt 0 b) (nat_lt b 128) (and_parts (is_plain b) (list_all is_plain bs) h).0).1
all_ascii (b ∷ bs) h (suc i) = all_ascii bs (and_parts (is_plain b) (list_all is_plain bs) h).1 i

no_zero : (text : List ℕ) → ArePlain text → list_all (λ b. nat_lt 0 b) text ≡ true
no_zero [] h = refl
no_zero (b ∷ bs) h =
    let p = and_parts (is_plain b) (list_all is_plain bs) h in
    and_from (nat_lt 0 b) (list_all (λ b. nat_lt 0 b) bs) (and_parts (nat_lt 0 b) (nat_lt b 128) p.0).0 (no_zero bs p.1)

pub plain_text : (text : List ℕ) → ArePlain text → IsText text
plain_text text h = (IsUtf8-from_ascii text (all_ascii text h), no_zero text h)

plain_joined : (xs ys : List ℕ) → ArePlain xs → ArePlain ys → ArePlain (xs ++ ys)
plain_joined [] ys h i = i
plain_joined (x ∷ xs) ys h i =
    let p = and_parts (is_plain x) (list_all is_plain xs) h in
    and_from (is_plain x) (list_all is_plain (xs ++ ys)) p.0 (plain_joined xs ys p.1 i)

-- digits
digit_is : (b : ℕ) → 48 ≤ b → b ≤ 57 → not (is_plain b) ≡ false
digit_is b low high =
    let some : nat_lt 0 b ≡ true = grind (arith, nat_tests, low) in
    let few : nat_lt b 128 ≡ true = grind (arith, nat_tests, high) in
    ap not (and_from (nat_lt 0 b) (nat_lt b 128) some few)

not_false : (b : Bool) → not b ≡ false → b ≡ true
not_false true e = refl
not_false false e = absurd cc

plain_by : (text : List ℕ) → Unbroken (λ b. not (is_plain b)) text → ArePlain text
plain_by [] h = refl
plain_by (b ∷ bs) h = and_from (is_plain b) (list_all is_plain bs) (not_false (is_plain b) h.0) (plain_by bs h.1)

number_plain : (n : ℕ) → ArePlain (decimal n)
number_plain n = plain_by (decimal n) (decimal_unbroken (λ b. not (is_plain b)) n digit_is)

-- The objects.

known : IsMeta city_meta
unfolding is_date
known = record { changeset = omega arith; time = refl; uid = omega arith; user = plain_text (codes "city") refl }

junction_texts : (k : ℕ) → HasTexts (junction k)
junction_texts k = no_texts

street_texts : (j : ℕ) → HasTexts (street j)
street_texts j =
    (tt, ((plain_text (codes "highway") refl, plain_text (codes "residential") refl), ((plain_text (codes "name") refl, plain_text (codes "Street " ++ decimal j) (plain_joined (codes "Street ") (decimal j) refl (number_plain j))), tt)))

legs_texts : (ids : List _) → AreRoles (map leg ids)
legs_texts [] = tt
legs_texts (id ∷ ids) = (plain_text [] refl, legs_texts ids)

route_texts : (q : ℕ) → HasTexts (route q)
route_texts q =
    ((tt, ((plain_text (codes "ref") refl, plain_text (decimal q) (number_plain q)), ((plain_text (codes "type") refl, plain_text (codes "route") refl), tt))), legs_texts (ten_from _))

abbrev IsTextPair : Key × Content → Type 0
IsTextPair o = HasTexts o.1

row_texts : (k : Kind) (content : ℕ → Content) → ((i : ℕ) → HasTexts (content i)) → (ns : List ℕ) → AllByRecursion IsTextPair (map (λ i. (numbered k i, content i)) ns)
row_texts k content h [] = tt
row_texts k content h (n ∷ ns) = (h n, row_texts k content h ns)

objects_texts : (streets : ℕ) → AllByRecursion IsTextPair (objects streets)
objects_texts streets =
    all_joined IsTextPair (all_of kind.Node junction (9 * streets + 1)) _ (row_texts kind.Node junction junction_texts _)
    (all_joined IsTextPair (all_of kind.Way street streets) _ (row_texts kind.Way street street_texts _) (row_texts kind.Relation route route_texts _))

all_told_texts : (os : List (Key × Content)) (m : ToldValue) → AllByRecursion IsTextPair os → IsTextTold m → IsTextTold (all_told m os)
all_told_texts [] m i h = h
all_told_texts (o ∷ os) m i h = all_told_texts os (with_told m o.0 (as_told o.1)) i.1 (with_told_texts m o.0 (as_told o.1) (i.0, known) h)

-- What a city tells.
pub city_texts : (streets : ℕ) → IsTextTold (city streets)
city_texts streets = all_told_texts (objects streets) _ (objects_texts streets) nothing_texts
