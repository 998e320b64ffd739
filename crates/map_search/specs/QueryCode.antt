-- A code of queries, by which proofs tell them apart: what stands in one, each behind its parts, gives it back.
use Rattle.std.specs.Prelude.{◌≡◌, ℕ, ◌==◌, if◌then◌else◌, List, [], ◌∷◌, Option, None, refl}
use Rattle.std.specs.Coded.{Coded, code_by, coded×, coded_ℕ, coded_list, coded_option}
use Rattle.osm_base.specs.declared.key.Kind.TheVariants.{Node, Way, Relation}
use Rattle.osm_base.specs.Rank.{kind_place}
use Rattle.std.proofs.Common.{◌∙◌, ap}
use Rattle.map_search.specs.Query.{QueryValue, OfKind, Tag, IsNew, IsChanged, IsDeleted, IsIncomplete, HasConflict, Child, Parent, Not, And, Or}

-- a number for the form, and a tag
abbrev Item : Type 0
Item = ℕ × (List ℕ × Option (List ℕ))

abbrev plain : ℕ → Item
plain n = (n, ([], None))

-- the parts of a query, and then what they are parts of
abbrev pub flat : QueryValue → List Item → List Item
flat (OfKind kind) rest = plain (kind_place kind) ∷ rest
flat (Tag key value) rest = (3, (key, value)) ∷ rest
flat IsNew rest = plain 4 ∷ rest
flat IsChanged rest = plain 5 ∷ rest
flat IsDeleted rest = plain 6 ∷ rest
flat IsIncomplete rest = plain 7 ∷ rest
flat HasConflict rest = plain 8 ∷ rest
flat (Child q) rest = flat q (plain 9 ∷ rest)
flat (Parent q) rest = flat q (plain 10 ∷ rest)
flat (Not q) rest = flat q (plain 11 ∷ rest)
flat (And a b) rest = flat a (flat b (plain 12 ∷ rest))
flat (Or a b) rest = flat a (flat b (plain 13 ∷ rest))

-- the last part, or both of the last two, made one
abbrev with_one : (QueryValue → QueryValue) → List QueryValue → List QueryValue
with_one f [] = []
with_one f (q ∷ qs) = f q ∷ qs

abbrev with_two : (QueryValue → QueryValue → QueryValue) → List QueryValue → List QueryValue
with_two f [] = []
with_two f (b ∷ []) = []
with_two f (b ∷ a ∷ qs) = f a b ∷ qs

abbrev put : ℕ → List ℕ → Option (List ℕ) → List QueryValue → List QueryValue
put n key value qs =
    if n == 0 then OfKind Node ∷ qs else
    (if n == 1 then OfKind Way ∷ qs else
    (if n == 2 then OfKind Relation ∷ qs else
    (if n == 3 then Tag key value ∷ qs else
    (if n == 4 then IsNew ∷ qs else
    (if n == 5 then IsChanged ∷ qs else
    (if n == 6 then IsDeleted ∷ qs else
    (if n == 7 then IsIncomplete ∷ qs else
    (if n == 8 then HasConflict ∷ qs else
    (if n == 9 then with_one Child qs else
    (if n == 10 then with_one Parent qs else
    (if n == 11 then with_one Not qs else
    (if n == 12 then with_two And qs else with_two Or qs))))))))))))

abbrev built : List Item → List QueryValue → List QueryValue
built [] qs = qs
built (item ∷ items) qs = built items (put item.0 item.1.0 item.1.1 qs)

abbrev only : List QueryValue → QueryValue
only [] = IsNew
only (q ∷ qs) = q

built-flat : (q : QueryValue) (rest : List Item) (qs : List QueryValue) → built (flat q rest) qs ≡ built rest (q ∷ qs)
built-flat (OfKind Node) rest qs = refl
built-flat (OfKind Way) rest qs = refl
built-flat (OfKind Relation) rest qs = refl
built-flat (Tag key value) rest qs = refl
built-flat IsNew rest qs = refl
built-flat IsChanged rest qs = refl
built-flat IsDeleted rest qs = refl
built-flat IsIncomplete rest qs = refl
built-flat HasConflict rest qs = refl
built-flat (Child q) rest qs = built-flat q (plain 9 ∷ rest) qs
built-flat (Parent q) rest qs = built-flat q (plain 10 ∷ rest) qs
built-flat (Not q) rest qs = built-flat q (plain 11 ∷ rest) qs
built-flat (And a b) rest qs = built-flat a (flat b (plain 12 ∷ rest)) qs ∙ built-flat b (plain 12 ∷ rest) (a ∷ qs)
built-flat (Or a b) rest qs = built-flat a (flat b (plain 13 ∷ rest)) qs ∙ built-flat b (plain 13 ∷ rest) (a ∷ qs)

abbrev parts_of : QueryValue → List Item
parts_of q = flat q []

abbrev query_from : List Item → QueryValue
query_from items = only (built items [])

pub query_from-parts_of : (q : QueryValue) → query_from (parts_of q) ≡ q
query_from-parts_of q = ap only (built-flat q [] [])

abbrev pub query_code : Coded QueryValue
query_code = code_by (List Item) (coded_list (coded× coded_ℕ (coded× (coded_list coded_ℕ) (coded_option (coded_list coded_ℕ))))) parts_of query_from query_from-parts_of
