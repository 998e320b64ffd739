-- What is told of a key by the objects that pass a test.
use Rattle.std.proofs.Common.{◌≡◌, ◌||◌, ◌&&◌, Bool, true, false, cond, List, [], ◌∷◌, Option, Some, None, refl, ap, ◌∙◌}
use Rattle.std.specs.Prelude.{filter}
use Rattle.std.specs.List.{list_any}
use Rattle.std.specs.Option.{option_or}
use Rattle.osm_base.specs.Rank.{is_key}
use Rattle.osm_base.specs.Tags.{Pair}
use Rattle.osm_base.specs.declared.key.Key.{Key}
use Rattle.osm_base.specs.declared.area.Area.{Area}
use Rattle.osm_table.specs.declared.told.Told.{Told}
use Rattle.osm_table.specs.declared.told.Told.TheVariants.{Mentioned}
use Rattle.osm_table.specs.Told.{told_at}
use Rattle.opl_line.specs.declared.object.OplObject.{OplObject}
use Rattle.download.specs.Tell.{refs_of_side, told_of_object, told_of, telling, is_mentioned, told_by}
use Rattle.download.specs.Filter.{is_whole, keeps, kept, telling_that, mentioned_by, told_by_those}
use Rattle.download.proofs.Found.{told_at_key}

or_none : {A : Type 0} (a : Option A) → a ≡ option_or a None
or_none None = refl
or_none (Some x) = refl

telling_if : (b : Bool) (o : OplObject) (passed : List OplObject) (rest : Option Told) (k : Key) → telling passed k ≡ rest
    → telling (cond b (o ∷ passed) passed) k ≡ option_or rest (cond (b && is_key k o.key) (Some (told_of_object o)) None)
telling_if true o passed rest k e = ap (λ t. option_or t (cond (is_key k o.key) (Some (told_of_object o)) None)) e
telling_if false o passed rest k e = e ∙ or_none rest

telling_passed : (test : OplObject → Bool) (os : List OplObject) (k : Key) → telling (filter test os) k ≡ telling_that test os k
telling_passed test [] k = refl
telling_passed test (o ∷ os) k = telling_if (test o) o (filter test os) (telling_that test os k) k (telling_passed test os k)

mentioned_if : (b : Bool) (o : OplObject) (passed : List OplObject) (rest : Bool) (k : Key) → is_mentioned passed k ≡ rest
    → is_mentioned (cond b (o ∷ passed) passed) k ≡ ((b && list_any (is_key k) (refs_of_side o.side)) || rest)
mentioned_if true o passed rest k e = ap (λ b. list_any (is_key k) (refs_of_side o.side) || b) e
mentioned_if false o passed rest k e = e

mentioned_passed : (test : OplObject → Bool) (os : List OplObject) (k : Key) → is_mentioned (filter test os) k ≡ mentioned_by test os k
mentioned_passed test [] k = refl
mentioned_passed test (o ∷ os) k = mentioned_if (test o) o (filter test os) (mentioned_by test os k) k (mentioned_passed test os k)

all_pass : (os : List OplObject) → os ≡ filter (λ o. true) os
all_pass [] = refl
all_pass (o ∷ os) = ap (λ l. o ∷ l) (all_pass os)

kept_passed : (b : Bool) (test : OplObject → Bool) (os : List OplObject) → cond b os (filter test os) ≡ filter (λ o. b || test o) os
kept_passed true test os = all_pass os
kept_passed false test os = refl

told_passed : (test : OplObject → Bool) (os : List OplObject) (k : Key) → told_by (filter test os) k ≡ told_by_those test os k
told_passed test os k = λ i. option_or (telling_passed test os k i) (cond (mentioned_passed test os k i) (Some Mentioned) None)

-- What the filter tells of a key.
pub filtered_at_key : (objects : List OplObject) (area : Option Area) (wanted : List Pair) (k : Key)
    → told_at (told_of (kept objects area wanted)) k ≡ told_by_those (λ o. is_whole area wanted || keeps objects area wanted o) objects k
filtered_at_key objects area wanted k =
    told_at_key (kept objects area wanted) k
    ∙ ap (λ os. told_by os k) (kept_passed (is_whole area wanted) (keeps objects area wanted) objects)
    ∙ told_passed (λ o. is_whole area wanted || keeps objects area wanted o) objects k
