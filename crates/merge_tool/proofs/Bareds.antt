-- What becomes of an entry to which something refers.
use Rattle.std.proofs.Common.{◌≡◌, ◌&&◌, ◌||◌, Bool, true, false, not, Option, Some, None, is_some, cond, refl, sym, ◌∙◌, ap}
use Rattle.std.specs.Option.{option_map}
use Rattle.std.proofs.lemmas.Bool.{true≢false}
use Rattle.osm_base.specs.declared.content.Content.{Content}
use Rattle.osm_table.specs.declared.entry.Base.{Base}
use Rattle.osm_table.specs.declared.entry.Conflict.{Conflict}
use Rattle.osm_table.specs.declared.entry.Entry.{Entry}
use Rattle.osm_table.specs.declared.entry.Entry.TheVariants.{Incomplete, Known}
use Rattle.osm_table.specs.Table.{held_by, known_base}
use Rattle.tool_api.specs.Staged.{lost_of, bared, back}
use Rattle.merge_tool.specs.Passes.{is_there}

dead_by : (b : Base) (f : Option Conflict) (n l : Bool) → is_some (held_by (known_base b f)) ≡ l → l ≡ true → cond (n && not (is_some (held_by (known_base b f)))) (Some Incomplete) (Some (Known b None f)) ≡ Some (Known b None f)
dead_by b f n false e h = absurd (true≢false (sym h))
dead_by b f n true e h = ap (λ (x : Bool). cond (n && not x) (Some Incomplete) (Some (Known b None f))) e ∙ by n
  where
    by : (n : Bool) → cond (n && false) (Some Incomplete) (Some (Known b None f)) ≡ Some (Known b None f)
    by true = refl
    by false = refl

-- what was lost isn't bared
pub bared_lost : (n : Bool) (o : Option Entry) → is_some (lost_of o) ≡ true → bared n o ≡ o
bared_lost n None h = absurd (true≢false (sym h))
bared_lost n (Some Incomplete) h = refl
bared_lost n (Some (Known b None f)) h = dead_by b f n true h refl
bared_lost n (Some (Known b (Some c) f)) h = refl

-- what isn't there, and wasn't lost, enters as Incomplete
pub bared_gone : (o : Option Entry) → is_there o ≡ false → is_some (lost_of o) ≡ false → bared true o ≡ Some Incomplete
bared_gone None h l = refl
bared_gone (Some Incomplete) h l = refl
bared_gone (Some (Known b None f)) h l = ap (λ (x : Bool). cond (not x) (Some Incomplete) (Some (Known b None f))) l
bared_gone (Some (Known b (Some c) f)) h l = absurd (true≢false h)

-- what was lost and what lives is as before
pub lost_bared : (n : Bool) (o : Option Entry) → lost_of (bared n o) ≡ lost_of o
lost_bared true None = refl
lost_bared false None = refl
lost_bared n (Some Incomplete) = refl
lost_bared n (Some (Known b (Some c) f)) = refl
lost_bared n (Some (Known b None f)) = by (held_by (known_base b f)) refl
  where
    unnamed : (n : Bool) (x : Option Content) → held_by (known_base b f) ≡ x → lost_of (cond (n && false) (Some Incomplete) (Some (Known b None f))) ≡ held_by (known_base b f)
    unnamed true x e = refl
    unnamed false x e = refl

    named : (n : Bool) → held_by (known_base b f) ≡ None → lost_of (cond (n && true) (Some Incomplete) (Some (Known b None f))) ≡ held_by (known_base b f)
    named true e = sym e
    named false e = refl

    by : (x : Option Content) → held_by (known_base b f) ≡ x → lost_of (cond (n && not (is_some (held_by (known_base b f)))) (Some Incomplete) (Some (Known b None f))) ≡ held_by (known_base b f)
    by (Some c) e = ap (λ (x : Option Content). lost_of (cond (n && not (is_some x)) (Some Incomplete) (Some (Known b None f)))) e ∙ unnamed n (Some c) e
    by None e = ap (λ (x : Option Content). lost_of (cond (n && not (is_some x)) (Some Incomplete) (Some (Known b None f)))) e ∙ named n e

-- one name after another
pub bared_twice : (a b : Bool) (o : Option Entry) → bared a (bared b o) ≡ bared (b || a) o
bared_twice a true None = refl
bared_twice a false None = refl
bared_twice a b (Some Incomplete) = refl
bared_twice a b (Some (Known x (Some c) f)) = refl
bared_twice a b (Some (Known x None f)) = by a b (is_some (held_by (known_base x f))) refl
  where
    by : (a b l : Bool) → is_some (held_by (known_base x f)) ≡ l → bared a (cond (b && not (is_some (held_by (known_base x f)))) (Some Incomplete) (Some (Known x None f))) ≡ cond ((b || a) && not (is_some (held_by (known_base x f)))) (Some Incomplete) (Some (Known x None f))
    by a false l e = refl
    by a true l e = set l e
      where
        set : (l : Bool) → is_some (held_by (known_base x f)) ≡ l → bared a (cond (not (is_some (held_by (known_base x f)))) (Some Incomplete) (Some (Known x None f))) ≡ cond (not (is_some (held_by (known_base x f)))) (Some Incomplete) (Some (Known x None f))
        set true e = ap (λ (l : Bool). bared a (cond (not l) (Some Incomplete) (Some (Known x None f)))) e ∙ dead_by x f a true e refl ∙ sym (ap (λ (l : Bool). cond (not l) (Some Incomplete) (Some (Known x None f))) e)
        set false e = ap (λ (l : Bool). bared a (cond (not l) (Some Incomplete) (Some (Known x None f)))) e ∙ sym (ap (λ (l : Bool). cond (not l) (Some Incomplete) (Some (Known x None f))) e)

-- what came back stays so
pub back_twice : (o : Option Entry) → option_map back (option_map back o) ≡ option_map back o
back_twice None = refl
back_twice (Some Incomplete) = refl
back_twice (Some (Known b m f)) = refl
